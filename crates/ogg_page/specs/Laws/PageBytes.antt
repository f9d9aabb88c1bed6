-- How many bytes a page has, and that they are bytes.
use Rattle.std.proofs.Common.{◌≡◌, ℕ, zero, suc, ◌*◌, ◌<◌, ◌≤◌, List, [], ◌∷◌, ◌++◌, length, sum, refl, arith}
use Rattle.std.specs.Prelude.{codes}
use Rattle.std.specs.Int.{byte_at, bytes_low_first}
use Rattle.std.specs.List.{AllByRecursion}
use Rattle.std.proofs.lemmas.List.Sums.{sum_by-cons}
use Rattle.std.proofs.lemmas.Grind.{flat_map-append}
use Rattle.byteorder.specs.Endian.{little_bytes}
use Rattle.page_checksum.specs.Checksum.{checksum_of}
use Rattle.ogg_page.specs.Page.{Page, IsPage, IsByte, AreBytes, fixed_part, page_bytes, page_size, bytes_with, bytes_of_pages}

-- bytes add up to at most 255 each
sum_bytes : (values : List ℕ) → AllByRecursion IsByte values → sum values ≤ 255 * length values
sum_bytes [] all = omega arith
sum_bytes (v ∷ values) (first, rest) = omega (arith, sum_by-cons (λ (x : ℕ). x) v values, first, sum_bytes values rest)

pub page_fits : (page : Page) → IsPage page → page_size page ≤ 65307
page_fits page is = omega (arith, is.values, is.whole, sum_bytes page.lacing is.lacing)

pub all_both : {X : Type 0} (P : X → Type 0) (xs ys : List X) → AllByRecursion P xs → AllByRecursion P ys → AllByRecursion P (xs ++ ys)
all_both P [] ys p q = q
all_both P (x ∷ xs) ys (first, rest) q = (first, all_both P xs ys rest q)

pub each_of_all : (xs : List ℕ) → AllByRecursion IsByte xs → AreBytes xs
each_of_all [] all i = omega arith
each_of_all (x ∷ xs) all zero = all.0
each_of_all (x ∷ xs) all (suc i) = each_of_all xs all.1 i

-- the bytes that a number is spelled with
one_byte : (i x : ℕ) → byte_at i x < 256
one_byte zero x = omega arith
one_byte (suc i) x = omega arith

number_bytes : (i n x : ℕ) → AllByRecursion IsByte (bytes_low_first i n x)
number_bytes i zero x = tt
number_bytes i (suc n) x = (one_byte i x, number_bytes (suc i) n x)

fixed_bytes : (checksum : ℕ) (page : Page) → IsPage page → AllByRecursion IsByte (fixed_part checksum page)
unfolding fixed_part
fixed_bytes checksum page is =
    let last : AllByRecursion IsByte (length page.lacing ∷ []) = (omega (arith, is.values), tt) in
    let front : AllByRecursion IsByte (codes "OggS" ++ 0 ∷ page.flags ∷ []) = (omega arith, (omega arith, (omega arith, (omega arith, (omega arith, (is.flags, tt)))))) in
    let l1 : List ℕ = codes "OggS" ++ 0 ∷ page.flags ∷ [] in
    let l2 : List ℕ = l1 ++ little_bytes 8 page.position in
    let l3 : List ℕ = l2 ++ little_bytes 4 page.serial in
    let l4 : List ℕ = l3 ++ little_bytes 4 page.sequence in
    let l5 : List ℕ = l4 ++ little_bytes 4 checksum in
    let a2 : AllByRecursion IsByte l2 = all_both IsByte l1 (little_bytes 8 page.position) front (number_bytes 0 8 page.position) in
    let a3 : AllByRecursion IsByte l3 = all_both IsByte l2 (little_bytes 4 page.serial) a2 (number_bytes 0 4 page.serial) in
    let a4 : AllByRecursion IsByte l4 = all_both IsByte l3 (little_bytes 4 page.sequence) a3 (number_bytes 0 4 page.sequence) in
    let a5 : AllByRecursion IsByte l5 = all_both IsByte l4 (little_bytes 4 checksum) a4 (number_bytes 0 4 checksum) in
    all_both IsByte l5 (length page.lacing ∷ []) a5 last

pub all_bytes : (page : Page) → IsPage page → AllByRecursion IsByte (page_bytes page)
unfolding page_bytes
all_bytes page is =
    let checksum : ℕ = checksum_of (bytes_with 0 page) in
    all_both IsByte (fixed_part checksum page ++ page.lacing) page.body
    (all_both IsByte (fixed_part checksum page) page.lacing (fixed_bytes checksum page is) is.lacing) is.body

pub page_begins : (page : Page) → (next : ℕ) × (rest : List ℕ) × (page_bytes page ≡ 0x4F ∷ next ∷ rest)
unfolding page_bytes fixed_part
page_begins page = (_, _, refl)

pub bytes_both : (p q : List Page) → bytes_of_pages (p ++ q) ≡ bytes_of_pages p ++ bytes_of_pages q
bytes_both p q = flat_map-append page_bytes p q

pub all_bytes_of_pages : (pages : List Page) → AllByRecursion IsPage pages → AllByRecursion IsByte (bytes_of_pages pages)
all_bytes_of_pages [] are = tt
all_bytes_of_pages (page ∷ pages) (first, rest) =
    all_both IsByte (page_bytes page) (bytes_of_pages pages) (all_bytes page first) (all_bytes_of_pages pages rest)
