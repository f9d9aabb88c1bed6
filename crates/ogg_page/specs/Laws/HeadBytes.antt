-- What stands in a page's head.
use Rattle.std.proofs.Common.{◌≡◌, ℕ, ◌+◌, ◌-◌, ◌<◌, ◌≤◌, ◌^◌, Bool, true, false, List, [], ◌∷◌, ◌++◌, length, take, drop, sum, min, refl, ◌∙◌, ap, arith, length-append, length-drop, Result, Ok, Err}
use Rattle.std.specs.Prelude.{nat_lt, if◌then◌else◌, slice_index}
use Rattle.std.proofs.Math.Seq.{take-append-add}
use Rattle.std.proofs.lemmas.Bool.{le-ltb}
use Rattle.std.proofs.lemmas.List.{take_at}
use Rattle.byteorder.specs.Endian.{little_bytes, little_number}
use Rattle.ogg_page.specs.Head.{Stands, head_size, checksum_in, header_with, header_of}
use Rattle.ogg_page.specs.Page.{Page, IsPage, fixed_part, page_bytes, bytes_with}
use Rattle.ogg_page.specs.Reading.{header_at, lacing_at}
use Rattle.ogg_page.specs.declared.fault.PageFault.{PageFault}
use Rattle.ogg_page.specs.declared.fault.PageFault.TheVariants.{Short}
use Rattle.ogg_page.specs.declared.head.PageHeader.{PageHeader}
use Rattle.ogg_page.specs.Laws.Prefixes.{parts}
use Rattle.ogg_page.specs.Laws.ReadAgain.{length-page_bytes, number_4, number_8, checksum_small}

-- the bytes begin with the head and the table of a page
record HasHead (head : List ℕ) (page : Page) : Type 0 where
  rest : List ℕ
  spelled : head ≡ fixed_part (checksum_in page) page ++ (page.lacing ++ rest)

fixed_size : (checksum : ℕ) (page : Page) → length (fixed_part checksum page) ≡ 27
unfolding fixed_part
fixed_size checksum page = refl

front_of_three : (a b c : List ℕ) (n k : ℕ) → n ≡ length a + length b + k → take n (a ++ (b ++ c)) ≡ a ++ (b ++ take k c)
front_of_three a b c n k is =
    ap (λ i. take i (a ++ (b ++ c))) (let e : n ≡ length a + (length b + k) = omega (arith, is) in e)
    ∙ take-append-add a (b ++ c) (length b + k) ∙ ap (λ l. a ++ l) (take-append-add b c k)

spelled_so : (bytes : List ℕ) (page : Page) → Stands bytes page
    → (rest : List ℕ) × (bytes ≡ fixed_part (checksum_in page) page ++ (page.lacing ++ rest))
unfolding page_bytes
spelled_so bytes page s = (page.body ++ s.tail, s.spelled ∙ parts (checksum_in page) page s.tail)

has_head : (bytes head : List ℕ) (page : Page) (n : ℕ) → Stands bytes page → head_size page ≤ n → head ≡ take n bytes → HasHead head page
has_head bytes head page n s le is =
    let checksum : ℕ = checksum_in page in
    let (rest, spelled) = spelled_so bytes page s in
    record {
      rest = take (n - head_size page) rest;
      spelled = is ∙ ap (take n) spelled
          ∙ front_of_three (fixed_part checksum page) page.lacing rest n (n - head_size page) (let size = fixed_size checksum page in omega (arith, size, le));
    }

pass : (b : Bool) (x : Result PageHeader PageFault) → b ≡ false → (if b then Err Short else x) ≡ x
pass true x e = cc
pass false x e = refl

table_fits : (whole tail table behind : ℕ) → whole ≡ 27 + tail → tail ≡ table + behind → 27 + table ≤ whole
table_fits whole tail table behind e f = omega arith

-- the header is read in front of bytes that begin with such a fixed part
header_is_read : (page : Page) (checksum : ℕ) (rest : List ℕ) → IsPage page → checksum < 2 ^ 32
    → header_at (fixed_part checksum page ++ (page.lacing ++ rest)) ≡ Ok (header_with checksum page)
unfolding header_at fixed_part
header_is_read page checksum rest is small =
    let table : List ℕ = page.lacing ++ rest in
    let bytes : List ℕ = fixed_part checksum page ++ table in
    let lacing : lacing_at bytes ≡ page.lacing = take_at page.lacing rest (length page.lacing) refl in
    let body : sum (lacing_at bytes) ≡ length page.body = ap sum lacing ∙ is.whole in
    let position : little_number 8 (drop 6 bytes) ≡ page.position =
    number_8 page.position (little_bytes 4 page.serial ++ little_bytes 4 page.sequence ++ little_bytes 4 checksum ++ length page.lacing ∷ [] ++ table) is.position in
    let serial : little_number 4 (drop 14 bytes) ≡ page.serial =
    number_4 page.serial (little_bytes 4 page.sequence ++ little_bytes 4 checksum ++ length page.lacing ∷ [] ++ table) is.serial in
    let sequence : little_number 4 (drop 18 bytes) ≡ page.sequence =
    number_4 page.sequence (little_bytes 4 checksum ++ length page.lacing ∷ [] ++ table) is.sequence in
    let stored : little_number 4 (drop 22 bytes) ≡ checksum = number_4 checksum (length page.lacing ∷ [] ++ table) small in
    let all : length bytes ≡ 27 + length table = length-append (fixed_part checksum page) table in
    pass (nat_lt (length bytes) 27) _ (le-ltb (length bytes) 27 (omega (arith, all)))
    ∙ pass (nat_lt (length bytes) (27 + slice_index bytes 26)) _
    (le-ltb (length bytes) (27 + length page.lacing) (table_fits (length bytes) (length table) (length page.lacing) (length rest) all (length-append page.lacing rest)))
    ∙ (λ i. Ok (record {
      head = record { flags = page.flags; position = position i; serial = serial i; sequence = sequence i };
      checksum = stored i;
      values = length page.lacing;
      body = body i;
    }))

-- the header of a page that stands in front of bytes is read in as many of them as it has
pub header_told : (bytes head : List ℕ) (page : Page) (n : ℕ) → Stands bytes page → head_size page ≤ n → head ≡ take n bytes
    → header_at head ≡ Ok (header_of page)
header_told bytes head page n s le is =
    let h = has_head bytes head page n s le is in
    ap header_at h.spelled ∙ header_is_read page (checksum_in page) h.rest s.is_page (checksum_small (bytes_with 0 page))

-- the whole page is there
pub lies_inside : (bytes : List ℕ) (page : Page) (place : ℕ) → Stands (drop place bytes) page → place + (27 + length page.lacing + length page.body) ≤ length bytes
lies_inside bytes page place s =
    let all = ap length s.spelled in
    omega (arith, all, length-drop place bytes, length-append (page_bytes page) s.tail, length-page_bytes page)

-- its head and its table are within the bytes that are read
pub head_fits : (bytes : List ℕ) (page : Page) (place count : ℕ) → Stands (drop place bytes) page → count ≡ min (length bytes - place) 282 → head_size page ≤ count
head_fits bytes page place count s is =
    let inside = lies_inside bytes page place s in
    let values = s.is_page.values in
    grind (arith, inside, values, is)
