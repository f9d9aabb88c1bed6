-- The parts of a packet, one after the other.
use Rattle.std.proofs.Common.{◌≡◌, ◌≢◌, ℕ, ◌+◌, ◌≤◌, Bool, true, false, List, [], ◌∷◌, ◌++◌, length, take, refl, sym, ◌∙◌, ap, subst, arith, length-append, Ok, Err}
use Rattle.std.specs.Prelude.{nat_eq, if◌then◌else◌, IsOk}
use Rattle.std.specs.List.{AllByRecursion, concat}
use Rattle.std.proofs.lemmas.Grind.{flat_map-append}
use Rattle.ogg_page.specs.Page.{Page, IsPage, page_bytes, page_size, bytes_of_pages}
use Rattle.ogg_page.specs.Reading.{page_at}
use Rattle.ogg_page.specs.Pages.{FoundPage, found_in, located}
use Rattle.ogg_page.specs.Laws.Prefixes.{one_page}
use Rattle.ogg_page.specs.Laws.ReadAgain.{page_is_read}
use Rattle.ogg_page.specs.Laws.Walk.{nothing_is_no_page}
use Rattle.ogg_page.specs.Laws.Found.{found-nothing, found-page}
use Rattle.packet_view.specs.Packets.{Part, with_part, joined_parts, body_place}
use Rattle.packet_view.specs.Front.{front_size}
use Rattle.packet_view.specs.Walking.{parts_in}
use Rattle.packet_view.specs.Packet.{ArePages, parts_of, slices_of, slices_in}
use Rattle.packet_view.proofs.Fronts.{pick_false}
use Rattle.packet_view.proofs.Walks.{pick_true}
use Rattle.packet_view.proofs.Opened.{joined-with_part, parts-pages, no_parts}

-- a part's place doesn't change its bytes
same_slice : (a b : ℕ) (bytes : List ℕ) → slices_of (with_part [] a bytes) ≡ slices_of (with_part [] b bytes)
same_slice a b [] = refl
same_slice a b (byte ∷ bytes) = refl

slices_append : (a b : List Part) → slices_of (a ++ b) ≡ slices_of a ++ slices_of b
slices_append [] b = refl
slices_append (part ∷ a) b = ap (λ l. part.bytes ∷ l) (slices_append a b)

by_serial : (b : Bool) (first x y : List Part) (other : List Part) → slices_of first ≡ slices_of other → slices_of x ≡ slices_of y →
    slices_of (if b then first ++ x else x) ≡ slices_of (if b then other ++ y else y)
by_serial true first x y other e h = slices_append first x ∙ ap (λ l. l ++ slices_of x) e ∙ ap (λ l. slices_of other ++ l) h ∙ sym (slices_append other y)
by_serial false first x y other e h = h

same_pages : (serial a b : ℕ) (pages : List Page) → slices_of (parts_in serial (located a pages)) ≡ slices_of (parts_in serial (located b pages))
unfolding parts_in
same_pages serial a b [] = refl
same_pages serial a b (page ∷ pages) =
    by_serial (nat_eq page.serial serial) (with_part [] (body_place a page) (take (front_size page.lacing) page.body)) (parts_in serial (located (a + page_size page) pages))
    (parts_in serial (located (b + page_size page) pages)) (with_part [] (body_place b page) (take (front_size page.lacing) page.body))
    (same_slice (body_place a page) (body_place b page) (take (front_size page.lacing) page.body)) (same_pages serial (a + page_size page) (b + page_size page) pages)

same_slices : (serial a b : ℕ) (bytes : List ℕ) → ArePages bytes → slices_of (parts_in serial (found_in a bytes)) ≡ slices_of (parts_in serial (found_in b bytes))
same_slices serial a b bytes are =
    ap slices_of (parts-pages serial a are.pages bytes are.are_pages are.joined)
    ∙ same_pages serial a b are.pages
    ∙ ap slices_of (sym (parts-pages serial b are.pages bytes are.are_pages are.joined))

-- the slices of a packet
pub packet_slices : (place : ℕ) (first : List ℕ) (serial offset : ℕ) (more : List ℕ) → ArePages more →
    slices_of (with_part [] 0 first) ++ slices_in serial more ≡ slices_of (parts_of place first serial offset more)
packet_slices place first serial offset more are =
    ap (λ l. l ++ slices_in serial more) (same_slice 0 place first)
    ∙ ap (λ l. slices_of (with_part [] place first) ++ l) (same_slices serial 0 offset more are)
    ∙ sym (slices_append (with_part [] place first) (parts_in serial (found_in offset more)))

-- ---- page by page

pub first_is_known : (bytes : List ℕ) → ArePages bytes → length bytes ≢ 0 → IsOk (page_at bytes)
first_is_known bytes are some = by_pages are.pages are.are_pages are.joined
  where
    by_pages : (pages : List Page) → AllByRecursion IsPage pages → bytes ≡ bytes_of_pages pages → IsOk (page_at bytes)
    by_pages [] all e = absurd (some (ap length e))
    by_pages (page ∷ pages) all e = subst IsOk (sym (ap page_at e ∙ page_is_read page (bytes_of_pages pages) all.0)) refl

pub rest_is_known : (bytes rest : List ℕ) (page : Page) → ArePages bytes → IsPage page → bytes ≡ page_bytes page ++ rest → ArePages rest
rest_is_known bytes rest page are is split = by_pages are.pages are.are_pages are.joined
  where
    by_pages : (pages : List Page) → AllByRecursion IsPage pages → bytes ≡ bytes_of_pages pages → ArePages rest
    by_pages [] all e = absurd (nothing_is_no_page page rest (sym e ∙ split))
    by_pages (first ∷ pages) all e =
        let same : (first ≡ page) × (bytes_of_pages pages ≡ rest) = one_page first page (bytes_of_pages pages) rest all.0 is (sym e ∙ split) in
        record { pages = pages; are_pages = all.1; joined = sym same.1 }

first_part : (serial : ℕ) (bytes rest : List ℕ) (page : Page) → IsPage page → bytes ≡ page_bytes page ++ rest →
    parts_in serial (found_in 0 bytes)
    ≡ (if nat_eq page.serial serial then with_part [] (body_place 0 page) (take (front_size page.lacing) page.body) ++ parts_in serial (found_in (0 + page_size page) rest)
    else parts_in serial (found_in (0 + page_size page) rest))
unfolding parts_in
first_part serial bytes rest page is split = ap (λ l. parts_in serial (found_in 0 l)) split ∙ ap (parts_in serial) (found-page 0 page rest is)

pub slices-other : (serial : ℕ) (bytes rest : List ℕ) (page : Page) → IsPage page → ArePages rest → bytes ≡ page_bytes page ++ rest → nat_eq page.serial serial ≡ false →
    slices_in serial bytes ≡ slices_in serial rest
slices-other serial bytes rest page is are split other =
    ap slices_of (first_part serial bytes rest page is split ∙ pick_false (nat_eq page.serial serial) _ _ other) ∙ same_slices serial (0 + page_size page) 0 rest are

pub slices-its : (serial : ℕ) (bytes rest piece : List ℕ) (page : Page) → IsPage page → ArePages rest → bytes ≡ page_bytes page ++ rest → nat_eq page.serial serial ≡ true →
    piece ≡ take (front_size page.lacing) page.body → slices_in serial bytes ≡ slices_of (with_part [] 0 piece) ++ slices_in serial rest
slices-its serial bytes rest piece page is are split its e =
    ap slices_of (first_part serial bytes rest page is split ∙ pick_true (nat_eq page.serial serial) _ _ its)
    ∙ slices_append (with_part [] (body_place 0 page) (take (front_size page.lacing) page.body)) (parts_in serial (found_in (0 + page_size page) rest))
    ∙ ap (λ l. l ++ slices_of (parts_in serial (found_in (0 + page_size page) rest))) (same_slice (body_place 0 page) 0 (take (front_size page.lacing) page.body))
    ∙ ap (λ l. slices_of (with_part [] 0 l) ++ slices_of (parts_in serial (found_in (0 + page_size page) rest))) (sym e)
    ∙ ap (λ l. slices_of (with_part [] 0 piece) ++ l) (same_slices serial (0 + page_size page) 0 rest are)

pub one_slice : (piece : List ℕ) (rest : List (List ℕ)) → piece ≢ [] → slices_of (with_part [] 0 piece) ++ rest ≡ piece ∷ rest
one_slice [] rest some = absurd (some refl)
one_slice (byte ∷ piece) rest some = refl

pub no_slice : (piece : List ℕ) (rest : List (List ℕ)) → piece ≡ [] → slices_of (with_part [] 0 piece) ++ rest ≡ rest
no_slice piece rest e = ap (λ l. slices_of (with_part [] 0 l) ++ rest) e

pub slices-nothing : (serial : ℕ) → slices_in serial [] ≡ []
unfolding parts_in
slices-nothing serial = ap (λ l. slices_of (parts_in serial l)) (found-nothing 0)

-- ---- how many parts there are

no_bytes_step : (b : Bool) (place : ℕ) (bytes : List ℕ) (rest : List Part) → (length (joined_parts rest) ≡ 0 → length rest ≡ 0) →
    length (joined_parts (if b then with_part [] place bytes ++ rest else rest)) ≡ 0 → length (if b then with_part [] place bytes ++ rest else rest) ≡ 0
no_bytes_step true place [] rest later e = later e
no_bytes_step true place (byte ∷ bytes) rest later e = absurd (omega (arith, e))
no_bytes_step false place bytes rest later e = later e

-- no part is empty
no_bytes : (serial : ℕ) (found : List FoundPage) → length (joined_parts (parts_in serial found)) ≡ 0 → length (parts_in serial found) ≡ 0
unfolding parts_in
no_bytes serial [] e = refl
no_bytes serial (Err fault ∷ found) e = refl
no_bytes serial (Ok at ∷ found) e =
    no_bytes_step (nat_eq at.1.serial serial) (body_place at.0 at.1) (take (front_size at.1.lacing) at.1.body) (parts_in serial found) (no_bytes serial found) e

joined_all : (place : ℕ) (first : List ℕ) (serial offset : ℕ) (more : List ℕ) →
    length (joined_parts (parts_of place first serial offset more)) ≡ length first + length (joined_parts (parts_in serial (found_in offset more)))
joined_all place first serial offset more =
    ap length (flat_map-append (λ (part : Part). part.bytes) (with_part [] place first) (parts_in serial (found_in offset more)))
    ∙ length-append (joined_parts (with_part [] place first)) (joined_parts (parts_in serial (found_in offset more)))
    ∙ ap (λ l. length l + length (joined_parts (parts_in serial (found_in offset more)))) (joined-with_part [] place first)

part_count : (place : ℕ) (first : List ℕ) → length (with_part [] place first) ≤ 1
part_count place [] = omega arith
part_count place (byte ∷ first) = omega arith

one_part : (place : ℕ) (first : List ℕ) → first ≢ [] → length (with_part [] place first) ≡ 1
one_part place [] some = absurd (some refl)
one_part place (byte ∷ first) some = refl

-- if the first bytes are all bytes, there is no other part
pub few_parts : (place : ℕ) (first : List ℕ) (serial offset : ℕ) (more : List ℕ) → length first ≡ length (joined_parts (parts_of place first serial offset more)) →
    length (parts_of place first serial offset more) ≤ 1
few_parts place first serial offset more e =
    let others : List Part = parts_in serial (found_in offset more) in
    let none : length others ≡ 0 = no_bytes serial (found_in offset more) (omega (arith, e, joined_all place first serial offset more)) in
    omega (arith, none, length-append (with_part [] place first) others, part_count place first)

-- if there is no other part, the first bytes are all
pub all_first : (place : ℕ) (first : List ℕ) (serial offset : ℕ) (more : List ℕ) → (first ≡ [] → more ≡ []) → length (parts_of place first serial offset more) ≤ 1 →
    length first ≡ length (joined_parts (parts_of place first serial offset more))
all_first place [] serial offset more begins le =
    sym (ap (λ l. length (joined_parts l)) (no_parts place [] serial offset more (begins refl)))
all_first place (byte ∷ first) serial offset more begins le =
    let others : List Part = parts_in serial (found_in offset more) in
    let none : length others ≡ 0 = omega (arith, le, length-append (with_part [] place (byte ∷ first)) others, one_part place (byte ∷ first) (λ e. cc)) in
    joined_none others none ∙ sym (joined_all place (byte ∷ first) serial offset more)
  where
    joined_none : (others : List Part) → length others ≡ 0 → length (byte ∷ first) ≡ length (byte ∷ first) + length (joined_parts others)
    joined_none [] e = omega arith
    joined_none (part ∷ others) e = absurd (omega arith)

-- the bytes of all parts
pub joined_slices : (parts : List Part) → concat (slices_of parts) ≡ joined_parts parts
joined_slices [] = refl
joined_slices (part ∷ parts) = ap (λ l. part.bytes ++ l) (joined_slices parts)
