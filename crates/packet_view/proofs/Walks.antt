-- What the packets are from the next page on, and which pages lie before it.
use Rattle.std.proofs.Common.{◌≡◌, ◌≢◌, ℕ, ◌+◌, Bool, true, false, List, [], ◌∷◌, ◌++◌, length, take, refl, sym, ◌∙◌, ap, arith, append_assoc, length-append, Option, Some, None, Err, append-nil}
use Rattle.std.specs.Prelude.{nat_eq, if◌then◌else◌}
use Rattle.std.specs.List.{AllByRecursion}
use Rattle.std.proofs.lemmas.Bool.{false≢true}
use Rattle.ogg_page.specs.Page.{Page, IsPage, page_bytes, page_size, bytes_of_pages}
use Rattle.ogg_page.specs.Reading.{page_at}
use Rattle.ogg_page.specs.Pages.{FoundPage, found_in, located}
use Rattle.ogg_page.specs.declared.fault.PageFault.{PageFault}
use Rattle.ogg_page.specs.Laws.ReadAgain.{length-page_bytes}
use Rattle.ogg_page.specs.Laws.Walk.{page_found}
use Rattle.ogg_page.specs.Laws.Found.{found-nothing, found-fault, found-page}
use Rattle.packet_view.specs.Packets.{Part, PacketParts, PacketsLeft, with_part, is_some_part, misplaced, body_place, behind_page, position_in, no_packet, after_packets, packets_in, parts_behind, packets_from}
use Rattle.packet_view.specs.Front.{front_size}
use Rattle.packet_view.specs.Walking.{packets_at, parts_in, IsBefore, Reaches}
use Rattle.packet_view.specs.declared.place.Behind.{Behind}
use Rattle.packet_view.specs.declared.place.Place.{Place}
use Rattle.packet_view.specs.declared.fault.ViewFault.{ViewFault}
use Rattle.packet_view.specs.declared.fault.ViewFault.TheVariants.{Page as PageIsAtFault, Unfinished}
use Rattle.packet_view.proofs.Fronts.{pick_false}
use Rattle.packet_view.proofs.Opened.{with_more}

pub pick_true : {A : Type 0} (b : Bool) (x y : A) → b ≡ true → (if b then x else y) ≡ x
pick_true true x y e = refl
pick_true false x y e = absurd (false≢true e)

-- ---- the packets

pub from-nothing : (serial : ℕ) (behind : Behind) (parts : List Part) (offset : ℕ) → packets_from serial behind parts (found_in offset []) ≡ no_packet (if is_some_part parts then Some Unfinished else None)
unfolding packets_from
from-nothing serial behind parts offset = ap (packets_from serial behind parts) (found-nothing offset)

pub from-fault : (serial : ℕ) (behind : Behind) (parts : List Part) (offset : ℕ) (bytes : List ℕ) (fault : PageFault) → bytes ≢ [] → page_at bytes ≡ Err fault →
    packets_from serial behind parts (found_in offset bytes) ≡ no_packet (Some (PageIsAtFault offset fault))
unfolding packets_from
from-fault serial behind parts offset bytes fault some e = ap (packets_from serial behind parts) (found-fault offset bytes fault some e)

pub from-other : (serial : ℕ) (behind : Behind) (parts : List Part) (offset : ℕ) (page : Page) (rest : List ℕ) → IsPage page → nat_eq page.serial serial ≡ false →
    packets_from serial behind parts (found_in offset (page_bytes page ++ rest)) ≡ packets_from serial behind parts (found_in (offset + page_size page) rest)
unfolding packets_from
from-other serial behind parts offset page rest is e =
    ap (packets_from serial behind parts) (found-page offset page rest is) ∙ pick_false (nat_eq page.serial serial) _ _ e

-- the packets that end in the page at this place, and the parts that go on behind it
abbrev pub ended_in : List Part → ℕ × Page → List PacketParts
ended_in parts at = packets_in (position_in at.1) parts (body_place at.0 at.1) 0 at.1.lacing at.1.body

abbrev pub begun_behind : List Part → ℕ × Page → List Part
begun_behind parts at = parts_behind parts (body_place at.0 at.1) 0 at.1.lacing at.1.body

-- the packets from a page of the stream on, misplaced or not
abbrev pub by_place : ℕ → List Part → ℕ → Page → List FoundPage → Option ViewFault → PacketsLeft
by_place serial parts offset page found (Some fault) = no_packet (Some fault)
by_place serial parts offset page found None =
    after_packets (packets_in (position_in page) parts (body_place offset page) 0 page.lacing page.body)
    (packets_from serial (behind_page page) (parts_behind parts (body_place offset page) 0 page.lacing page.body) found)

pub from-page : (serial : ℕ) (behind : Behind) (parts : List Part) (offset : ℕ) (page : Page) (found : List FoundPage) → nat_eq page.serial serial ≡ true →
    packets_from serial behind parts (page_found offset page ∷ found) ≡ by_place serial parts offset page found (misplaced behind (is_some_part parts) offset page)
unfolding packets_from
from-page serial behind parts offset page found e = pick_true (nat_eq page.serial serial) _ _ e ∙ by_cases (misplaced behind (is_some_part parts) offset page)
  where
    by_cases : (m : Option ViewFault) →
        (elim m as (λ _. PacketsLeft) [
          | Some fault ↦ no_packet (Some fault)
          | None ↦ after_packets (packets_in (position_in page) parts (body_place offset page) 0 page.lacing page.body)
              (packets_from serial (behind_page page) (parts_behind parts (body_place offset page) 0 page.lacing page.body) found)
        ]) ≡ by_place serial parts offset page found m
    by_cases (Some fault) = refl
    by_cases None = refl

pub from-its-page : (serial : ℕ) (behind : Behind) (parts : List Part) (offset : ℕ) (page : Page) (rest : List ℕ) (m : Option ViewFault) → IsPage page → nat_eq page.serial serial ≡ true →
    misplaced behind (is_some_part parts) offset page ≡ m →
    packets_from serial behind parts (found_in offset (page_bytes page ++ rest)) ≡ by_place serial parts offset page (found_in (offset + page_size page) rest) m
from-its-page serial behind parts offset page rest m is e place =
    ap (packets_from serial behind parts) (found-page offset page rest is)
    ∙ from-page serial behind parts offset page (found_in (offset + page_size page) rest) e
    ∙ ap (by_place serial parts offset page (found_in (offset + page_size page) rest)) place

pub placed : (serial : ℕ) (parts : List Part) (page : Page) (offset : ℕ) (rest : List ℕ) (end : ℕ) (place : Place) → IsBefore page offset rest end place → end ≡ offset + page_size page →
    by_place serial parts offset page (found_in (offset + page_size page) rest) None ≡ packets_at serial place parts
placed serial parts page offset rest end place b e = rw (b.position, b.body_is_at, b.lacing, b.body, b.behind, b.left, b.left_is_at, e) refl

-- ---- the pages

-- pages of other streams lie between
pub record Skips (serial start : ℕ) (source : List ℕ) (offset : ℕ) (rest : List ℕ) : Type 0 where
  pub pages : List Page
  pub are_pages : AllByRecursion IsPage pages
  pub joined : source ≡ bytes_of_pages pages ++ rest
  pub size : offset ≡ start + length (bytes_of_pages pages)
  pub parts : parts_in serial (located start pages) ≡ []

all_push : (pages : List Page) (page : Page) → AllByRecursion IsPage pages → IsPage page → AllByRecursion IsPage (pages ++ page ∷ [])
all_push [] page are is = (is, tt)
all_push (p ∷ pages) page are is = (are.0, all_push pages page are.1 is)

bytes_push : (pages : List Page) (page : Page) → bytes_of_pages (pages ++ page ∷ []) ≡ bytes_of_pages pages ++ page_bytes page
bytes_push [] page = append-nil (page_bytes page)
bytes_push (p ∷ pages) page = ap (λ l. page_bytes p ++ l) (bytes_push pages page) ∙ sym (append_assoc (page_bytes p) (bytes_of_pages pages) (page_bytes page))

-- the part in the page after these
abbrev part_of : ℕ → ℕ → Page → List Part
part_of serial offset page = if nat_eq page.serial serial then with_part [] (body_place offset page) (take (front_size page.lacing) page.body) else []

with_nothing : (b : Bool) (part : List Part) → (if b then part ++ [] else []) ≡ (if b then part else [])
with_nothing true part = append-nil part
with_nothing false part = refl

parts_push : (serial start : ℕ) (pages : List Page) (page : Page) →
    parts_in serial (located start (pages ++ page ∷ [])) ≡ parts_in serial (located start pages) ++ part_of serial (start + length (bytes_of_pages pages)) page
unfolding parts_in
parts_push serial start [] page =
    with_nothing (nat_eq page.serial serial) (with_part [] (body_place start page) (take (front_size page.lacing) page.body))
    ∙ ap (λ n. part_of serial n page) (let none : start ≡ start + 0 = omega arith in none)
parts_push serial start (p ∷ pages) page =
    let place : (start + page_size p) + length (bytes_of_pages pages) ≡ start + length (page_bytes p ++ bytes_of_pages pages) =
    omega (arith, length-append (page_bytes p) (bytes_of_pages pages), length-page_bytes p) in
    let first : List Part = with_part [] (body_place start p) (take (front_size p.lacing) p.body) in
    let before : List Part = parts_in serial (located (start + page_size p) pages) in
    ap (λ l. if nat_eq p.serial serial then first ++ l else l) (parts_push serial (start + page_size p) pages page)
    ∙ with_more (nat_eq p.serial serial) first before (part_of serial ((start + page_size p) + length (bytes_of_pages pages)) page)
    ∙ ap (λ n. (if nat_eq p.serial serial then first ++ before else before) ++ part_of serial n page) place

pub skips-none : (serial start : ℕ) (source : List ℕ) → Skips serial start source start source
unfolding parts_in
skips-none serial start source = record { pages = []; are_pages = tt; joined = refl; size = omega arith; parts = refl }

behind_all : (pages : List Page) (page : Page) (source bytes rest : List ℕ) → source ≡ bytes_of_pages pages ++ bytes → bytes ≡ page_bytes page ++ rest → source ≡ bytes_of_pages (pages ++ page ∷ []) ++ rest
behind_all pages page source bytes rest joined e =
    joined ∙ ap (λ l. bytes_of_pages pages ++ l) e ∙ sym (append_assoc (bytes_of_pages pages) (page_bytes page) rest) ∙ ap (λ l. l ++ rest) (sym (bytes_push pages page))

size_all : (pages : List Page) (page : Page) (start offset end : ℕ) → offset ≡ start + length (bytes_of_pages pages) → end ≡ offset + page_size page → end ≡ start + length (bytes_of_pages (pages ++ page ∷ []))
size_all pages page start offset end size e =
    omega (arith, size, e, ap length (bytes_push pages page), length-append (bytes_of_pages pages) (page_bytes page), length-page_bytes page)

pub skips_push : (serial start : ℕ) (source : List ℕ) (offset end : ℕ) (bytes rest : List ℕ) (page : Page) →
    Skips serial start source offset bytes → IsPage page → bytes ≡ page_bytes page ++ rest → nat_eq page.serial serial ≡ false → end ≡ offset + page_size page → Skips serial start source end rest
skips_push serial start source offset end bytes rest page skips is e other size = record {
  pages = skips.pages ++ page ∷ [];
  are_pages = all_push skips.pages page skips.are_pages is;
  joined = behind_all skips.pages page source bytes rest skips.joined e;
  size = size_all skips.pages page start offset end skips.size size;
  parts = parts_push serial start skips.pages page
      ∙ ap (λ l. l ++ part_of serial (start + length (bytes_of_pages skips.pages)) page) skips.parts
      ∙ pick_false (nat_eq page.serial serial) _ _ other;
}

pub reaches : (serial start : ℕ) (source : List ℕ) (offset end : ℕ) (bytes rest : List ℕ) (page : Page) (place : Place) →
    Skips serial start source offset bytes → IsPage page → bytes ≡ page_bytes page ++ rest → nat_eq page.serial serial ≡ true → end ≡ offset + page_size page →
    IsBefore page offset rest end place → Reaches serial start source place
reaches serial start source offset end bytes rest page place skips is e its size before = record {
  pages = skips.pages ++ page ∷ [];
  are_pages = all_push skips.pages page skips.are_pages is;
  joined = behind_all skips.pages page source bytes rest skips.joined e ∙ ap (λ l. bytes_of_pages (skips.pages ++ page ∷ []) ++ l) (sym before.left);
  size = before.left_is_at ∙ size_all skips.pages page start offset end skips.size size;
  later = omega (arith, skips.size, before.body_is_at);
  shorter = omega (arith, ap length skips.joined, length-append (bytes_of_pages skips.pages) bytes, ap length e, length-append (page_bytes page) rest, length-page_bytes page, ap length before.left);
  parts = parts_push serial start skips.pages page
      ∙ ap (λ l. l ++ part_of serial (start + length (bytes_of_pages skips.pages)) page) skips.parts
      ∙ pick_true (nat_eq page.serial serial) _ _ its
      ∙ ap (λ n. with_part [] (body_place n page) (take (front_size page.lacing) page.body)) (sym skips.size)
      ∙ rw (before.body_is_at, before.lacing, before.body) refl;
}

pub none_left : (bytes : List ℕ) → length bytes ≡ 0 → bytes ≡ []
none_left [] e = refl
none_left (byte ∷ bytes) e = absurd (omega arith)

pub some_left : (bytes : List ℕ) → length bytes ≢ 0 → bytes ≢ []
some_left bytes some e = some (ap length e)
