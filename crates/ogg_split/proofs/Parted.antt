-- The parts of a link's pages are the same wherever the link stands.
use Rattle.std.proofs.Common.{◌≡◌, ℕ, ◌+◌, ◌-◌, Bool, true, false, not, Option, Some, None, Ok, List, [], ◌∷◌, take, drop, refl, sym, ◌∙◌, ap, subst, arith}
use Rattle.std.specs.Prelude.{nat_eq, if◌then◌else◌}
use Rattle.std.specs.List.{AllByRecursion}
use Rattle.ogg_page.specs.Page.{Page, IsPage, bytes_of_pages, page_size}
use Rattle.ogg_page.specs.Pages.{FoundPage, found_in, located}
use Rattle.ogg_page.specs.LogicalStream.{is_continued}
use Rattle.link_chain.specs.Links.{IsLink}
use Rattle.packet_view.specs.Held.{AreHeld}
use Rattle.packet_view.specs.Packets.{PacketsLeft, behind_page, differ, is_other_number, misplaced, packets_of, position_in}
use Rattle.packet_view.specs.Stream.{parts_left, stream}
use Rattle.packet_view.specs.StreamParts.{AreTheirParts, PagePart, PartsLeft, after_parts, at_start, goes_on, no_part, page_parts, parts_from}
use Rattle.packet_view.specs.declared.place.Behind.{Behind}
use Rattle.packet_view.specs.declared.fault.ViewFault.{ViewFault}
use Rattle.packet_view.specs.declared.fault.ViewFault.TheVariants.{AfterEos, Continued, Sequence}
use Rattle.link_index.specs.declared.info.LinkInfo.{LinkInfo}
use Rattle.ogg_split.specs.Asked.{StandsIn}
use Rattle.ogg_split.specs.LinkParts.{window_of_link}
use Rattle.ogg_split.specs.Unfinished.{IsUnfinishedAtMost}
use Rattle.ogg_split.proofs.Placed.{own_bytes}
use Rattle.ogg_split.proofs.Unfinished.{all_found, unfinished_at_most}

-- ---- a page that isn't misplaced is at no other place either
abbrev misplaced_at : Bool → Bool → Bool → ℕ → Option ViewFault
misplaced_at ended other differs offset =
    if ended then Some (AfterEos offset) else (if other then Some (Sequence offset) else (if differs then Some (Continued offset) else None))

well_anywhere : (ended other differs : Bool) (a b : ℕ) → IsUnfinishedAtMost (misplaced_at ended other differs a) → misplaced_at ended other differs b ≡ misplaced_at ended other differs a
well_anywhere true other differs a b well = absurd well
well_anywhere false true differs a b well = absurd well
well_anywhere false false true a b well = absurd well
well_anywhere false false false a b well = refl

placed_anywhere : (behind : Behind) (unfinished : Bool) (a b : ℕ) (page : Page) → IsUnfinishedAtMost (misplaced behind unfinished a page)
    → misplaced behind unfinished b page ≡ misplaced behind unfinished a page
placed_anywhere behind unfinished a b page well =
    well_anywhere behind.ended (is_other_number behind.number page.sequence) (differ (is_continued page) unfinished) a b well

-- ---- the parts from a page of the stream on, which is misplaced or isn't
abbrev by_place : Option ViewFault → List PagePart → PartsLeft → PartsLeft
by_place (Some fault) parts later = no_part (Some fault)
by_place None parts later = after_parts parts later

from-page : (serial : ℕ) (behind : Behind) (unfinished : Bool) (offset : ℕ) (page : Page) (found : List FoundPage) →
    parts_from serial behind unfinished (Ok (offset, page) ∷ found) ≡
    (if nat_eq page.serial serial
    then by_place (misplaced behind unfinished offset page) (page_parts (position_in page) (not unfinished) 0 page.lacing page.body)
    (parts_from serial (behind_page page) (goes_on unfinished page.lacing) found)
    else parts_from serial behind unfinished found)
unfolding parts_from
from-page serial behind unfinished offset page found =
    ap (λ (l : PartsLeft). if nat_eq page.serial serial then l else parts_from serial behind unfinished found) (by_cases (misplaced behind unfinished offset page))
  where
    by_cases : (m : Option ViewFault) →
        (elim m as (λ _. PartsLeft) [
          | Some fault ↦ no_part (Some fault)
          | None ↦ after_parts (page_parts (position_in page) (not unfinished) 0 page.lacing page.body) (parts_from serial (behind_page page) (goes_on unfinished page.lacing) found)
        ]) ≡ by_place m (page_parts (position_in page) (not unfinished) 0 page.lacing page.body)
        (parts_from serial (behind_page page) (goes_on unfinished page.lacing) found)
    by_cases (Some fault) = refl
    by_cases None = refl

by_fault : (m n : Option ViewFault) (parts : List PagePart) (here there : PartsLeft) → (IsUnfinishedAtMost m → n ≡ m) → (IsUnfinishedAtMost here.fault → there ≡ here)
    → IsUnfinishedAtMost (by_place m parts here).fault → by_place n parts there ≡ by_place m parts here
by_fault (Some fault) n parts here there same later well = ap (λ (x : Option ViewFault). by_place x parts there) (same well)
by_fault None n parts here there same later well = ap (λ (x : Option ViewFault). by_place x parts there) (same tt) ∙ ap (after_parts parts) (later well)

by_serial : (own : Bool) (m n : Option ViewFault) (parts : List PagePart) (here there besides over_there : PartsLeft) → (IsUnfinishedAtMost m → n ≡ m)
    → (IsUnfinishedAtMost here.fault → there ≡ here) → (IsUnfinishedAtMost besides.fault → over_there ≡ besides)
    → IsUnfinishedAtMost (if own then by_place m parts here else besides).fault
    → (if own then by_place n parts there else over_there) ≡ (if own then by_place m parts here else besides)
by_serial true m n parts here there besides over_there same later other well = by_fault m n parts here there same later well
by_serial false m n parts here there besides over_there same later other well = other well

same_anywhere : (serial : ℕ) (behind : Behind) (unfinished : Bool) (a b : ℕ) (pages : List Page)
    → IsUnfinishedAtMost (parts_from serial behind unfinished (located a pages)).fault
    → parts_from serial behind unfinished (located b pages) ≡ parts_from serial behind unfinished (located a pages)
same_anywhere serial behind unfinished a b [] well = refl
same_anywhere serial behind unfinished a b (page ∷ pages) well =
    let here = from-page serial behind unfinished a page (located (a + page_size page) pages) in
    let there = from-page serial behind unfinished b page (located (b + page_size page) pages) in
    there ∙ by_serial (nat_eq page.serial serial) (misplaced behind unfinished a page) (misplaced behind unfinished b page) _ _ _ _ _
    (placed_anywhere behind unfinished a b page)
    (same_anywhere serial (behind_page page) (goes_on unfinished page.lacing) (a + page_size page) (b + page_size page) pages)
    (same_anywhere serial behind unfinished (a + page_size page) (b + page_size page) pages)
    (subst (λ (l : PartsLeft). IsUnfinishedAtMost l.fault) here well)
    ∙ sym here

-- ---- the parts of the link's own bytes
pub parts_of_link : {S : Type 0} (bytes : S → List ℕ) (source : S) (link : LinkInfo) (pages : List Page) (serial : ℕ) → StandsIn (bytes source) link pages
    → parts_left bytes (stream (window_of_link source link) serial) ≡ parts_from serial at_start false (found_in link.start (bytes_of_pages pages))
parts_of_link bytes source link pages serial stands =
    let whole : (link.start + link.length) - link.start ≡ link.length = omega arith in
    ap (λ (l : List ℕ). parts_from serial at_start false (found_in link.start l))
    (ap (λ n. take n (drop link.start (bytes source))) whole ∙ own_bytes (bytes source) link pages stands)

-- Joined, the parts are the stream's packets, since those of the same bytes at offset 0 are. So the same fault
-- follows.
pub record GivesLink (serial : ℕ) (pages : List Page) (left : PartsLeft) : Type 0 where
  pub packets : AreTheirParts (packets_of serial (bytes_of_pages pages)) left
  pub unfinished : IsUnfinishedAtMost left.fault

pub gives_link : (serial start : ℕ) (pages : List Page) (left : PartsLeft) → AllByRecursion IsPage pages → IsLink pages
    → AreHeld serial (found_in 0 (bytes_of_pages pages)) (packets_of serial (bytes_of_pages pages))
    → AreTheirParts (packets_of serial (bytes_of_pages pages)) (parts_from serial at_start false (found_in 0 (bytes_of_pages pages)))
    → left ≡ parts_from serial at_start false (found_in start (bytes_of_pages pages)) → GivesLink serial pages left
gives_link serial start pages left are link held theirs is =
    let packets : PacketsLeft = packets_of serial (bytes_of_pages pages) in
    let first = ap (parts_from serial at_start false) (all_found 0 pages are) in
    let there = ap (parts_from serial at_start false) (all_found start pages are) in
    let well : IsUnfinishedAtMost (parts_from serial at_start false (found_in 0 (bytes_of_pages pages))).fault =
    subst IsUnfinishedAtMost (sym theirs.fault) (unfinished_at_most serial pages packets are (link.streams serial) held) in
    let none : IsUnfinishedAtMost (parts_from serial at_start false (located 0 pages)).fault = subst (λ (l : PartsLeft). IsUnfinishedAtMost l.fault) first well in
    let same : parts_from serial at_start false (found_in 0 (bytes_of_pages pages)) ≡ left =
    first ∙ sym (same_anywhere serial at_start false 0 start pages none) ∙ sym there ∙ sym is in
    record {
      packets = subst (AreTheirParts packets) same theirs;
      unfinished = subst (λ (l : PartsLeft). IsUnfinishedAtMost l.fault) same well;
    }
