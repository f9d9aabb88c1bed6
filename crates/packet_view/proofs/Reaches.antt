-- What the parts are from the next page on.
use Rattle.std.proofs.Common.{◌≡◌, ◌≢◌, ℕ, ◌+◌, Bool, true, false, not, List, [], ◌∷◌, refl, sym, ◌∙◌, ap, Option, Some, None, Ok, Err}
use Rattle.std.proofs.lemmas.Bool.{eq-eqb}
use Rattle.std.specs.Prelude.{nat_eq, if◌then◌else◌}
use Rattle.ogg_page.specs.Page.{Page, page_size}
use Rattle.ogg_page.specs.Reading.{page_at}
use Rattle.ogg_page.specs.Pages.{FoundPage, PagesLeft, found_in}
use Rattle.ogg_page.specs.PagesLaws.{found-nothing, found-fault, found-page}
use Rattle.ogg_page.specs.Window.{LentAt, NextLent}
use Rattle.ogg_page.specs.declared.fault.PageFault.{PageFault}
use Rattle.packet_view.specs.Packets.{misplaced, behind_page, position_in}
use Rattle.packet_view.specs.StreamParts.{PartsLeft, page_parts, goes_on, no_part, after_parts, parts_from}
use Rattle.packet_view.specs.Cut.{at_front, parts_then}
use Rattle.packet_view.specs.Searching.{parts_ahead, with_behind}
use Rattle.packet_view.specs.declared.place.Behind.{Behind}
use Rattle.packet_view.specs.declared.reaching.Search.{Search}
use Rattle.packet_view.specs.declared.fault.ViewFault.{ViewFault}
use Rattle.packet_view.specs.declared.fault.ViewFault.TheVariants.{Page as PageIsAtFault, Unfinished}
use Rattle.packet_view.proofs.Fronts.{pick_false}
use Rattle.ogg_page.specs.Laws.Walk.{page_found}
use Rattle.packet_view.proofs.Walks.{pick_true}

-- ---- one page

abbrev pub by_place : ℕ → Bool → Page → List FoundPage → Option ViewFault → PartsLeft
by_place serial unfinished page found (Some fault) = no_part (Some fault)
by_place serial unfinished page found None =
    after_parts (page_parts (position_in page) (not unfinished) 0 page.lacing page.body) (parts_from serial (behind_page page) (goes_on unfinished page.lacing) found)

pub parts-other : (serial : ℕ) (behind : Behind) (unfinished : Bool) (at : LentAt) (found : List FoundPage) → nat_eq at.1.serial serial ≡ false →
    parts_from serial behind unfinished (Ok at ∷ found) ≡ parts_from serial behind unfinished found
unfolding parts_from
parts-other serial behind unfinished at found e = pick_false (nat_eq at.1.serial serial) _ _ e

pub parts-page : (serial : ℕ) (behind : Behind) (unfinished : Bool) (at : LentAt) (found : List FoundPage) (m : Option ViewFault) → nat_eq at.1.serial serial ≡ true →
    misplaced behind unfinished at.0 at.1 ≡ m → parts_from serial behind unfinished (Ok at ∷ found) ≡ by_place serial unfinished at.1 found m
unfolding parts_from
parts-page serial behind unfinished at found m e place =
    pick_true (nat_eq at.1.serial serial) _ _ e ∙ by_cases (misplaced behind unfinished at.0 at.1) ∙ ap (by_place serial unfinished at.1 found) place
  where
    by_cases : (m : Option ViewFault) →
        (elim m as (λ _. PartsLeft) [
          | Some fault ↦ no_part (Some fault)
          | None ↦ after_parts (page_parts (position_in at.1) (not unfinished) 0 at.1.lacing at.1.body) (parts_from serial (behind_page at.1) (goes_on unfinished at.1.lacing) found)
        ]) ≡ by_place serial unfinished at.1 found m
    by_cases (Some fault) = refl
    by_cases None = refl

-- a page that may stand there
pub parts-there : (s : Search) (at : LentAt) (behind : Behind) → at.1.serial ≡ s.serial → misplaced s.behind s.unfinished at.0 at.1 ≡ None → behind ≡ behind_page at.1 →
    (found : List FoundPage) → parts_ahead s (Ok at ∷ found) ≡ parts_then s.serial (Some at) (at_front behind s.unfinished) found
parts-there s at behind own fits is found =
    parts-page s.serial s.behind s.unfinished at found None (eq-eqb at.1.serial s.serial own) fits
    ∙ ap (λ (b : Behind). parts_then s.serial (Some at) (at_front b s.unfinished) found) (sym is)

pub parts-no_values : (s : Search) (at : LentAt) (behind : Behind) → at.1.lacing ≡ [] →
    (found : List FoundPage) → parts_then s.serial (Some at) (at_front behind s.unfinished) found ≡ parts_ahead (with_behind s behind) found
unfolding page_parts goes_on
parts-no_values s at behind e found =
    ap (λ l. after_parts (page_parts (position_in at.1) (not s.unfinished) 0 l at.1.body) (parts_from s.serial behind (goes_on s.unfinished l) found)) e

pub parts-nothing : (serial : ℕ) (behind : Behind) (unfinished : Bool) (left : PagesLeft) → left.bytes ≡ [] →
    parts_from serial behind unfinished (found_in left.offset left.bytes) ≡ no_part (if unfinished then Some Unfinished else None)
unfolding parts_from
parts-nothing serial behind unfinished left e = ap (parts_from serial behind unfinished) (ap (found_in left.offset) e ∙ found-nothing left.offset)

pub parts-fault : (serial : ℕ) (behind : Behind) (unfinished : Bool) (left : PagesLeft) (offset : ℕ) (fault : PageFault) → offset ≡ left.offset → left.bytes ≢ [] → page_at left.bytes ≡ Err fault →
    parts_from serial behind unfinished (found_in left.offset left.bytes) ≡ no_part (Some (PageIsAtFault offset fault))
unfolding parts_from
parts-fault serial behind unfinished left offset fault here some e =
    ap (parts_from serial behind unfinished) (found-fault left.offset left.bytes fault some e) ∙ ap (λ n. no_part (Some (PageIsAtFault n fault))) (sym here)

-- a page that is lent is the first that is found
pub lent_first : (old new : PagesLeft) (lent : LentAt) → NextLent old (Ok (Some lent)) new → found_in old.offset old.bytes ≡ Ok lent ∷ found_in new.offset new.bytes
lent_first old new lent is =
    ap (found_in old.offset) is.2
    ∙ found-page old.offset lent.1 new.bytes is.1
    ∙ ap (λ n. page_found n lent.1 ∷ found_in (old.offset + page_size lent.1) new.bytes) (sym is.0)
    ∙ ap (λ n. page_found lent.0 lent.1 ∷ found_in n new.bytes) (sym is.3)

pub no_fault : (fault : Option ViewFault) → ((given : ViewFault) → fault ≡ Some given → ⊥) → fault ≡ None
no_fault None never = refl
no_fault (Some given) never = absurd (never given refl)
