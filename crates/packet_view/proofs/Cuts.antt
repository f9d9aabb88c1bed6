-- The front part of a page, and what stands after it.
use Rattle.std.proofs.Common.{◌≡◌, ◌≢◌, ℕ, zero, suc, ◌+◌, ◌-◌, ◌*◌, ◌<◌, ◌≤◌, Bool, true, false, not, List, [], ◌∷◌, ◌++◌, length, take, drop, refl, sym, ◌∙◌, ap, subst, arith, Option, Some, None, sum}
use Rattle.std.specs.Prelude.{nat_eq, if◌then◌else◌, replicate}
use Rattle.std.proofs.lemmas.List.{length-drop, length-replicate, drop-drop}
use Rattle.ogg_page.specs.Page.{Page}
use Rattle.ogg_page.specs.Window.{LentAt}
use Rattle.ogg_page.specs.declared.fault.WindowFault.{WindowFault}
use Rattle.packet_view.specs.Packets.{ends_packet, position_in}
use Rattle.packet_view.specs.StreamParts.{PagePart, page_parts, goes_on}
use Rattle.packet_view.specs.Cut.{CutFits, CutsFront, HasCut, IsCut, left_in, goes_on_in, part_given, rest_cut}
use Rattle.packet_view.specs.declared.cut.Cut.{Cut}
use Rattle.packet_view.specs.declared.cut.Given.{Given}
use Rattle.packet_view.specs.declared.cut.Progress.{Progress}
use Rattle.packet_view.proofs.Fronts.{SplitsAt, pick_false, other, sum-full}

abbrev pub part_of : List ℕ → Bool → Bool → Option ℕ → PagePart
part_of bytes first last position = record { bytes = bytes; first = first; last = last; position = position }

-- ---- the parts in a page

parts-end : (full total size : ℕ) (position : Option ℕ) (first : Bool) (value : ℕ) (lacing body : List ℕ) → value ≢ 255 → size + (255 * full + value) ≡ total →
    page_parts position first size (replicate full 255 ++ value ∷ lacing) body
    ≡ part_of (take total body) first true (if ends_packet lacing then None else position) ∷ page_parts position true 0 lacing (drop total body)
unfolding page_parts
parts-end zero total size position first value lacing body ne e =
    let exact : size + value ≡ total = omega arith in
    pick_false (nat_eq value 255) _ _ (other value 255 ne)
    ∙ ap (λ n. part_of (take n body) first true (if ends_packet lacing then None else position) ∷ page_parts position true 0 lacing (drop n body)) exact
parts-end (suc full) total size position first value lacing body ne e =
    parts-end full total (size + 255) position first value lacing body ne (omega arith)

parts-go_on : (full total size : ℕ) (position : Option ℕ) (first : Bool) (body : List ℕ) → size + 255 * full ≡ total → 0 < total →
    page_parts position first size (replicate full 255) body ≡ part_of (take total body) first false None ∷ []
unfolding page_parts
parts-go_on zero total size position first body e some =
    let exact : size ≡ total = omega arith in
    pick_false (nat_eq size 0) _ _ (other size 0 (λ none. omega arith)) ∙ ap (λ n. part_of (take n body) first false None ∷ []) exact
parts-go_on (suc full) total size position first body e some = parts-go_on full total (size + 255) position first body (omega arith) some

-- ---- whether a packet goes on

goes_on-full : (full : ℕ) → goes_on true (replicate full 255) ≡ true
unfolding goes_on
goes_on-full zero = refl
goes_on-full (suc full) = goes_on-full full

goes_on-some : (full : ℕ) (unfinished : Bool) → 0 < full → goes_on unfinished (replicate full 255) ≡ true
unfolding goes_on
goes_on-some zero unfinished some = absurd (omega arith)
goes_on-some (suc full) unfinished some = goes_on-full full

goes_on-end : (full : ℕ) (unfinished : Bool) (value : ℕ) (lacing : List ℕ) → value ≢ 255 → goes_on unfinished (replicate full 255 ++ value ∷ lacing) ≡ goes_on false lacing
unfolding goes_on
goes_on-end zero unfinished value lacing ne = ap (λ b. goes_on b lacing) (other value 255 ne)
goes_on-end (suc full) unfinished value lacing ne = goes_on-end full true value lacing ne

-- ---- the front part goes on in another page

abbrev open_part : Cut → ℕ → Bool → Given
open_part cut end unfinished = record { start = cut.bytes; end = end; first = not unfinished; last = false; position = None }

abbrev all_read : Progress → Progress
all_read old = record { behind = old.behind; unfinished = true; cut = None }

pub cut_open : (page : Page) (old : Progress) (cut : Cut) (full end : ℕ) (lacing : List ℕ) → CutFits page cut → lacing ≡ drop cut.values page.lacing → lacing ≡ replicate full 255 → end ≡ length page.body →
    HasCut page old cut (open_part cut end old.unfinished) (all_read old)
cut_open page old cut full end lacing fits is all here =
    let rest : List ℕ = drop cut.bytes page.body in
    let values : length lacing ≡ full = ap length all ∙ length-replicate full 255 in
    let some : 0 < full = omega (arith, values, ap length is, length-drop cut.values page.lacing, fits.values) in
    let size : 255 * full ≡ length rest = sym (sum-full full) ∙ ap sum (sym all ∙ is) ∙ fits.whole in
    let count : 255 * full ≡ end - cut.bytes = omega (arith, size, here, length-drop cut.bytes page.body) in
    record {
      fits = tt;
      given_fits = record { order = omega (arith, here, fits.bytes); inside = omega (arith, here) };
      behind = refl;
      parts = ap (λ l. page_parts (position_in page) (not old.unfinished) 0 l rest) (sym is ∙ all)
          ∙ parts-go_on full (255 * full) 0 (position_in page) (not old.unfinished) rest (omega arith) (omega (arith, some))
          ∙ ap (λ n. part_of (take n rest) (not old.unfinished) false None ∷ []) count;
      unfinished = sym (goes_on-some full old.unfinished some) ∙ ap (goes_on old.unfinished) (sym all ∙ is);
    }

-- ---- its packet ends there

abbrev ended_part : Cut → ℕ → Bool → Option ℕ → Given
ended_part cut end unfinished position = record { start = cut.bytes; end = end; first = not unfinished; last = true; position = position }

abbrev read_to : Progress → Option Cut → Progress
read_to old cut = record { behind = old.behind; unfinished = false; cut = cut }

-- what is left after it
record IsRest (page : Page) (rest : List ℕ) (values bytes : ℕ) : Type 0 where
  pub fits : IsCut None (Some (0, page)) (rest_cut rest values bytes)
  pub parts : left_in (Some (0, page)) false (rest_cut rest values bytes) ≡ page_parts (position_in page) true 0 rest (drop bytes page.body)
  pub unfinished : goes_on_in (Some (0, page)) false (rest_cut rest values bytes) ≡ goes_on false rest

is_rest : (page : Page) (cut : Cut) (rest : List ℕ) (values bytes : ℕ) → CutFits page cut → rest ≡ drop values page.lacing → bytes ≤ length page.body → sum rest ≡ length (drop bytes page.body) → IsRest page rest values bytes
unfolding page_parts goes_on
is_rest page cut [] values bytes fits is inside whole = record { fits = tt; parts = refl; unfinished = refl }
is_rest page cut (value ∷ rest) values bytes fits is inside whole = record {
  fits = (
    refl,
    record {
      is_page = fits.is_page;
      values = omega (arith, ap length is, length-drop values page.lacing);
      bytes = inside;
      whole = ap sum (sym is) ∙ whole;
    },
  );
  parts = ap (λ l. page_parts (position_in page) true 0 l (drop bytes page.body)) (sym is);
  unfinished = ap (goes_on false) (sym is);
}

pub cut_end : (page : Page) (old : Progress) (cut : Cut) (full value end : ℕ) (lacing rest : List ℕ) (position : Option ℕ) (next : Option Cut) → CutFits page cut → lacing ≡ drop cut.values page.lacing →
    SplitsAt lacing full value (drop (full + 1) lacing) → rest ≡ drop (full + 1) lacing → end ≡ cut.bytes + (255 * full + value) → position ≡ (if ends_packet rest then None else position_in page) →
    next ≡ rest_cut rest (cut.values + full + 1) end → HasCut page old cut (ended_part cut end old.unfinished position) (read_to old next)
cut_end page old cut full value end lacing rest position next fits is at behind here where_it_ends e =
    let body : List ℕ = drop cut.bytes page.body in
    let total : ℕ = 255 * full + value in
    let size : sum lacing ≡ length body = ap sum is ∙ fits.whole in
    let inside : end ≤ length page.body = omega (arith, here, at.added, size, length-drop cut.bytes page.body, fits.bytes) in
    let bytes : drop total body ≡ drop end page.body = drop-drop total cut.bytes page.body ∙ ap (λ n. drop n page.body) (sym here) in
    let values : rest ≡ drop (cut.values + full + 1) page.lacing =
    behind ∙ ap (drop (full + 1)) is ∙ drop-drop (full + 1) cut.values page.lacing ∙ ap (λ n. drop n page.lacing) (let k : cut.values + (full + 1) ≡ cut.values + full + 1 = omega arith in k) in
    let whole : sum rest ≡ length (drop end page.body) = omega (arith, ap sum behind, at.added, size, length-drop cut.bytes page.body, length-drop end page.body, here, fits.bytes) in
    let after : IsRest page rest (cut.values + full + 1) end = is_rest page cut rest (cut.values + full + 1) end fits values inside whole in
    let count : total ≡ end - cut.bytes = omega (arith, here) in
    let one : Option ℕ → List ℕ → PagePart = λ p l. part_of l (not old.unfinished) true p in
    subst (λ (c : Option Cut). HasCut page old cut (ended_part cut end old.unfinished position) (read_to old c)) (sym e)
    (record {
      fits = after.fits;
      given_fits = record { order = omega (arith, here); inside = inside };
      behind = refl;
      parts = ap (λ l. page_parts (position_in page) (not old.unfinished) 0 l body) (sym is ∙ at.whole)
          ∙ parts-end full total 0 (position_in page) (not old.unfinished) value (drop (full + 1) lacing) body at.ends (omega arith)
          ∙ ap (λ l. one (if ends_packet l then None else position_in page) (take total body) ∷ page_parts (position_in page) true 0 l (drop total body)) (sym behind)
          ∙ ap (λ p. one p (take total body) ∷ page_parts (position_in page) true 0 rest (drop total body)) (sym where_it_ends)
          ∙ ap (λ n. one position (take n body) ∷ page_parts (position_in page) true 0 rest (drop total body)) count
          ∙ ap (λ l. one position (take (end - cut.bytes) body) ∷ page_parts (position_in page) true 0 rest l) bytes
          ∙ ap (λ l. one position (take (end - cut.bytes) body) ∷ l) (sym after.parts);
      unfinished = after.unfinished ∙ sym (goes_on-end full old.unfinished value rest at.ends)
          ∙ ap (λ l. goes_on old.unfinished (replicate full 255 ++ value ∷ l)) behind ∙ ap (goes_on old.unfinished) (sym at.whole ∙ is);
    })

-- ---- the page that a window lends

pub cut_there : (fault : Option WindowFault) (lent : Option LentAt) (at : LentAt) (old : Progress) (cut : Cut) (given : Given) (new : Progress) → lent ≡ Some at → old.cut ≡ Some cut → fault ≡ None →
    HasCut at.1 old cut given new → CutsFront fault lent old given new
cut_there fault lent at old cut given new is here free has =
    subst (λ (l : Option LentAt). CutsFront fault l old given new) (sym is)
    (record {
      cut = same_cut fault at.0 at.1 new.cut free has.fits;
      fits = has.given_fits;
      behind = has.behind;
      part = part_given at.1 given;
      lends = refl;
      parts = ap (left_in (Some at) old.unfinished) here ∙ has.parts ∙ ap (λ l. part_given at.1 given ∷ l) (same_left at.0 at.1 new.unfinished new.cut);
      unfinished = sym (same_end at.0 at.1 new.unfinished new.cut) ∙ has.unfinished ∙ sym (ap (goes_on_in (Some at) old.unfinished) here);
    })
  where
    same_cut : (fault : Option WindowFault) (offset : ℕ) (page : Page) (cut : Option Cut) → fault ≡ None → IsCut None (Some (0, page)) cut → IsCut fault (Some (offset, page)) cut
    same_cut fault offset page None free fits = tt
    same_cut fault offset page (Some cut) free fits = (free, fits.1)

    same_left : (offset : ℕ) (page : Page) (unfinished : Bool) (cut : Option Cut) → left_in (Some (0, page)) unfinished cut ≡ left_in (Some (offset, page)) unfinished cut
    same_left offset page unfinished None = refl
    same_left offset page unfinished (Some cut) = refl

    same_end : (offset : ℕ) (page : Page) (unfinished : Bool) (cut : Option Cut) → goes_on_in (Some (0, page)) unfinished cut ≡ goes_on_in (Some (offset, page)) unfinished cut
    same_end offset page unfinished None = refl
    same_end offset page unfinished (Some cut) = refl

pub fits_there : (fault : Option WindowFault) (lent : Option LentAt) (at : LentAt) (was : Option Cut) (cut : Cut) → lent ≡ Some at → was ≡ Some cut → IsCut fault lent was → (fault ≡ None) × CutFits at.1 cut
fits_there fault lent at was cut is here fits = subst (λ (c : Option Cut). IsCut fault (Some at) c) here (subst (λ (l : Option LentAt). IsCut fault l was) is fits)
