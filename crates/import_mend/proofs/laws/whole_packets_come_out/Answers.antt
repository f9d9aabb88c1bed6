use Rattle.std.proofs.Common.{◌≡◌, ◌≢◌, ℕ, List, [], ◌∷◌, ◌++◌, Option, length, map, sym, ◌∙◌, ap, subst, append_assoc, inl, inr}
use Rattle.std.specs.Prelude.{nat_lt}
use Rattle.std.proofs.lemmas.Bool.{cond-true, false≢true}
use Rattle.ogg_page.specs.Page.{Page}
use Rattle.ogg_page.specs.Window.{LentAt}
use Rattle.import_commands.specs.Commands.{entry_of}
use Rattle.import_gather.specs.Cutting.{CutsInto}
use Rattle.import_gather.specs.Kept.{rest_of}
use Rattle.import_mend.specs.Runs.{AreRun, counts, packets_in, run_of, waiting_in}
use Rattle.import_mend.specs.declared.mend.Mend.{Mend}
use Rattle.import_mend.proofs.ComesOut.{later_page, not_left, whole_come_out}
use Rattle.import_mend.proofs.Held.{all_mended}
use Rattle.import_mend.proofs.LastPages.{last_begins, last_goes_on}
use Rattle.import_mend.proofs.Waiting.{StepOut, packets_app, steps_on}
use Rattle.import_mend.proofs.WaitsOn.{always_bare, end_passes, first_comes, pages_pass, start_bare}
use Rattle.import_mend.proofs.WholeRuns.{one_more, whole_once}
use Rattle.import_mend.proofs.laws.whole_packets_come_out.Goals as goal

-- a run has a page
some_of : (serial : ℕ) (run : List LentAt) (mends : List (Option Mend)) → AreRun serial run mends → run_of serial run mends ≢ []
some_of serial [] mends is = absurd is
some_of serial (lent ∷ later) [] is = absurd is
some_of serial (lent ∷ later) (mend ∷ mends) is =
    λ e. some (sym (cond-true (counts serial lent.1 mend) (lent.1 ∷ run_of serial later mends) (run_of serial later mends) is.0.is) ∙ e)
  where
    some : {page : Page} {pages : List Page} → page ∷ pages ≡ [] → ⊥
    some e = cc

pub returns-clause-run : goal.returns-clause-run
returns-clause-run c serial earlier run start old new told mends before given are begins first taken is =
    let (entries, whole, _, out) = whole_come_out serial earlier run start old new told mends before given are begins first taken is in
    (entries, whole, out.put, (out.come (always_bare serial earlier start old told before begins first)).0)

pub returns-clause-one : goal.returns-clause-one
returns-clause-one c serial pages entries others a b = whole_once serial pages entries others a b

pub returns-clause-last : goal.returns-clause-last
returns-clause-last c serial earlier run lent start old middle new told mends mend before given own are page_is begins first taken is one last =
    let page : Page = lent.1 in
    let parts = not_left serial page mend last.is.is in
    let (entries, whole, unfinished, out) = whole_come_out serial earlier run start old middle told mends before given are begins first taken is in
    let (links, held) = all_mended earlier start old told [] before [] first (begins.gathered, begins.goes_on) in
    let (links', held') = all_mended run old middle mends before given links taken held in
    elim (later_page lent.0 page middle new mend own last.is.later one) [
      | inl left_out ↦ absurd (false≢true (sym parts.1 ∙ left_out.told))
      | inr l ↦
          (let same : rest_of page.serial middle.gathered.link.streams ≡ rest_of serial middle.gathered.link.streams = ap (λ n. rest_of n middle.gathered.link.streams) parts.0 in
          let o = last_goes_on lent.0 page middle new mend own (before ++ given) links' held' last.is.later l whole.segments page_is last.is.last last.told
          (last.flag ∙ ap (λ (r : List ℕ). nat_lt 0 (length r)) (sym same)) last.ends (ap length (same ∙ sym unfinished) ∙ whole.unfinished_size) in
          let (now, _) = one_more serial (run_of serial run mends) entries page o.packets o.left parts.0 (some_of serial run mends is) whole
          (subst (λ r. CutsInto whole.segments r page.lacing page.body o.packets o.left) (same ∙ sym unfinished) o.cuts) in
          let steps : StepOut serial (entries ++ map (entry_of page) o.packets) old.gathered.link new.gathered.link (given ++ own) =
          steps_on serial entries (map (entry_of page) o.packets) old.gathered.link middle.gathered.link new.gathered.link given own out
          (subst (λ n. StepOut n (map (entry_of page) o.packets) middle.gathered.link new.gathered.link own) parts.0 o.out) in
          (entries ++ map (entry_of page) o.packets, now, steps.put, (steps.come (always_bare serial earlier start old told before begins first)).0))
    ]

pub returns-clause-alone : goal.returns-clause-alone
returns-clause-alone c serial earlier lent start old new told mend before own page_is begins first one last =
    let page : Page = lent.1 in
    let parts = not_left serial page mend last.is.is in
    let (links, held) = all_mended earlier start old told [] before [] first (begins.gathered, begins.goes_on) in
    elim (later_page lent.0 page old new mend own last.is.later one) [
      | inl left_out ↦ absurd (false≢true (sym parts.1 ∙ left_out.told))
      | inr l ↦
          (let same : rest_of page.serial old.gathered.link.streams ≡ rest_of serial old.gathered.link.streams = ap (λ n. rest_of n old.gathered.link.streams) parts.0 in
          let b = last_begins lent.0 page old new mend own before links held last.is.later l serial parts.0 page_is last.is.last (λ continued untold. same ∙ last.lost continued untold) in
          (b.entries, b.whole, b.out.put, (b.out.come (always_bare serial earlier start old told before begins first)).0))
    ]

pub returns-clause-first : goal.returns-clause-first
returns-clause-first c offset page earlier start old new told mend before given begins earlier_taken taken first kept =
    let (links, held) = all_mended earlier start old told [] before [] earlier_taken (begins.gathered, begins.goes_on) in
    first_comes offset page old new mend before given links held first taken kept (always_bare page.serial earlier start old told before begins earlier_taken)

pub returns-clause-waits : goal.returns-clause-waits
returns-clause-waits c serial earlier pages start old new told mends before given begins first taken =
    let (links, held) = all_mended earlier start old told [] before [] first (begins.gathered, begins.goes_on) in
    let (packets, p) = pages_pass serial pages old new mends before given links held taken (always_bare serial earlier start old told before begins first) in
    (packets, p.come)

pub returns-clause-end : goal.returns-clause-end
returns-clause-end c serial pages start new mends last given more begins taken ends =
    let (links, held) = all_mended pages start new mends [] given [] taken (begins.gathered, begins.goes_on) in
    end_passes serial new.gathered last given more links held ends (always_bare serial pages start new mends given begins taken)

pub returns-clause-whole : goal.returns-clause-whole
returns-clause-whole c serial packets earlier pages later start old middle new told mends others last before given after more begins first taken rest ends come =
    let (links, held) = all_mended earlier start old told [] before [] first (begins.gathered, begins.goes_on) in
    let (links', held') = all_mended pages old middle mends before given links taken held in
    let (links'', held'') = all_mended later middle new others (before ++ given) after links' rest held' in
    let bare = always_bare serial earlier start old told before begins first in
    let bare' = (pages_pass serial pages old middle mends before given links held taken bare).1.bare in
    let (front, f) = pages_pass serial earlier start old told [] before [] (begins.gathered, begins.goes_on) first (start_bare serial start begins) in
    let (behind, b) = pages_pass serial later middle new others (before ++ given) after links' held' rest bare' in
    let all = end_passes serial new.gathered last ((before ++ given) ++ after) more links'' held'' ends b.bare in (
      waiting_in serial start.gathered.link.streams ++ front,
      behind,
      packets_app serial before (given ++ (after ++ more))
          ∙ ap (λ l. packets_in serial before ++ l) (packets_app serial given (after ++ more)
          ∙ ap (λ l. packets_in serial given ++ l) (packets_app serial after more ∙ ap (λ l. packets_in serial after ++ l) (sym all) ∙ sym b.come)
          ∙ sym (append_assoc (packets_in serial given) (waiting_in serial middle.gathered.link.streams) behind)
          ∙ ap (λ l. l ++ behind) (sym come)
          ∙ append_assoc (waiting_in serial old.gathered.link.streams) packets behind)
          ∙ sym (append_assoc (packets_in serial before) (waiting_in serial old.gathered.link.streams) (packets ++ behind))
          ∙ ap (λ l. l ++ (packets ++ behind)) (sym f.come),
    )
