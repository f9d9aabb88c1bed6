use Rattle.std.proofs.Common.{◌≡◌, Err, [], length, sym, ◌∙◌, ap, subst}
use Rattle.std.specs.List.{AllByRecursion}
use Rattle.ogg_page.specs.Page.{IsPage}
use Rattle.serve_live.specs.Hearing.{IsHearing}
use Rattle.serve_live.specs.Joined.{IsNew}
use Rattle.serve_live.specs.Live.{Moment}
use Rattle.archive_cut.specs.Cut.{ends_of}
use Rattle.archive_cut.specs.Heads.{streams_after}
use Rattle.archive_cut.specs.declared.fault.CutFault.TheVariants.{Source}
use Rattle.archive_cut.proofs.Starts.{ready_to_wait}
use Rattle.archive_cut.proofs.cut.waiting.Goals as goal

pub returns-in-Ok-clause-cuts : goal.returns-in-Ok-clause-cuts
returns-in-Ok-clause-cuts g c committed more links moment sure is end_is l at =
    let r = ready_to_wait (g.S.PageSource.bytes c.args.source.now) committed more links moment c.args.start c.args.end is end_is l at in
    let streams = c.as_slice.ensures.value ∙ c.in-Ok.ensures.taken r.pages sure r.stand ∙ ap (λ s. streams_after s r.pages) c.new-streams.ensures.items ∙ r.streams in
    let new : IsNew c.args.start 0 c.args.start [] c.wait-listener.result = c.wait-listener.ensures in
    let waits = c.listeners_hear_what_they_should.ensures.waits r.front c.wait-listener.result (subst (λ n. IsNew n 0 n [] c.wait-listener.result) (sym r.front_is) new) in
    let grown = c.listeners_hear_what_they_should.ensures.grows _ r.front c.wait-listener.result [] r.pages waits r.are_pages in
    let hearing : IsHearing moment committed c.wait-listener.result [] =
    subst (λ (m : Moment). IsHearing m committed c.wait-listener.result []) (sym r.moment_is) (subst (λ b. IsHearing (record { place = length r.front; begin = []; passed = [] }) b c.wait-listener.result []) (sym r.split) grown) in
    c.new.ensures.cuts moment committed links hearing end_is l streams r.same

pub returns-in-Ok-clause-numbers : goal.returns-in-Ok-clause-numbers
returns-in-Ok-clause-numbers g c committed more links moment sure is end_is l at err numbers =
    let r = ready_to_wait (g.S.PageSource.bytes c.args.source.now) committed more links moment c.args.start c.args.end is end_is l at in
    let streams = c.as_slice.ensures.value ∙ c.in-Ok.ensures.taken r.pages sure r.stand ∙ ap (λ s. streams_after s r.pages) c.new-streams.ensures.items ∙ r.streams in
    c.new.ensures.numbers err (subst (AllByRecursion IsPage) (ap ends_of (sym streams)) numbers)

pub returns-clause-cause : goal.returns-clause-cause
returns-clause-cause g c committed more links moment sure is end_is l at err =
    let r = ready_to_wait (g.S.PageSource.bytes c.args.source.now) committed more links moment c.args.start c.args.end is end_is l at in
    let source : c.in-Err.fault ≡ Source = cc in
    c.in-Err.ensures.cause r.pages sure r.stand (ap Err source)
