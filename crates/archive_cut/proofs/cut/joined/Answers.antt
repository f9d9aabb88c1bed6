use Rattle.std.proofs.Common.{◌≡◌, Err, sym, ◌∙◌, ap, subst}
use Rattle.std.specs.List.{AllByRecursion}
use Rattle.ogg_page.specs.Page.{IsPage}
use Rattle.page_heads.specs.Laws.{later_failed}
use Rattle.archive_cut.specs.Cut.{ends_of}
use Rattle.archive_cut.specs.Heads.{StandUpTo}
use Rattle.archive_cut.specs.declared.fault.CutFault.TheVariants.{Source}
use Rattle.archive_cut.proofs.cut.joined.Goals as goal

pub returns-in-Ok-take_pages-clause-cuts : goal.returns-in-Ok-take_pages-clause-cuts
returns-in-Ok-take_pages-clause-cuts g c committed more links moment sure is end_is l at =
    let (hearing, same) = c.in-Ok.ensures.hears committed more links moment sure is end_is l at in
    let walked = c.in-Ok.ensures.streams committed more links moment sure is end_is l at in
    let kept = c.join_at.ensures.source in
    let taken = c.in-Ok-take_pages.ensures.taken walked.pages (kept.honest_same.0 sure)
    (subst (λ b. StandUpTo b c.in-Ok.joining.link_end c.args.end walked.pages) (sym (kept.bytes_same sure)) walked.left) in
    c.new.ensures.cuts moment committed links hearing end_is l (c.as_slice.ensures.value ∙ taken ∙ walked.then_all) same

pub returns-in-Ok-take_pages-clause-numbers : goal.returns-in-Ok-take_pages-clause-numbers
returns-in-Ok-take_pages-clause-numbers g c committed more links moment sure is end_is l at err numbers =
    let walked = c.in-Ok.ensures.streams committed more links moment sure is end_is l at in
    let kept = c.join_at.ensures.source in
    let taken = c.in-Ok-take_pages.ensures.taken walked.pages (kept.honest_same.0 sure)
    (subst (λ b. StandUpTo b c.in-Ok.joining.link_end c.args.end walked.pages) (sym (kept.bytes_same sure)) walked.left) in
    c.new.ensures.numbers err (subst (AllByRecursion IsPage) (ap ends_of (sym (c.as_slice.ensures.value ∙ taken ∙ walked.then_all))) numbers)

pub returns-in-Err-take_pages-clause-cause : goal.returns-in-Err-take_pages-clause-cause
returns-in-Err-take_pages-clause-cause g c committed more links moment sure is end_is l at err =
    let walked = c.in-Ok.ensures.streams committed more links moment sure is end_is l at in
    let kept = c.join_at.ensures.source in
    let source : c.in-Err-take_pages.fault ≡ Source = cc in
    later_failed _ _ _ c.join_at.ensures.later
    (c.in-Err-take_pages.ensures.cause walked.pages (kept.honest_same.0 sure)
    (subst (λ b. StandUpTo b c.in-Ok.joining.link_end c.args.end walked.pages) (sym (kept.bytes_same sure)) walked.left) (ap Err source))

pub returns-in-Err-clause-cause : goal.returns-in-Err-clause-cause
returns-in-Err-clause-cause g c committed more links moment sure is end_is l at err =
    let source : c.in-Err.fault ≡ Source = cc in
    c.in-Err.ensures.cause committed more links moment sure is end_is l at (ap Err source)
