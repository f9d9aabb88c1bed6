use Rattle.std.proofs.Common.{sym, subst}
use Rattle.archive_fetch.proofs.EndPages.{AreTaken, taken_on}
use Rattle.archive_fetch.proofs.meetings.ended_in.Goals as goal

pub pages-preserved : goal.pages-preserved
pages-preserved c =
    subst (λ l. AreTaken c.args.bytes.now l c.in-Ok.after.now) (sym c.in_ok-push-in-Some.ensures.items)
    (taken_on c.args.bytes.now c.pages.ended.items c.pages.rest.now c.in-Ok.after.now c.in-Ok.page c.in-Some.stream c.pages.invariant
    c.in-Ok.ensures.split.1 c.in-Some.ensures.0 c.in-Some.ensures.1)
