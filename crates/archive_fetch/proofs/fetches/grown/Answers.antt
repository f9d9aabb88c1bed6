use Rattle.std.proofs.Common.{refl, sym, ◌∙◌, subst}
use Rattle.archive_fetch.specs.Hearing.{Grows, HeardState}
use Rattle.archive_fetch.proofs.Contents.{same_heard}
use Rattle.archive_fetch.proofs.fetches.grown.Goals as goal

pub returns-in-Heard-clause-grows : goal.returns-in-Heard-clause-grows
returns-in-Heard-clause-grows g c heard given = (
  c.grow.new.heard,
  subst (λ (one : HeardState _). Grows g.D.Disk c.args.committed c.args.client.now one c.grow.new.client c.grow.new.heard)
      (same_heard c.in-Heard.heard heard (sym c.in-Heard.is ∙ given)) c.grow.ensures,
  refl,
)
