use Rattle.std.proofs.Common.{refl, sym, ◌∙◌, subst}
use Rattle.archive_fetch.specs.Hearing.{Ends, HeardState}
use Rattle.archive_fetch.proofs.Contents.{same_heard}
use Rattle.archive_fetch.proofs.fetches.ended.Goals as goal

pub returns-in-Heard-clause-ends : goal.returns-in-Heard-clause-ends
returns-in-Heard-clause-ends g c heard given = (
  c.end_file.new.heard,
  subst (λ (one : HeardState _). Ends g.D.Disk c.args.client.now one c.end_file.new.client c.end_file.new.heard)
      (same_heard c.in-Heard.heard heard (sym c.in-Heard.is ∙ given)) c.end_file.ensures,
  refl,
)
