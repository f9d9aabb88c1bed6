use Rattle.std.proofs.Common.{sym, ◌∙◌}
use Rattle.archive_fetch.proofs.hearing.Heard.pull.Goals as goal

pub returns-clause-gives : goal.returns-clause-gives
returns-clause-gives g c = rw (← c.self.view_is)
    (λ committed more left r. c.pull.ensures.gives committed more left (r.honest, r.whole) r.bytes (r.end ∙ sym c.end-end.ensures) r.rest)

pub returns-clause-cause : goal.returns-clause-cause
returns-clause-cause g c = rw (← c.self.view_is)
    (λ committed more left r err. (c.pull.ensures.cause committed more left (r.honest, r.whole) r.bytes (r.end ∙ sym c.end-end.ensures) r.rest err).0)
