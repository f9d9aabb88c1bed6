use Rattle.std.proofs.Common.{inl, inr, refl}
use Rattle.archive_fetch.proofs.fetches.hear.Goals as goal

pub returns-in-Ok-clause-hears : goal.returns-in-Ok-clause-hears
returns-in-Ok-clause-hears g c = inl (record { gives = c.in-Ok.ensures.gives; becomes = refl })

pub returns-in-Err-clause-hears : goal.returns-in-Err-clause-hears
returns-in-Err-clause-hears g c = inr (record { none = refl; becomes = c.go_to.ensures; cause = λ committed more left r. c.in-Err.ensures.cause committed more left r refl })
