use Rattle.std.proofs.Common.{inr, refl}
use Rattle.archive_fetch.proofs.fetches.end_file.Goals as goal

pub returns-in-Err : goal.returns-in-Err
returns-in-Err g c = record { same = c.has_ended.ensures.same; becomes = inr (c.go_to.ensures, c.in-Err.ensures.cause refl) }
