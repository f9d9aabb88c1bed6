use Rattle.std.proofs.Common.{Err, ap}
use Rattle.archive_cut.proofs.cut.join_link.Goals as goal

pub returns-in-Err-Source-clause-cause : goal.returns-in-Err-Source-clause-cause
returns-in-Err-Source-clause-cause g c committed more links moment sure is end_is l streams place err =
    c.in-Err-Source.ensures.cause committed more links moment sure is end_is l streams place (ap Err c.in-Err-Source.field-0-is)
