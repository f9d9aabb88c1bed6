use Rattle.std.proofs.Common.{◌≡◌, Err, ap}
use Rattle.archive_cut.specs.declared.fault.CutFault.TheVariants.{Source}
use Rattle.archive_cut.proofs.cut.hear_from.Goals as goal

pub returns-in-Err-clause-cause : goal.returns-in-Err-clause-cause
returns-in-Err-clause-cause g c committed more links moment sure is end_is l at err =
    let source : c.in-Err.fault ≡ Source = cc in
    c.in-Err.ensures.cause committed more links moment sure is end_is l at (ap Err source)
