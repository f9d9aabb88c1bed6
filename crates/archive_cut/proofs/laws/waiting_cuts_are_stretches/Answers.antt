use Rattle.archive_cut.proofs.Stretches.{waits_plainly}
use Rattle.archive_cut.proofs.laws.waiting_cuts_are_stretches.Goals as goal

pub returns : goal.returns
returns c = waits_plainly
