use Rattle.std.proofs.Common.{length}
use Rattle.archive_cut.proofs.placing.last_link.Given as goal

abbrev pub decreases-loop-line : goal.decreases-loop-line
decreases-loop-line l = length l.rest
