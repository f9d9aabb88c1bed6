use Rattle.std.proofs.Common.{length}
use Rattle.file_actions.proofs.cutting.Asked.note_air.Given as goal

abbrev pub decreases-loop-line : goal.decreases-loop-line
decreases-loop-line l = length l.rest
