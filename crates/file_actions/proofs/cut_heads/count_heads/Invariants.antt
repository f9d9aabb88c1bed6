use Rattle.std.proofs.Common.{◌-◌}
use Rattle.file_actions.proofs.cut_heads.count_heads.Given as goal

abbrev pub decreases-loop-place : goal.decreases-loop-place
decreases-loop-place l = l.end - l.place
