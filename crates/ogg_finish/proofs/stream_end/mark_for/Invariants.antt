use Rattle.std.proofs.Common.{◌≡◌, length}
use Rattle.ogg_finish.specs.Ends.{mark_for}
use Rattle.ogg_finish.proofs.stream_end.mark_for.Given as goal

-- the streams that are left decide
abbrev pub invariant-loop-end : goal.invariant-loop-end
invariant-loop-end l = mark_for l.fn.ends l.serial ≡ mark_for l.rest l.serial

abbrev pub decreases-loop-end : goal.decreases-loop-end
decreases-loop-end l = length l.rest
