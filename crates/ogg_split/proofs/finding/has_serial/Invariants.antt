use Rattle.std.proofs.Common.{◌≡◌, length}
use Rattle.ogg_split.specs.Asked.{has_serial}
use Rattle.ogg_split.proofs.finding.has_serial.Given as goal

-- the streams that are left decide
abbrev pub invariant-loop-stream : goal.invariant-loop-stream
invariant-loop-stream l = has_serial l.fn.streams l.serial ≡ has_serial l.rest l.serial

abbrev pub decreases-loop-stream : goal.decreases-loop-stream
decreases-loop-stream l = length l.rest
