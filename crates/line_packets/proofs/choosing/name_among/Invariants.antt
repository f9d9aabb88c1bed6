use Rattle.std.proofs.Common.{◌≡◌, length}
use Rattle.line_packets.specs.Choosing.{name_among}
use Rattle.line_packets.proofs.choosing.name_among.Given as goal

abbrev pub invariant-loop-one : goal.invariant-loop-one
invariant-loop-one l = name_among l.rest l.serial ≡ name_among l.names l.serial

abbrev pub decreases-loop-one : goal.decreases-loop-one
decreases-loop-one l = length l.rest
