use Rattle.std.proofs.Common.{◌≡◌, length}
use Rattle.line_packets.specs.Choosing.{stream_with}
use Rattle.line_packets.proofs.choosing.stream_with.Given as goal

abbrev pub invariant-loop-stream : goal.invariant-loop-stream
invariant-loop-stream l = stream_with l.serial l.rest ≡ stream_with l.serial l.streams

abbrev pub decreases-loop-stream : goal.decreases-loop-stream
decreases-loop-stream l = length l.rest
