use Rattle.std.proofs.Common.{◌≡◌, ◌+◌, ◌++◌, ◌≤◌, length}
use Rattle.line_packets.specs.Begin.{streams_from}
use Rattle.line_packets.proofs.begin.new_streams.Given as goal

abbrev pub invariant-loop-name : goal.invariant-loop-name
invariant-loop-name l = (l.streams.items ++ streams_from l.serial l.media l.rest ≡ streams_from 1 l.media l.names) × (l.serial + length l.rest ≤ 64)

abbrev pub decreases-loop-name : goal.decreases-loop-name
decreases-loop-name l = length l.rest
