use Rattle.std.proofs.Common.{◌≡◌, ◌++◌, ◌+◌, ◌≤◌, length}
use Rattle.line_packets.specs.Choosing.{known_from}
use Rattle.line_packets.proofs.choosing.known_streams.Given as goal

abbrev pub invariant-loop-stream : goal.invariant-loop-stream
invariant-loop-stream l = (known_from 0 l.streams ≡ l.all.items ++ known_from l.before l.rest) × (l.before + length l.rest ≤ length l.streams)

abbrev pub decreases-loop-stream : goal.decreases-loop-stream
decreases-loop-stream l = length l.rest
