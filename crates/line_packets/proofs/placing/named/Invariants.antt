use Rattle.std.proofs.Common.{◌≡◌, ◌+◌, length}
use Rattle.line_packets.specs.Placing.{named_from}
use Rattle.line_packets.proofs.placing.named.Given as goal

abbrev pub invariant-loop-other : goal.invariant-loop-other
invariant-loop-other l = (named_from 0 l.name l.names ≡ named_from l.place l.name l.rest) × (l.place + length l.rest ≡ length l.names)

abbrev pub decreases-loop-other : goal.decreases-loop-other
decreases-loop-other l = length l.rest
