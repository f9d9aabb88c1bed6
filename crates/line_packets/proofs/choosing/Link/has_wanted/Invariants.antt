use Rattle.std.proofs.Common.{length}
use Rattle.line_packets.proofs.choosing.Link.has_wanted.Given as goal

abbrev pub decreases-loop-stream : goal.decreases-loop-stream
decreases-loop-stream l = length l.rest
