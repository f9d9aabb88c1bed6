use Rattle.line_packets.proofs.Cutting.{GoesOn}
use Rattle.line_packets.proofs.lines.first_feed.Given as goal

abbrev pub invariant-loop-at : goal.invariant-loop-at
invariant-loop-at l = GoesOn l.piece l.at
