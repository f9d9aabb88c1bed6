use Rattle.std.proofs.Common.{◌≡◌, ◌+◌, ◌≤◌, ℕ, List, length}
use Rattle.line_packets.specs.Lines.{short}
use Rattle.line_packets.proofs.Cutting.{AreTaken}
use Rattle.line_packets.proofs.lines.take_lines.Given as goal

abbrev pub invariant-loop-line : goal.invariant-loop-line
invariant-loop-line l = ((line : List ℕ) → l.fn.front ≡ short line
    → AreTaken l.streams l.position line l.piece l.fn.entries.items l.entries.items l.rest l.lines l.front)
    × (l.lines + length l.rest ≤ length l.piece)

abbrev pub decreases-loop-line : goal.decreases-loop-line
decreases-loop-line l = length l.rest
