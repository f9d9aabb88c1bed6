use Rattle.std.proofs.Common.{◌≡◌, ℕ, List, None, length}
use Rattle.archive_times.specs.Asked.{line_at}
use Rattle.archive_times.specs.Times.{AreLinesOf}
use Rattle.archive_times.specs.declared.line.Line.{Line}
use Rattle.archive_times.proofs.asking.line_at.Given as goal

-- what the lines of the text say is what those that are left say, after the last
abbrev pub invariant-loop-line : goal.invariant-loop-line
invariant-loop-line l =
    (lines : List Line) (rest : List ℕ) → AreLinesOf l.committed None l.fn.text lines rest
    → (left : List Line) × AreLinesOf l.committed l.last l.rest left rest × (line_at None lines l.time ≡ line_at l.last left l.time)

abbrev pub decreases-loop-line : goal.decreases-loop-line
decreases-loop-line l = length l.rest
