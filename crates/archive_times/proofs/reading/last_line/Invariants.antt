use Rattle.std.proofs.Common.{◌≡◌, List, ◌++◌, length}
use Rattle.archive_times.specs.Times.{AreTimes, last_of, times_text}
use Rattle.archive_times.specs.declared.line.Line.{Line}
use Rattle.archive_times.proofs.reading.last_line.Given as goal

-- the text so far is lines
abbrev pub invariant-loop-line : goal.invariant-loop-line
invariant-loop-line l =
    (lines : List Line) × (l.fn.text ≡ times_text lines ++ l.rest) × AreTimes l.committed l.fn.last lines × (l.last ≡ last_of l.fn.last lines)

abbrev pub decreases-loop-line : goal.decreases-loop-line
decreases-loop-line l = length l.rest
