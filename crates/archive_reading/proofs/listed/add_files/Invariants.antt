use Rattle.std.proofs.Common.{length}
use Rattle.archive_reading.proofs.Groups.{GoesOn}
use Rattle.archive_reading.proofs.listed.add_files.Given as goal

abbrev pub invariant-loop-first : goal.invariant-loop-first
invariant-loop-first l = GoesOn l.entries l.files.items l.twice.items l.rest

abbrev pub decreases-loop-first : goal.decreases-loop-first
decreases-loop-first l = length l.rest
