use Rattle.std.proofs.Common.{length}
use Rattle.page_checksum.proofs.Slices.{IsSumSoFar}
use Rattle.page_checksum.proofs.crc.checksum_by_tables.Given as goal

abbrev pub decreases-loop-sixteen : goal.decreases-loop-sixteen
decreases-loop-sixteen l = length l.rest

abbrev pub invariant-loop-sixteen : goal.invariant-loop-sixteen
invariant-loop-sixteen l = IsSumSoFar l.before l.bytes l.rest l.sum

abbrev pub decreases-loop-eight : goal.decreases-loop-eight
decreases-loop-eight l = length l.rest

abbrev pub invariant-loop-eight : goal.invariant-loop-eight
invariant-loop-eight l = IsSumSoFar l.before l.bytes l.rest l.sum

abbrev pub decreases-loop-four : goal.decreases-loop-four
decreases-loop-four l = length l.rest

abbrev pub invariant-loop-four : goal.invariant-loop-four
invariant-loop-four l = IsSumSoFar l.before l.bytes l.rest l.sum
