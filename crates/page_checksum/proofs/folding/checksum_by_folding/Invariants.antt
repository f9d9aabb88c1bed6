use Rattle.std.proofs.Common.{◌≡◌, ◌≤◌, ◌++◌, length, slice_index}
use Rattle.std.specs.Int.{to_be_bytes, w32}
use Rattle.page_checksum.specs.Checksum.{checksum_of}
use Rattle.page_checksum.proofs.Taken.{cut, mixed}
use Rattle.page_checksum.proofs.folding.checksum_by_folding.Given as goal

abbrev pub decreases-loop-rest : goal.decreases-loop-rest
decreases-loop-rest l = length l.rest

abbrev pub invariant-loop-rest : goal.invariant-loop-rest
invariant-loop-rest l = record {
  long : 256 ≤ length l.rest;
  same : checksum_of (to_be_bytes w32 l.first ++ l.bytes) ≡ checksum_of (mixed (cut 256 (slice_index l.folded)) 256 l.rest);
}
