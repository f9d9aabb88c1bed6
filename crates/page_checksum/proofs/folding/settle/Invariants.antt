use Rattle.std.proofs.Common.{◌≡◌, ◌+◌, ◌<◌, ℕ, length, slice_index}
use Rattle.std.specs.Prelude.{bit_xor}
use Rattle.page_checksum.specs.Pending.{pending_at}
use Rattle.page_checksum.proofs.folding.settle.Given as goal

abbrev pub invariant-loop-i : goal.invariant-loop-i
invariant-loop-i l = record {
  long : length l.settled ≡ 256;
  each : (j : ℕ) → j < l.i → slice_index l.settled j ≡ bit_xor (slice_index l.last j) (pending_at (slice_index l.folded) (256 + j));
}
