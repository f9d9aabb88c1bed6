use Rattle.std.proofs.Common.{◌≡◌, ◌<◌, ℕ, slice_index}
use Rattle.page_checksum.proofs.Pendings.{IsFolded}
use Rattle.page_checksum.proofs.folding.fold.Given as goal

abbrev pub invariant-loop-i : goal.invariant-loop-i
invariant-loop-i l = record {
  each : (j : ℕ) → j < l.i → IsFolded l.piece l.folded j;
  kept : (j : ℕ) → j < 256 → slice_index l.folded j ≡ slice_index l.fn.folded j;
}
