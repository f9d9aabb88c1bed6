use Rattle.std.proofs.Common.{◌≡◌, ◌+◌, ◌<◌, ℕ, slice_index}
use Rattle.page_checksum.proofs.folding.end.Given as goal

abbrev pub invariant-loop-i : goal.invariant-loop-i
invariant-loop-i l = record {
  kept : (j : ℕ) → j < 256 → slice_index l.folded j ≡ slice_index l.fn.folded j;
  blank : (j : ℕ) → j < l.i → slice_index l.folded (256 + j) ≡ 0;
}
