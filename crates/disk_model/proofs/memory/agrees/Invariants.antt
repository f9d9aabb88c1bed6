use Rattle.std.proofs.Common.{◌≡◌, ℕ, ◌<◌, false, slice_get}
use Rattle.disk_model.specs.Image.{is_written}
use Rattle.disk_model.proofs.memory.agrees.Given as goal

-- the bytes so far agree
abbrev pub invariant-loop-k : goal.invariant-loop-k
invariant-loop-k l = (k : ℕ) → k < l.k → is_written l.written k ≡ false → slice_get l.image k ≡ slice_get l.synced k
