use Rattle.std.proofs.Common.{◌≡◌, ◌⊎◌, ◌+◌, ◌<◌, ◌≤◌, ℕ, arith, refl}
use Rattle.archive_reading.proofs.ahead.read_ahead.Goals as goal

failed_twice : (a b c m : ℕ) → (a < b) ⊎ (b ≡ m) → (b < c) ⊎ (c ≡ m) → (a + 2 ≤ c) ⊎ (m ≤ c)
failed_twice a b c m first second = grind arith

pub returns-in-Err-read_at-clause-alone : goal.returns-in-Err-read_at-clause-alone
returns-in-Err-read_at-clause-alone g c = λ _. failed_twice _ _ _ _ (c.in-Err.ensures.cause.failed refl) (c.in-Err-read_at.ensures.cause.failed refl)
