-- What a fault says of the disk.
use Rattle.std.specs.Prelude.{◌≡◌, ◌⊎◌, ℕ, ◌-◌, ◌^◌, ◌<◌, ◌≤◌, Result, IsErr}

-- the count of failures rises, or stands at the top of a `u64`
abbrev pub Rises : ℕ → ℕ → Type 0
Rises before now = (before < now) ⊎ (now ≡ 2 ^ 64 - 1)

-- A fault comes only if the count of failures rises. The count never falls.
pub record HasCause {T E : Type 0} (before now : ℕ) (result : Result T E) : Type 0 where
  pub later : before ≤ now
  pub failed : IsErr result → Rises before now
