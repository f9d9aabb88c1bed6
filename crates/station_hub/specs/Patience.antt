-- When what waits is committed. Times are milliseconds. Ours.
use Rattle.std.specs.Prelude.{ℕ, zero, suc, ◌-◌, min, Bool, ◌&&◌, ◌||◌, nat_le, nat_lt, Option, Some, None}

-- What waits is committed once 64 commands wait, or the oldest has waited for 150 milliseconds.
abbrev pub is_due : ℕ → ℕ → ℕ → Bool
is_due waiting since now = nat_le 64 waiting || (nat_lt 0 waiting && nat_le 150 (now - since))

-- how long is waited until then, if something waits
abbrev pub until_due : ℕ → ℕ → ℕ → Option ℕ
until_due zero since now = None
until_due (suc waiting) since now = Some (150 - (now - since))

-- what comes sooner: this, if there is one, or that
abbrev pub sooner : Option ℕ → ℕ → ℕ
sooner None other = other
sooner (Some one) other = min one other
