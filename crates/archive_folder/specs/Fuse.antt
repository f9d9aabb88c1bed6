-- When a fuse blows.
use Rattle.std.specs.Prelude.{ℕ, ◌+◌, ◌-◌, ◌^◌, min, Bool, nat_le, ◌&&◌}

-- the number of the call after so many
abbrev pub call_after : ℕ → ℕ
call_after made = min (made + 1) (2 ^ 64 - 1)

-- whether a call's number is from the first up to the last
abbrev pub is_among : ℕ → ℕ → ℕ → Bool
is_among first last call = nat_le first call && nat_le call last
