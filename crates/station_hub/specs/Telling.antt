-- How times are told. Ours.
use Rattle.std.specs.Prelude.{ℕ, ◌/◌}

abbrev pub in_seconds : ℕ → ℕ
in_seconds milliseconds = milliseconds / 1000
