-- How long may be waited, if nothing comes. Times are milliseconds. Ours.
use Rattle.std.specs.Prelude.{ℕ, zero, suc, Option, ◌-◌}
use Rattle.station_hub.specs.Patience.{sooner}

-- How long it is until everybody has a turn: that is once a second.
abbrev pub until_look : ℕ → ℕ → ℕ
until_look looked now = 1000 - (now - looked)

-- How long may be waited until there is something to do: not at all if a turn waits; else until what waits is committed,
-- those who hear are woken, or everybody has a turn.
abbrev pub until_next : ℕ → Option ℕ → Option ℕ → ℕ → ℕ
until_next zero commit waking looks = sooner commit (sooner waking looks)
until_next (suc turns) commit waking looks = 0
