-- When a station comes to its end. Ours.
use Rattle.std.specs.Prelude.{ℕ, ◌-◌, Bool, false, not, ◌&&◌, ◌||◌, nat_le, Option, None, Some, is_some}
use Rattle.station_sources.specs.declared.air.OnAir.{OnAir}

-- Pages are gathered for those who hear them, as long as a source has the air and the station doesn't come to its end.
abbrev pub gathers : Option OnAir → Option ℕ → Bool
gathers air ending = is_some air && not (is_some ending)

-- What is recorded has come to its end: no source has the air, and none gets it any more.
abbrev pub is_over : Option OnAir → Option ℕ → Bool
is_over air ending = is_some ending && not (is_some air)

-- A station that comes to its end has come to it once nobody is on the air and all that was accepted is kept, and nobody is
-- connected any more, or those who are have had a minute.
abbrev pub has_finished : Option ℕ → Bool → Bool → Bool → ℕ → Bool
has_finished None on_air settled left now = false
has_finished (Some since) on_air settled left now = not on_air && (settled && (not left || nat_le 60000 (now - since)))
