use Rattle.std.proofs.Common.{◌≡◌, drop}
use Rattle.station_files.specs.Places.{place_from, place_of}
use Rattle.station_files.proofs.seats.place_of.Given as goal

-- what is left has it, or none has
abbrev pub invariant-loop-at : goal.invariant-loop-at
invariant-loop-at g l = place_from l.number l.at (drop l.at l.past) ≡ place_of l.number l.past
