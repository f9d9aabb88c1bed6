use Rattle.std.proofs.Common.{◌≡◌, drop}
use Rattle.station_files.specs.Places.{kinds_at, kinds_with}
use Rattle.station_files.proofs.seats.kinds_in.Given as goal

-- the sum so far with what is left is that of all
abbrev pub invariant-loop-one : goal.invariant-loop-one
invariant-loop-one g l = kinds_with l.kinds (drop l.one-index l.past) ≡ kinds_at l.past
