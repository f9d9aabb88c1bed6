use Rattle.std.proofs.Common.{◌≡◌, drop}
use Rattle.station_files.specs.Places.{readers_in, readers_with}
use Rattle.station_files.proofs.seats.readers_in.Given as goal

-- the sum so far with what is left is that of all
abbrev pub invariant-loop-one : goal.invariant-loop-one
invariant-loop-one g l = readers_with l.sum (drop l.one-index l.past) ≡ readers_in l.past
