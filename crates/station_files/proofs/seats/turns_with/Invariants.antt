use Rattle.std.proofs.Common.{◌≡◌, drop}
use Rattle.station_files.specs.Places.{turns_with}
use Rattle.station_files.proofs.seats.turns_with.Given as goal

-- the sum so far with what is left is that of all
abbrev pub invariant-loop-one : goal.invariant-loop-one
invariant-loop-one g l = turns_with l.sum (drop l.one-index l.past) ≡ turns_with l.fn.turns l.past
