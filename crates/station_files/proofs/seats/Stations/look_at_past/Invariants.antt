use Rattle.std.proofs.Common.{◌≡◌}
use Rattle.station_files.proofs.seats.Stations.look_at_past.Given as goal

abbrev pub invariant-loop-at : goal.invariant-loop-at
invariant-loop-at g l = l.self ≡ record l.initial.self { past = l.self.past }
