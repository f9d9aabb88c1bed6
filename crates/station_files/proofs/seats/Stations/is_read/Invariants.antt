use Rattle.std.proofs.Common.{ℕ, ◌<◌}
use Rattle.slab.specs.Slab.{get}
use Rattle.station.specs.Changing.{ReadsFile}
use Rattle.station_files.proofs.seats.Stations.is_read.Given as goal

-- so far nobody does
abbrev pub invariant-loop-key : goal.invariant-loop-key
invariant-loop-key g l = (other : ℕ) → other < l.key → ¬ (ReadsFile (get l.self.newest.clients.slots other))
