use Rattle.std.proofs.Common.{◌≡◌, ◌≢◌, ℕ, ◌<◌, None}
use Rattle.slab.specs.Slab.{get}
use Rattle.station_files.proofs.Sent.{LeaveUpTo, SentUpTo}
use Rattle.station_files.proofs.seats.Stations.send_readers.Given as goal

abbrev pub invariant-loop-key : goal.invariant-loop-key
invariant-loop-key g l =
    record {
      leave : LeaveUpTo l.key l.initial.self.newest l.self.newest;
      sent : SentUpTo l.initial.past.number l.key-end l.key l.initial.self l.self l.initial.past.station l.past.station;
      past : l.past ≡ record l.initial.past { station = l.past.station };
      rest : l.self ≡ record l.initial.self { newest = l.self.newest; moves = l.self.moves };
      bound : l.key-end ≡ l.initial.self.newest.clients.slots.capacity;
      below : (other : ℕ) → get l.initial.self.newest.clients.slots other ≢ None → other < l.key-end;
    }
