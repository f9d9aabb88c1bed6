use Rattle.std.proofs.Common.{◌≡◌}
use Rattle.serve_clients.proofs.Counting.{count_before}
use Rattle.serve_clients.proofs.clients.Clients.count.Given as goal

abbrev pub invariant-loop-key : goal.invariant-loop-key
invariant-loop-key l = (l.count ≡ count_before l.kind l.self.slots l.key) × (l.key-end ≡ l.self.slots.capacity)
