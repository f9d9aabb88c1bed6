use Rattle.std.proofs.Common.{◌≡◌}
use Rattle.serve_clients.specs.Client.{ClientState}
use Rattle.serve_clients.specs.Clients.{with_turn}
use Rattle.serve_clients.specs.Patience.{looked_at}
use Rattle.serve_clients.proofs.Rounds.{Reached}
use Rattle.serve_clients.proofs.clients.Clients.look.Given as goal

abbrev pub invariant-loop-key : goal.invariant-loop-key
invariant-loop-key l =
    Reached (λ (client : ClientState). ⊥) (λ (client : ClientState). with_turn (looked_at client l.fn.now)) (λ (client : ClientState). looked_at client l.fn.now)
    l.fn.self l.self l.key
    × (l.key-end ≡ l.fn.self.slots.capacity)
