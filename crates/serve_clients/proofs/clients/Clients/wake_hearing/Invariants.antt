use Rattle.std.proofs.Common.{◌≡◌, false, if◌then◌else◌}
use Rattle.serve_clients.specs.Client.{ClientState, is_hearing}
use Rattle.serve_clients.specs.Clients.{with_turn}
use Rattle.serve_clients.proofs.Rounds.{Reached}
use Rattle.serve_clients.proofs.clients.Clients.wake_hearing.Given as goal

abbrev pub invariant-loop-key : goal.invariant-loop-key
invariant-loop-key l =
    Reached (λ (client : ClientState). is_hearing client.stage ≡ false)
    (λ (client : ClientState). if is_hearing client.stage then with_turn client else client) (λ (client : ClientState). client)
    l.initial.self l.self l.key
    × (l.key-end ≡ l.initial.self.slots.capacity)
