use Rattle.std.proofs.Common.{inl, inr, refl, true}
use Rattle.serve_clients.specs.Clients.{told_by, with_turn}
use Rattle.archive_fetch.proofs.fetches.Fetches.put.Goals as goal

pub returns-in-Ok-clause-some : goal.returns-in-Ok-clause-some
returns-in-Ok-clause-some g c =
    elim (c.wake.ensures.turn c.args.client c.in-Ok.ensures.some) [
      | inl waits ↦ (told_by true true c.args.client, waits.1, refl, refl, refl, refl)
      | inr comes ↦ elim comes [
        | inl put ↦ (with_turn (told_by true true c.args.client), put.1, refl, refl, refl, refl)
        | inr full ↦ (told_by true true c.args.client, full.1, refl, refl, refl, refl)
      ]
    ]
