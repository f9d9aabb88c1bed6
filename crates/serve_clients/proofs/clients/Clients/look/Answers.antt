use Rattle.std.proofs.Common.{◌≡◌, ◌⊎◌, ◌<◌, ℕ, Some, None, length, ◌∙◌, ap, subst, inl, inr, arith}
use Rattle.slab.specs.Slab.{get}
use Rattle.serve_clients.specs.Client.{ClientState}
use Rattle.serve_clients.specs.Clients.{HasRoom, HasTurn, with_turn}
use Rattle.serve_clients.specs.Patience.{looked_at}
use Rattle.serve_clients.proofs.Rounds.{given, has_place, is_inside, may_have, on}
use Rattle.serve_clients.proofs.clients.Clients.look.Goals as goal

pub loop-key-preserved : goal.loop-key-preserved
loop-key-preserved c =
    let kept : ClientState → ClientState = λ (client : ClientState). looked_at client c.args.now in
    let change : ClientState → ClientState = λ (client : ClientState). with_turn (looked_at client c.args.now) in
    let old = c.loop-key.self in
    let between = c.look_at.new.self in
    let key = c.loop-key.key in
    let same : between.turns ≡ old.turns = c.look_at.ensures.turns in
    let turn : (client : ClientState) → get old.slots key ≡ Some client → HasTurn key (looked_at client c.args.now) between c.give_turn.new.self =
    λ client is. c.give_turn.ensures.turn (looked_at client c.args.now) (c.look_at.ensures.cut client is) in
    let here : (client : ClientState) → get old.slots key ≡ Some client → HasRoom c.args.self.now ⊎ ⊥ → get c.give_turn.new.self.slots key ≡ Some (change client) =
    λ client is free. elim free [
      | inl room ↦
          let place = has_place (λ (one : ClientState). ⊥) change kept c.args.self.now old key c.loop-key.invariant.0 (subst (λ (end : ℕ). key < end) c.loop-key.invariant.1 c.loop-key-test.true) room in
          given key (looked_at client c.args.now) between c.give_turn.new.self (turn client is)
          (omega (arith, place, ap (λ turns. turns.len) same, ap (λ turns. turns.cap) same))
      | inr none ↦ absurd none
    ] in (
      on (λ (one : ClientState). ⊥) change kept c.args.self.now old c.give_turn.new.self key c.loop-key.invariant.0
          (λ other apart. c.give_turn.ensures.others other apart ∙ c.look_at.ensures.others other apart)
          (omega (arith, c.give_turn.ensures.room, ap (λ turns. turns.cap) same))
          (omega (arith, c.give_turn.ensures.len, ap (λ turns. turns.len) same))
          here
          (λ client is. may_have key (looked_at client c.args.now) between c.give_turn.new.self (turn client is))
          (λ is. let between_none : get between.slots key ≡ None = ap (λ clients. get clients.slots key) (c.look_at.ensures.none is) ∙ is in
          ap (λ clients. get clients.slots key) (c.give_turn.ensures.none between_none) ∙ between_none),
      c.loop-key.invariant.1,
    )

pub returns : goal.returns
returns c =
    let reached = c.loop-key.invariant.0 in
    let below : (key : ℕ) (client : ClientState) → get c.args.self.now.slots key ≡ Some client → key < c.loop-key.key =
    λ key client is. let inside : key < length c.args.self.now.slots.slots = is_inside c.args.self.now.slots key client is in
    omega (arith, inside, c.capacity-key-end.ensures.slots, c.loop-key-test.false) in record {
      looks = record {
        turns = λ room key client is. reached.before key client (below key client is) is (inl room);
        without = λ key client is. reached.either key client (below key client is) is;
        none = reached.none;
      };
    }
