use Rattle.std.proofs.Common.{◌≡◌, ◌⊎◌, ◌<◌, ℕ, Bool, true, false, if◌then◌else◌, Some, None, length, sym, ◌∙◌, ap, subst, inl, inr, arith}
use Rattle.std.proofs.lemmas.Bool.{cases_Bool}
use Rattle.slab.specs.Slab.{get}
use Rattle.serve_clients.specs.Client.{ClientState, is_hearing}
use Rattle.serve_clients.specs.Clients.{HasRoom, with_turn}
use Rattle.serve_clients.proofs.Rounds.{given, has_place, is_inside, may_have, on}
use Rattle.serve_clients.proofs.clients.Clients.wake_hearing.Goals as goal

pub loop-key-preserved : goal.loop-key-preserved
loop-key-preserved c =
    let change : ClientState → ClientState = λ (client : ClientState). if is_hearing client.stage then with_turn client else client in
    let kept : ClientState → ClientState = λ (client : ClientState). client in
    let needs_none : ClientState → Type 0 = λ (client : ClientState). is_hearing client.stage ≡ false in
    let old = c.loop-key.self in
    let new = c.wake_if_hearing.new.self in
    let key = c.loop-key.key in
    let woken : (client : ClientState) → is_hearing client.stage ≡ true → get new.slots key ≡ Some (with_turn client) → get new.slots key ≡ Some (change client) =
    λ client hears is. is ∙ ap (λ (b : Bool). Some (if b then with_turn client else client)) (sym hears) in
    let left : (client : ClientState) → is_hearing client.stage ≡ false → get old.slots key ≡ Some client → get new.slots key ≡ Some (change client) =
    λ client silent is. ap (λ clients. get clients.slots key) (c.wake_if_hearing.ensures.other client is silent) ∙ is ∙ ap (λ (b : Bool). Some (if b then with_turn client else client)) (sym silent) in
    let here : (client : ClientState) → get old.slots key ≡ Some client → HasRoom c.args.self.now ⊎ needs_none client → get new.slots key ≡ Some (change client) =
    λ client is free. elim (cases_Bool (is_hearing client.stage)) [
      | inl hears ↦ elim free [
        | inl room ↦
            let place = has_place needs_none change kept c.args.self.now old key c.loop-key.invariant.0 (subst (λ (end : ℕ). key < end) c.loop-key.invariant.1 c.loop-key-test.true) room in
            woken client hears (given key client old new (c.wake_if_hearing.ensures.hearing client is hears) place)
        | inr silent ↦ left client silent is
      ]
      | inr silent ↦ left client silent is
    ] in
    let either : (client : ClientState) → get old.slots key ≡ Some client → (get new.slots key ≡ Some (change client)) ⊎ (get new.slots key ≡ Some client) =
    λ client is. elim (cases_Bool (is_hearing client.stage)) [
      | inl hears ↦ elim (may_have key client old new (c.wake_if_hearing.ensures.hearing client is hears)) [
        | inl turn ↦ inl (woken client hears turn)
        | inr stayed ↦ inr stayed
      ]
      | inr silent ↦ inl (left client silent is)
    ] in (
      on needs_none change kept c.args.self.now old new key c.loop-key.invariant.0 c.wake_if_hearing.ensures.others c.wake_if_hearing.ensures.room
          c.wake_if_hearing.ensures.len here either
          (λ is. ap (λ clients. get clients.slots key) (c.wake_if_hearing.ensures.none is) ∙ is),
      c.loop-key.invariant.1,
    )

pub returns : goal.returns
returns c =
    let reached = c.loop-key.invariant.0 in
    let below : (key : ℕ) (client : ClientState) → get c.args.self.now.slots key ≡ Some client → key < c.loop-key.key =
    λ key client is. let inside : key < length c.args.self.now.slots.slots = is_inside c.args.self.now.slots key client is in
    omega (arith, inside, c.capacity-key-end.ensures.slots, c.loop-key-test.false) in
    let if_hearing : (client : ClientState) (b : Bool) → is_hearing client.stage ≡ b
    → (if is_hearing client.stage then with_turn client else client) ≡ (if b then with_turn client else client) =
    λ client b is. ap (λ (hears : Bool). if hears then with_turn client else client) is in record {
      woken = record {
        hearing = λ room key client is hears. reached.before key client (below key client is) is (inl room) ∙ ap Some (if_hearing client true hears);
        without = λ key client is hears. elim (reached.either key client (below key client is) is) [
          | inl turn ↦ inl (turn ∙ ap Some (if_hearing client true hears))
          | inr stayed ↦ inr stayed
        ];
        others = λ key client is silent. reached.before key client (below key client is) is (inr silent) ∙ ap Some (if_hearing client false silent);
        none = reached.none;
      };
    }
