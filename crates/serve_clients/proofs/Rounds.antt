-- Rounds over all connections, key by key.
use Rattle.std.proofs.Common.{◌≡◌, ◌⊎◌, ◌≤◌, ◌<◌, ◌+◌, ℕ, Bool, true, Some, None, length, sym, ◌∙◌, ap, subst, inl, inr, arith}
use Rattle.std.proofs.lemmas.Bool.Decides.{eqb_tells, leb_tells}
use Rattle.std.proofs.lemmas.List.{get_or_past}
use Rattle.slab.specs.Slab.{Slab, get}
use Rattle.serve_clients.specs.Client.{ClientState, with_line}
use Rattle.serve_clients.specs.Clients.{HasRoom, HasTurn, MayHaveTurn, OthersStay, with_turn}
use Rattle.serve_clients.specs.Line.{queued_as}
use Rattle.serve_clients.specs.declared.clients.Clients.{Clients}

-- The connections before this key are changed, those that need no turn in any case, or else are as they are kept without
-- a turn; the others aren't changed yet.
pub record Reached (needs_none : ClientState → Type 0) (change kept : ClientState → ClientState) (start now : Clients) (key : ℕ) : Type 0 where
  pub before : (at : ℕ) (client : ClientState) → at < key → get start.slots at ≡ Some client → HasRoom start ⊎ needs_none client
      → get now.slots at ≡ Some (change client)
  pub either : (at : ℕ) (client : ClientState) → at < key → get start.slots at ≡ Some client
      → (get now.slots at ≡ Some (change client)) ⊎ (get now.slots at ≡ Some (kept client))
  pub none : (at : ℕ) → get start.slots at ≡ None → get now.slots at ≡ None
  pub after : (at : ℕ) → key ≤ at → get now.slots at ≡ get start.slots at
  pub room : start.turns.cap ≤ now.turns.cap
  pub turns : now.turns.len ≤ start.turns.len + key

-- one key more
pub on : (needs_none : ClientState → Type 0) (change kept : ClientState → ClientState) (start now new : Clients) (key : ℕ)
    → Reached needs_none change kept start now key
    → OthersStay key now new → now.turns.cap ≤ new.turns.cap → new.turns.len ≤ now.turns.len + 1
    → ((client : ClientState) → get now.slots key ≡ Some client → HasRoom start ⊎ needs_none client → get new.slots key ≡ Some (change client))
    → ((client : ClientState) → get now.slots key ≡ Some client → (get new.slots key ≡ Some (change client)) ⊎ (get new.slots key ≡ Some (kept client)))
    → (get now.slots key ≡ None → get new.slots key ≡ None)
    → Reached needs_none change kept start new (key + 1)
on needs_none change kept start now new key reached others room len here either none = record {
  before = λ (at : ℕ) (client : ClientState) below is free. elim (eqb_tells at key) [
    | inl same ↦
        subst (λ (k : ℕ). get new.slots k ≡ Some (change client)) (sym same.1)
        (here client (reached.after key (omega arith) ∙ ap (get start.slots) (sym same.1) ∙ is) free)
    | inr apart ↦ others at apart.1 ∙ reached.before at client (omega (arith, below, apart.1)) is free
  ];
  either = λ (at : ℕ) (client : ClientState) below is. elim (eqb_tells at key) [
    | inl same ↦
        subst (λ (k : ℕ). (get new.slots k ≡ Some (change client)) ⊎ (get new.slots k ≡ Some (kept client))) (sym same.1)
        (either client (reached.after key (omega arith) ∙ ap (get start.slots) (sym same.1) ∙ is))
    | inr apart ↦ elim (reached.either at client (omega (arith, below, apart.1)) is) [
      | inl changed ↦ inl (others at apart.1 ∙ changed)
      | inr stayed ↦ inr (others at apart.1 ∙ stayed)
    ]
  ];
  none = λ (at : ℕ) is. elim (eqb_tells at key) [
    | inl same ↦
        subst (λ (k : ℕ). get new.slots k ≡ None) (sym same.1)
        (none (subst (λ (k : ℕ). get now.slots k ≡ None) same.1 (reached.none at is)))
    | inr apart ↦ others at apart.1 ∙ reached.none at is
  ];
  after = λ (at : ℕ) above. others at (λ same. absurd (omega (arith, above, same))) ∙ reached.after at (omega (arith, above));
  room = omega (arith, room, reached.room);
  turns = omega (arith, len, reached.turns);
}

-- a turn that waits already is the one
waits : (client : ClientState) → client.line.queued ≡ true → client ≡ with_turn client
waits client queued = ap (λ (q : Bool). with_line (queued_as q client.line) client) queued

-- with room for it a turn is given
pub given : (key : ℕ) (client : ClientState) (old new : Clients) → HasTurn key client old new → old.turns.len < old.turns.cap
    → get new.slots key ≡ Some (with_turn client)
given key client old new (inl waiting) free = waiting.1 ∙ ap Some (waits client waiting.0)
given key client old new (inr (inl added)) free = added.1
given key client old new (inr (inr short)) free = absurd (omega (arith, short.3, free))

-- with no room for it nothing is changed
pub may_have : (key : ℕ) (client : ClientState) (old new : Clients) → HasTurn key client old new → MayHaveTurn client (get new.slots key)
may_have key client old new (inl waiting) = inr waiting.1
may_have key client old new (inr (inl added)) = inl added.1
may_have key client old new (inr (inr short)) = inr short.1

-- as long as a key is among those for which there was room, there is
pub has_place : (needs_none : ClientState → Type 0) (change kept : ClientState → ClientState) (start now : Clients) (key : ℕ)
    → Reached needs_none change kept start now key → key < start.slots.capacity
    → HasRoom start → now.turns.len < now.turns.cap
has_place needs_none change kept start now key reached below room = omega (arith, reached.room, reached.turns, below, room)

-- a connection is in a slot
none_is_none : (client : ClientState) → None ≡ Some client → ⊥
none_is_none client e = cc

pub is_inside : (slots : Slab ClientState) (key : ℕ) (client : ClientState) → get slots key ≡ Some client → key < length slots.slots
is_inside slots key client is = elim (leb_tells (length slots.slots) key) [
  | inl past ↦ absurd (none_is_none client (sym (get_or_past slots.slots key None past.1) ∙ is))
  | inr inside ↦ inside.1
]
