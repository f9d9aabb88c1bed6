-- What it is to leave a connection as it was, or to cut it, or to give it a turn or bytes. These are laws, to be cited.
use Rattle.std.proofs.Common.{◌≡◌, ◌&&◌, ℕ, zero, suc, Bool, true, false, if◌then◌else◌, Option, Some, None, refl, sym, ◌∙◌, subst, inl, inr}
use Rattle.serve_clients.specs.Client.{ClientState, cut, ended_if, given as given_to, is_hearing}
use Rattle.serve_clients.specs.Clients.{AreLookedAt, HasTurn, MayHaveTurn, with_turn}
use Rattle.serve_clients.specs.Patience.{is_overdue, looked_at}
use Rattle.serve_clients.specs.declared.clients.Clients.{Clients}
use Rattle.slab.specs.Slab.{Slab, get}
use Rattle.station.specs.Passing.{ArePassed, IsLike, IsPassed, Stays}

-- ---- one connection
pub like : (client : ClientState) → IsLike client client
like client = (refl, refl, refl, refl, refl)

pub like_then : (old mid new : ClientState) → IsLike old mid → IsLike mid new → IsLike old new
like_then old mid new a b = (b.0 ∙ a.0, b.1 ∙ a.1, b.2 ∙ a.2, b.3 ∙ a.3, b.4 ∙ a.4)

cut_then : (old mid new : ClientState) → IsLike (cut old) mid → Stays mid new → IsLike (cut old) new
cut_then old mid new a (inl b) = like_then (cut old) mid new a b
cut_then old mid new a (inr b) = (b.0, b.1 ∙ a.1, b.2 ∙ a.2, b.3 ∙ a.3, b.4 ∙ a.4)

pub stays_then : (old mid new : ClientState) → Stays old mid → Stays mid new → Stays old new
stays_then old mid new (inl a) (inl b) = inl (like_then old mid new a b)
stays_then old mid new (inl a) (inr b) = inr (b.0, b.1 ∙ a.1, b.2 ∙ a.2, b.3 ∙ a.3, b.4 ∙ a.4)
stays_then old mid new (inr a) b = inr (cut_then old mid new a b)

pub stays_session : (old new : ClientState) → Stays old new → new.session ≡ old.session
stays_session old new (inl is) = is.1
stays_session old new (inr is) = is.1

-- ---- any connection
pub passed_self : (found : Option ClientState) → IsPassed found found
passed_self None = refl
passed_self (Some client) = inl (inl (like client))

-- ---- all of them
pub all_stay : (old new : Slab ClientState) → ((key : ℕ) → get new key ≡ get old key) → ArePassed old new
all_stay old new same key = subst (IsPassed (get old key)) (sym (same key)) (passed_self (get old key))

-- ---- turns
turned : (client : ClientState) → IsLike client (with_turn client)
turned client = (refl, refl, refl, refl, refl)

pub has_turn : (key : ℕ) (client : ClientState) (old new : Clients) → HasTurn key client old new
    → (after : ClientState) × (get new.slots key ≡ Some after) × IsLike client after
has_turn key client old new (inl (queued, is, turns)) = (client, is, like client)
has_turn key client old new (inr (inl (queued, is, turns))) = (with_turn client, is, turned client)
has_turn key client old new (inr (inr (queued, is, turns, full))) = (client, is, like client)

pub may_have : (client : ClientState) (found : Option ClientState) → MayHaveTurn client found → (after : ClientState) × (found ≡ Some after) × IsLike client after
may_have client found (inl is) = (with_turn client, is, turned client)
may_have client found (inr is) = (client, is, like client)

if_looked : (overdue : Bool) (client after : ClientState) → IsLike (if overdue then cut client else client) after → Stays client after
if_looked true client after is = inr is
if_looked false client after is = inl is

looked_at_one : (now : ℕ) (old new : Clients) (key : ℕ) (found : Option ClientState) → AreLookedAt now old new → get old.slots key ≡ found
    → IsPassed found (get new.slots key)
looked_at_one now old new key None are is = are.none key is
looked_at_one now old new key (Some client) are is =
    let (after, becomes, same) = may_have (looked_at client now) (get new.slots key) (are.without key client is) in
    subst (IsPassed (Some client)) (sym becomes) (inl (if_looked (is_overdue client now) client after same))

pub looked : (now : ℕ) (old new : Clients) → AreLookedAt now old new → ArePassed old.slots new.slots
looked now old new are key = looked_at_one now old new key (get old.slots key) are refl

-- ---- bytes that are given
pub given_session : (count now : ℕ) (ending : Bool) (client : ClientState) → (given_to count ending now client).session ≡ client.session
given_session zero now ending client = ended (is_hearing client.stage && ending)
  where
    ended : (b : Bool) → (ended_if b (record client { idle = true })).session ≡ client.session
    ended true = refl
    ended false = refl
given_session (suc count) now ending client = either client.idle
  where
    either : (b : Bool) → (if b then record client { idle = false; since = now } else client).session ≡ client.session
    either true = refl
    either false = refl
