-- What a call leaves of a connection that it isn't for. Ours.
use Rattle.std.specs.Prelude.{◌≡◌, ◌⊎◌, ℕ, Bool, true, false, Option, Some, None}
use Rattle.serve_clients.specs.Client.{ClientState, cut}
use Rattle.serve_clients.specs.declared.client.Stage.{Stage}
use Rattle.serve_clients.specs.declared.client.Stage.TheVariants.{Offering, Waiting, Feeding, Sending, Hearing, Ending, Closing, Cut}
use Rattle.slab.specs.Slab.{Slab, get}

-- nothing of it is another but how its socket stands, and since when it is silent
abbrev pub IsLike : ClientState → ClientState → Type 0
IsLike old new =
    (new.stage ≡ old.stage) × (new.session ≡ old.session) × (new.head ≡ old.head) × (new.unsent ≡ old.unsent) × (new.listener ≡ old.listener)

-- that is so, or it was cut
abbrev pub Stays : ClientState → ClientState → Type 0
Stays old new = IsLike old new ⊎ IsLike (cut old) new

-- nothing more is expected of what it sends
abbrev pub expects_nothing : Stage → Bool
expects_nothing Sending = true
expects_nothing Hearing = true
expects_nothing Ending = true
expects_nothing Closing = true
expects_nothing Cut = true
expects_nothing stage = false

-- ---- sources
abbrev pub is_source : Stage → Bool
is_source Offering = true
is_source Waiting = true
is_source Feeding = true
is_source stage = false

-- it is a source, or was one
abbrev pub has_offered : Stage → Bool
has_offered Offering = true
has_offered Waiting = true
has_offered Feeding = true
has_offered Ending = true
has_offered Cut = true
has_offered stage = false

-- A source goes on, or comes to its end. It gets no session.
abbrev pub GoesOnAsSource : ClientState → ClientState → Type 0
GoesOnAsSource old new = (has_offered new.stage ≡ true) × (new.session ≡ old.session)

-- ---- a connection, if there is one
abbrev pub session_in : Option ClientState → Option ℕ
session_in None = None
session_in (Some client) = client.session

-- it is a source, or was one, if it was one before
abbrev pub OffersOn : Option ClientState → Option ClientState → Type 0
OffersOn None new = new ≡ None
OffersOn (Some old) None = ⊥
OffersOn (Some old) (Some new) = is_source old.stage ≡ true → GoesOnAsSource old new

-- the same, whatever it was before
abbrev pub OffersNow : Option ClientState → Option ClientState → Type 0
OffersNow None new = new ≡ None
OffersNow (Some old) None = ⊥
OffersNow (Some old) (Some new) = GoesOnAsSource old new

-- a call that isn't for it leaves it as it was, or cuts it; a source goes on
abbrev pub IsPassed : Option ClientState → Option ClientState → Type 0
IsPassed None new = new ≡ None
IsPassed (Some old) None = ⊥
IsPassed (Some old) (Some new) = Stays old new ⊎ ((is_source old.stage ≡ true) × GoesOnAsSource old new)

-- so it is with each of them
abbrev pub ArePassed : Slab ClientState → Slab ClientState → Type 0
ArePassed old new = (key : ℕ) → IsPassed (get old key) (get new key)
