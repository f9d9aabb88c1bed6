-- Which source is on the air after one that has left it. Ours.
use Rattle.std.specs.Prelude.{◌≡◌, ◌⊎◌, ◌<◌, ◌≤◌, ◌+◌, ⊤, ℕ, Bool, false, true, Option, None, Some}
use Rattle.serve_clients.specs.Client.{ClientState}
use Rattle.serve_clients.specs.declared.client.Stage.{Stage}
use Rattle.serve_clients.specs.declared.client.Stage.TheVariants.{Waiting}
use Rattle.serve_sources.specs.Offer.{IsUnread}
use Rattle.serve_sources.specs.declared.offer.Offer.TheVariants.{More}
use Rattle.slab.specs.Slab.{Slab, get}
use Rattle.station_sources.specs.Air.{feeder_in}
use Rattle.station_sources.specs.declared.air.Feeder.TheVariants.{Peer}
use Rattle.station_sources.specs.declared.air.OnAir.{OnAir}

-- ---- who waits for the air
abbrev pub is_waiting : Stage → Bool
is_waiting Waiting = true
is_waiting stage = false

-- this connection, if there is one, does
abbrev pub waits : Option ClientState → Bool
waits None = false
waits (Some client) = is_waiting client.stage

-- the same connections do
abbrev pub SameWait : Slab ClientState → Slab ClientState → Type 0
SameWait old new = (key : ℕ) → waits (get new key) ≡ waits (get old key)

-- ---- who is on it next
-- the connection was offered the air: it waits no longer, or its head hasn't come whole
abbrev pub WasOffered : Option ClientState → Type 0
WasOffered None = ⊤
WasOffered (Some client) = (is_waiting client.stage ≡ false) ⊎ IsUnread client.head More

-- so was each one that waited and has a key before this one
abbrev pub AreOffered : Slab ClientState → Slab ClientState → ℕ → Type 0
AreOffered old new key = (lower : ℕ) → lower < key → waits (get old lower) ≡ true → WasOffered (get new lower)

-- from this key on the same ones wait
abbrev pub WaitOn : Slab ClientState → Slab ClientState → ℕ → Type 0
WaitOn old new key = (other : ℕ) → key ≤ other → waits (get new other) ≡ waits (get old other)

-- This one waited, and has the air: it was offered to those before it first, and those behind it wait on. Or nobody has
-- it, and all that waited were offered it.
abbrev pub HasAir : Option ℕ → Slab ClientState → Slab ClientState → Option OnAir → Type 0
HasAir (Some key) old new air =
    (waits (get old key) ≡ true) × (feeder_in air ≡ Some (Peer key)) × AreOffered old new (key + 1) × WaitOn old new (key + 1)
HasAir None old new air = (air ≡ None) × ((key : ℕ) → waits (get old key) ≡ true → WasOffered (get new key))

-- The air was free: it was offered to those that waited, in turn, until one of them had it.
pub record IsSucceeded (old new : Slab ClientState) (air : Option OnAir) : Type 0 where
  pub next : Option ℕ
  pub has_air : HasAir next old new air

-- ---- turns
-- a connection that has got a turn, at most, is at its stage, and as much of its head has come
abbrev pub IsStill : Option ClientState → Option ClientState → Type 0
IsStill None new = new ≡ None
IsStill (Some old) new = (client : ClientState) × (new ≡ Some client) × (client.stage ≡ old.stage) × (client.head ≡ old.head)

-- some connections have got a turn, and nothing else has become of them
abbrev pub HaveTurns : Slab ClientState → Slab ClientState → Type 0
HaveTurns old new = (key : ℕ) → IsStill (get old key) (get new key)
