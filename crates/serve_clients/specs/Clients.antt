-- The connections of a server, and whose turn it is. Ours.
use Rattle.std.specs.Prelude.{◌≡◌, ◌≢◌, ◌⊎◌, ◌≤◌, ◌+◌, ℕ, Bool, true, false, not, ◌&&◌, ◌||◌, [], ◌∷◌, ◌++◌, Option, Some, None}
use Rattle.slab.specs.Slab.{get}
use Rattle.serve_clients.specs.Client.{ClientState, after_of, cut, is_hearing, with_line}
use Rattle.serve_clients.specs.Patience.{looked_at}
use Rattle.serve_clients.specs.Line.{queued_as, read_failed_by, told_of, write_failed_by}
use Rattle.serve_clients.specs.declared.clients.Clients.{Clients}
use Rattle.serve_clients.specs.declared.client.After.{After}
use Rattle.serve_clients.specs.declared.client.After.TheVariants.{Shuts}
use Rattle.serve_clients.specs.declared.client.Stage.TheVariants.{Closing}
use Rattle.serve_clients.specs.declared.line.Trouble.{Trouble}
use Rattle.serve_clients.specs.declared.line.Trouble.TheVariants.{Broken}

-- the other connections are as they were
abbrev pub OthersStay : ℕ → Clients → Clients → Type 0
OthersStay key old new = (other : ℕ) → other ≢ key → get new.slots other ≡ get old.slots other

-- all connections are as they were
abbrev pub AllStay : Clients → Clients → Type 0
AllStay old new = (key : ℕ) → get new.slots key ≡ get old.slots key

-- the connection waits for its turn
abbrev pub with_turn : ClientState → ClientState
with_turn client = with_line (queued_as true client.line) client

-- The connection with this key becomes this one, and it has a turn: it waits for one already, or it is the last now. Only
-- without memory it gets none.
abbrev pub HasTurn : ℕ → ClientState → Clients → Clients → Type 0
HasTurn key client old new =
    ((client.line.queued ≡ true) × (get new.slots key ≡ Some client) × (new.turns.items ≡ old.turns.items))
    ⊎ ((client.line.queued ≡ false) × (get new.slots key ≡ Some (with_turn client)) × (new.turns.items ≡ old.turns.items ++ key ∷ []))
    ⊎ ((client.line.queued ≡ false) × (get new.slots key ≡ Some client) × (new.turns.items ≡ old.turns.items) × (old.turns.cap ≤ old.turns.len))

-- there is room for a turn of each connection, whatever turns wait
abbrev pub HasRoom : Clients → Type 0
HasRoom clients = clients.turns.len + clients.slots.capacity ≤ clients.turns.cap

-- The connection became this one, and it has a turn if there was room for it. Without a turn nothing else of it is changed.
abbrev pub MayHaveTurn : ClientState → Option ClientState → Type 0
MayHaveTurn client found = (found ≡ Some (with_turn client)) ⊎ (found ≡ Some client)

-- ---- rounds over all connections
-- Whoever hears what is recorded has a turn, if there is room for a turn of each, and nothing else is changed.
pub record AreWoken (old new : Clients) : Type 0 where
  pub hearing : HasRoom old → (key : ℕ) (client : ClientState) → get old.slots key ≡ Some client → is_hearing client.stage ≡ true
      → get new.slots key ≡ Some (with_turn client)
  pub without : (key : ℕ) (client : ClientState) → get old.slots key ≡ Some client → is_hearing client.stage ≡ true
      → MayHaveTurn client (get new.slots key)
  pub others : (key : ℕ) (client : ClientState) → get old.slots key ≡ Some client → is_hearing client.stage ≡ false
      → get new.slots key ≡ Some client
  pub none : (key : ℕ) → get old.slots key ≡ None → get new.slots key ≡ None

-- Everybody has a turn, if there is room for a turn of each, and who was silent for too long is cut.
pub record AreLookedAt (now : ℕ) (old new : Clients) : Type 0 where
  pub turns : HasRoom old → (key : ℕ) (client : ClientState) → get old.slots key ≡ Some client
      → get new.slots key ≡ Some (with_turn (looked_at client now))
  pub without : (key : ℕ) (client : ClientState) → get old.slots key ≡ Some client → MayHaveTurn (looked_at client now) (get new.slots key)
  pub none : (key : ℕ) → get old.slots key ≡ None → get new.slots key ≡ None

-- ---- what is told of a socket
-- the system has told that a connection may have bytes, or room for some
abbrev pub told_by : Bool → Bool → ClientState → ClientState
told_by readable writable client = with_line (told_of readable writable client.line) client

-- ---- what failed
abbrev pub cut_by : Trouble → ClientState → ClientState
cut_by Broken client = cut client
cut_by trouble client = client

-- nothing could be read: a broken connection is cut
abbrev pub unread_by : Trouble → ClientState → ClientState
unread_by trouble client = cut_by trouble (with_line (read_failed_by trouble client.line) client)

-- nothing could be written of it, whose bytes are kept
abbrev pub unwritten_by : Trouble → ClientState → ClientState
unwritten_by trouble client = cut_by trouble (with_line (write_failed_by trouble client.line) client)

-- ---- the end of a turn
-- who was told the end closes from then on
abbrev pub turned_in : After → ℕ → ClientState → ClientState
turned_in Shuts now client = record client { stage = Closing; since = now }
turned_in after now client = client

abbrev pub is_shut : After → Bool
is_shut Shuts = true
is_shut after = false

-- whoever has heard all that there is waits for more
abbrev pub rested : Bool → ClientState → ClientState
rested true client = record client { idle = true }
rested false client = client

-- what becomes of it at the end of its turn
abbrev pub turned_by : Bool → ℕ → ClientState → ClientState
turned_by rests now client = turned_in (after_of client) now (rested rests client)

-- Another turn follows if bytes went over it and it isn't one that has heard all, or if bytes may go over it at once, or were
-- said to be its last.
abbrev pub goes_again : Bool → Bool → ClientState → Bool
goes_again reads rests client = (client.line.moved && not rests) || (is_shut (after_of client) || reads)
