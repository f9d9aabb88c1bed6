-- A connection, as contracts see it. Ours.
use Rattle.std.specs.Prelude.{◌≡◌, ◌≢◌, ◌⊎◌, ◌&&◌, ◌<◌, ◌+◌, ℕ, zero, suc, Bool, true, false, if◌then◌else◌, Option, None, List, [], ◌++◌, drop, length}
use Rattle.serve_live.specs.Listening.{ListenerState}
use Rattle.serve_clients.specs.Line.{moved_on, new_line}
use Rattle.serve_clients.specs.declared.client.Stage.{Stage}
use Rattle.serve_clients.specs.declared.client.Stage.TheVariants.{Asking, Hearing, Ending, Cut}
use Rattle.serve_clients.specs.declared.client.After.{After}
use Rattle.serve_clients.specs.declared.client.After.TheVariants.{Goes, Shuts, Closes}
use Rattle.serve_clients.specs.declared.line.Line.{Line}

pub record ClientState : Type 0 where
  pub stage : Stage
  -- the number of its session, if it has one
  pub session : Option ℕ
  -- what has come of its head, until it is known what it asks for
  pub head : List ℕ
  -- what was given for it and isn't written yet
  pub unsent : List ℕ
  pub listener : Option ListenerState
  -- since when it has neither sent nor taken a byte, though it could: milliseconds of the caller's clock
  pub since : ℕ
  -- nothing was left to be sent when it was last asked
  pub idle : Bool
  -- how its socket stands
  pub line : Line
  -- memory for what is kept of it was refused, since there was no room
  pub refused : Bool
  -- for how many bytes there is memory: of its head, and of what was given and isn't written
  pub head_room : ℕ
  pub room : ℕ

abbrev pub fresh : ℕ → ClientState
fresh now = record { stage = Asking; session = None; head = []; unsent = []; listener = None; since = now; idle = true; line = new_line; refused = false; head_room = 0; room = 0 }

abbrev pub with_stage : Stage → ClientState → ClientState
with_stage stage client = record client { stage = stage }

-- the text follows what is to be written, for which there is this room then
abbrev pub told : ℕ → List ℕ → ClientState → ClientState
told room text client = record client { unsent = client.unsent ++ text; room = room }

-- the bytes follow what has come of its head, for which there is this room then
abbrev pub with_more : ℕ → List ℕ → ClientState → ClientState
with_more room bytes client = record client { head = client.head ++ bytes; head_room = room }

-- there is no room for these bytes behind what has come of its head, or behind what is to be written
abbrev pub LacksHeadRoom : List ℕ → ClientState → Type 0
LacksHeadRoom bytes client = client.head_room < length client.head + length bytes

abbrev pub LacksRoom : List ℕ → ClientState → Type 0
LacksRoom text client = client.room < length client.unsent + length text

-- a client that is cut keeps what it had
abbrev pub cut : ClientState → ClientState
cut client = with_stage Cut client

-- memory for what is kept of it was refused; or it is cut for that
abbrev pub memory_refused : ClientState → ClientState
memory_refused client = record client { refused = true }

abbrev pub cut_for_memory : ClientState → ClientState
cut_for_memory client = cut (memory_refused client)

-- This text is the last that is written. If there was no room for it, the connection may be cut.
abbrev pub HasLast : List ℕ → ClientState → ClientState → Type 0
HasLast text old new =
    (new ≡ with_stage Ending (told new.room text old)) ⊎ (LacksRoom text old × (new ≡ record (cut_for_memory old) { room = new.room }))

-- A client that is cut is closed. One that has got its last byte is told so, and what it still sends is passed over until it
-- closes: a reset could cut off what was written (RFC 9112, section 9.6).
abbrev pub after_in : Stage → List ℕ → After
after_in Cut unsent = Closes
after_in Ending [] = Shuts
after_in _ _ = Goes

abbrev pub after_of : ClientState → After
after_of client = after_in client.stage client.unsent

abbrev pub with_line : Line → ClientState → ClientState
with_line line client = record client { line = line }

-- ---- who hears what is recorded
abbrev pub is_hearing : Stage → Bool
is_hearing Hearing = true
is_hearing stage = false

-- ---- what is given to be written, and what was written of it
-- If nothing is given, nothing was left; if something is, its peer may take it for so long. Who hears what is recorded has
-- heard all then, if that comes to its end.
abbrev pub ended_if : Bool → ClientState → ClientState
ended_if true client = with_stage Ending client
ended_if false client = client

abbrev pub given : ℕ → Bool → ℕ → ClientState → ClientState
given zero ending now client = ended_if (is_hearing client.stage && ending) (record client { idle = true })
given (suc count) ending now client = if client.idle then record client { idle = false; since = now } else client

-- So many of these bytes were written, and the others are kept: of those that were kept before, or of these. If there was
-- no room for these, it may be cut.
abbrev pub HasWritten : List ℕ → ℕ → ClientState → ClientState → Type 0
HasWritten bytes count old new =
    ((old.unsent ≢ []) × (new ≡ record old { unsent = drop count old.unsent }))
    ⊎ ((old.unsent ≡ [])
    × ((new ≡ record old { unsent = drop count bytes; room = new.room }) ⊎ (LacksRoom (drop count bytes) old × (new ≡ cut_for_memory old))))

-- a byte that was written shows that the peer takes bytes
abbrev pub moved_if : ℕ → ℕ → ClientState → ClientState
moved_if zero now client = client
moved_if (suc count) now client = record client { since = now; line = moved_on client.line }
