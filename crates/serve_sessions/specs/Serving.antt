-- What a call of a session changes in the session. Ours.
use Rattle.std.specs.Prelude.{◌≡◌, ◌≢◌, ◌⊎◌, ◌+◌, ◌<◌, ◌≤◌, ◌^◌, ℕ, false, Option, Some, None, Result, Ok, Err, List, [], ◌++◌, length, slice_get, take, drop, vec_capacity, vec_len}
use Rattle.ogg_http.specs.Head.{IsAwaited}
use Rattle.ogg_page.specs.Page.{Page}
use Rattle.ogg_page.specs.Window.{KeepsSource}
use Rattle.link_chain.specs.Links.{AreLinks}
use Rattle.link_index.specs.Adding.{IndexState}
use Rattle.serve_responses.specs.Response.{Asked, Asks, IsResponse}
use Rattle.serve_sending.specs.Sending.{HasFailed, IsLeft, SendingState}
use Rattle.serve_machine.specs.Hub.{Phase, Reading, Sending, Given, Session, is_nothing, without_in}
use Rattle.serve_machine.specs.declared.answers.Progress.{Progress}
use Rattle.serve_machine.specs.declared.answers.Progress.TheVariants.{More, Ready}
use Rattle.serve_machine.specs.declared.fault.HubFault.{HubFault}
use Rattle.serve_machine.specs.declared.fault.HubFault.TheVariants.{NoSession, SessionsFull, Source, Memory, NoFile}
use Rattle.serve_sessions.specs.Indexing.{IsOfFront}
use Rattle.serve_sessions.specs.Sessions.{place_in}
use Rattle.serve_sessions.specs.declared.session.Session.{Session as SessionParts}
use Rattle.serve_sessions.specs.declared.session.Stage.{Stage}
use Rattle.serve_sessions.specs.declared.session.Stage.TheVariants.{Head, Response}

-- ---- what is received
-- The head of a request after bytes were added: it isn't complete, or this is the response to it. After a fault it is
-- as it was.
abbrev pub HeadGets : List ℕ → List ℕ → List ℕ → Result (Option SendingState) HubFault → List ℕ → Type 0
HeadGets committed old bytes (Ok None) new = IsAwaited (old ++ bytes) × (new ≡ old ++ bytes)
HeadGets committed old bytes (Ok (Some sending)) new =
    (response : List ℕ) × IsResponse committed (old ++ bytes) response × IsLeft committed sending response
HeadGets committed old bytes (Err Source) new = (asked : Option Asked) × Asks (old ++ bytes) asked × (new ≡ old)
HeadGets committed old bytes (Err Memory) new = new ≡ old
HeadGets committed old bytes (Err NoSession) new = ⊥
HeadGets committed old bytes (Err SessionsFull) new = ⊥
HeadGets committed old bytes (Err NoFile) new = ⊥

-- why bytes are refused for want of memory: the head has no room for them, or they complete it
abbrev pub LacksRoom : Stage → List ℕ → Type 0
LacksRoom (Head head) bytes = (vec_capacity head < vec_len head + length bytes) ⊎ ((asked : Option Asked) × Asks (head.items ++ bytes) asked)
LacksRoom (Response sending) bytes = ⊥

-- so of the session with this number
pub record LacksRoomIn (id : ℕ) (sessions : List SessionParts) (bytes : List ℕ) : Type 0 where
  pub place : ℕ
  pub session : SessionParts
  pub found : place_in id sessions ≡ Some place
  pub is : slice_get sessions place ≡ Some session
  pub lacks : LacksRoom session.stage bytes

-- the phase of a session when bytes have come to it
abbrev pub PhaseGets : List ℕ → Phase → List ℕ → Result Progress HubFault → Phase → Type 0
PhaseGets committed (Reading old) bytes (Ok More) new = IsAwaited (old ++ bytes) × (new ≡ Reading (old ++ bytes))
PhaseGets committed (Reading old) bytes (Ok Ready) new =
    (response : List ℕ) × IsResponse committed (old ++ bytes) response × (new ≡ Sending response)
PhaseGets committed (Reading old) bytes (Err Source) new = (asked : Option Asked) × Asks (old ++ bytes) asked
PhaseGets committed (Reading old) bytes (Err Memory) new = new ≡ Reading old
PhaseGets committed (Reading old) bytes (Err NoSession) new = ⊥
PhaseGets committed (Reading old) bytes (Err SessionsFull) new = ⊥
PhaseGets committed (Reading old) bytes (Err NoFile) new = ⊥
PhaseGets committed (Sending rest) bytes answer new = (answer ≡ Ok Ready) × (new ≡ Sending rest)

-- ---- what is pulled
-- the phase of a session after a pull into a buffer of this size
abbrev pub PhaseGives : Phase → ℕ → Result Given HubFault → Phase → Type 0
PhaseGives (Reading received) size answer new = (answer ≡ Ok (record { bytes = []; done = false })) × (new ≡ Reading received)
PhaseGives (Sending rest) size (Ok given) new =
    (given ≡ record { bytes = take size rest; done = is_nothing (drop size rest) }) × (new ≡ Sending (drop size rest))
PhaseGives (Sending rest) size (Err Source) new = take size rest ≢ []
PhaseGives (Sending rest) size (Err Memory) new = ⊥
PhaseGives (Sending rest) size (Err NoSession) new = ⊥
PhaseGives (Sending rest) size (Err SessionsFull) new = ⊥
PhaseGives (Sending rest) size (Err NoFile) new = ⊥

-- ---- what is read
-- what a call answers for a fault
abbrev pub fault_in : {T : Type 0} → Result T HubFault → Option HubFault
fault_in (Ok value) = None
fault_in (Err fault) = Some fault

module _ {S : Type 0} (bytes : S → List ℕ) (is_honest : S → Type 0) (size failures : S → ℕ) (only_reads : S → S → Type 0) where
  -- What a call that may bring the index up leaves of the source and of the index. In a file of links the fault
  -- `Source` comes only from a read that failed.
  pub record Indexes (fault : Option HubFault) (old new : S) (before after : IndexState) : Type 0 where
    pub front : is_honest old → IsOfFront (bytes old) before → IsOfFront (bytes old) after
    pub cause : fault ≡ Some Source → is_honest old → size old < 2 ^ 63 → IsOfFront (bytes old) before
        → (links : List (List Page)) → AreLinks (bytes old) links → HasFailed (failures old) (failures new)
    pub later : failures old ≤ failures new
    pub source : KeepsSource bytes is_honest size only_reads old new

-- ---- what is left
-- a fault of the file ends the session
abbrev pub left_after : HubFault → ℕ → List Session → List Session
left_after Source id sessions = without_in id sessions
left_after fault id sessions = sessions
