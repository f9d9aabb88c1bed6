-- A file that is recorded and served at the same time, as a machine: one call of a session or of the recorder is one
-- step. Ours.
use Rattle.std.specs.Prelude.{◌≡◌, ◌≢◌, ◌⊎◌, ℕ, ◌+◌, ◌-◌, ◌^◌, ◌<◌, ◌≤◌, ⊤, Bool, true, false, not, ◌||◌, nat_eq, nat_le, if◌then◌else◌, Option, Some, None, is_some, IsOk, Result, Ok, Err, List, [], ◌∷◌, ◌++◌, length, take, drop}
use Rattle.std.specs.List.{filter}
use Rattle.ogg_page.specs.Page.{Page}
use Rattle.link_chain.specs.ChainState.{chain_state_of}
use Rattle.chain_rules.specs.Decision.{decision}
use Rattle.chain_rules.specs.Encoding.{command_bytes}
use Rattle.link_chain.specs.Links.{AreLinks}
use Rattle.ogg_command.specs.declared.command.Command.{Command}
use Rattle.ogg_command.specs.declared.refusal.Refusal.{Refusal}
use Rattle.ogg_command.specs.declared.refusal.Refusal.TheVariants.{Failed as FailedOf, Memory as NoRoom, Disk}
use Rattle.feed_replies.specs.declared.reply.Kept.{Kept}
use Rattle.ogg_http.specs.Head.{IsAwaited}
use Rattle.serve_machine.specs.declared.fault.HubFault.{HubFault}
use Rattle.serve_machine.specs.declared.fault.HubFault.TheVariants.{NoSession, SessionsFull, Source, Memory, NoFile}
use Rattle.feed_replies.specs.declared.outcome.Outcome.{Outcome}
use Rattle.feed_replies.specs.declared.outcome.Outcome.TheVariants.{Held as WasHeld, Kept as WasKept}
use Rattle.serve_machine.specs.declared.answers.Progress.{Progress}
use Rattle.serve_machine.specs.declared.answers.Progress.TheVariants.{More, Ready}
use Rattle.serve_responses.specs.Response.{Asked, Asks, IsResponse}

-- ---- the state
-- A session receives the head of its request, and then sends the response: this is what was received, or what is left
-- to send.
pub data Phase : Type 0 where
  Reading : (received : List ℕ) → Phase
  Sending : (rest : List ℕ) → Phase

pub record Session : Type 0 where
  pub id : ℕ
  pub phase : Phase

pub record HubState : Type 0 where
  -- the bytes that are served: those that the last opening found, and those of the commands that were kept since
  pub committed : List ℕ
  -- the bytes of the commands that wait for their group's commit
  pub held : List ℕ
  -- how many commands wait
  pub waiting : ℕ
  -- how many commands share a commit
  pub most : ℕ
  -- how many will share a commit after a reopening: the number that was last asked for, or 1
  pub most_after_reopening : ℕ
  -- how many commands were accepted since the last opening: those that were kept, and those that wait
  pub count : ℕ
  -- the bytes of the group whose commit met a disk fault: it isn't known whether they are kept
  pub in_doubt : Option (List ℕ)
  -- false after a reopening that failed
  pub has_file : Bool
  -- in the order in which they were connected
  pub sessions : List Session
  -- the number of the next session
  pub next_id : ℕ
  -- how many sessions there may be at once: no call changes it
  pub room : ℕ

-- how many sessions there may be if no other number is asked for
abbrev pub most_sessions : ℕ
most_sessions = 64

-- a hub with a file, to which no session has been connected, and to which this many may be
pub record IsNewFor (most : ℕ) (hub : HubState) : Type 0 where
  pub file : hub.has_file ≡ true
  pub sessions : hub.sessions ≡ []
  pub numbers : hub.next_id ≡ 0
  -- its recorder may have been given groups before; after a reopening each command is a group of its own
  pub group : hub.most_after_reopening ≡ 1
  pub room : hub.room ≡ most

-- the same with room for 64 sessions
abbrev pub IsNew : HubState → Type 0
IsNew hub = IsNewFor most_sessions hub

-- ---- sessions
-- the phase of the first session with this number
abbrev pub phase_in : ℕ → List Session → Option Phase
phase_in id [] = None
phase_in id (session ∷ sessions) = if nat_eq session.id id then Some session.phase else phase_in id sessions

-- the phase of the hub's session with this number, if there is one
abbrev pub phase_of : HubState → ℕ → Option Phase
phase_of hub id = phase_in id hub.sessions

-- the first session with this number has come into this phase
abbrev pub with_phase_in : ℕ → Phase → List Session → List Session
with_phase_in id phase [] = []
with_phase_in id phase (session ∷ sessions) =
    if nat_eq session.id id then record session { phase = phase } ∷ sessions else session ∷ with_phase_in id phase sessions

-- the hub after the session has come into this phase
abbrev pub with_phase : ℕ → Phase → HubState → HubState
with_phase id phase hub = record hub { sessions = with_phase_in id phase hub.sessions }

-- the sessions that have another number
abbrev pub without_in : ℕ → List Session → List Session
without_in id sessions = filter (λ (session : Session). not (nat_eq session.id id)) sessions

-- the hub after the session has ended
abbrev pub without_session : ℕ → HubState → HubState
without_session id hub = record hub { sessions = without_in id hub.sessions }

-- there is no place for one more session, or no number left for it: numbers have 64 bits
abbrev pub is_full : HubState → Bool
is_full hub = nat_le hub.room (length hub.sessions) || nat_le (2 ^ 64) hub.next_id

-- the hub after one more session was connected, which has received nothing
abbrev pub with_session : HubState → HubState
with_session hub =
    record hub { sessions = hub.sessions ++ record { id = hub.next_id; phase = Reading [] } ∷ []; next_id = hub.next_id + 1 }

-- ---- the calls of sessions
-- A session is connected, and gets the next number. Want of memory is possible only if there is a place.
abbrev pub connect_step : HubState → Result ℕ HubFault → HubState → Type 0
connect_step old (Ok id) new = (is_full old ≡ false) × (id ≡ old.next_id) × (new ≡ with_session old)
connect_step old (Err SessionsFull) new = (is_full old ≡ true) × (new ≡ old)
connect_step old (Err Memory) new = (is_full old ≡ false) × (new ≡ old)
connect_step old (Err NoSession) new = ⊥
connect_step old (Err Source) new = ⊥
connect_step old (Err NoFile) new = ⊥

-- Bytes have come to the session's head, and this is what was received so far. The call that completes the head
-- fixes the response, over the bytes that are committed then. After `Source`, a fault of the disk, the session has
-- ended. This fault is possible only once the head is complete, since nothing is read before.
abbrev pub head_step : HubState → ℕ → List ℕ → Result Progress HubFault → HubState → Type 0
head_step old id received (Ok More) new = IsAwaited received × (new ≡ with_phase id (Reading received) old)
head_step old id received (Ok Ready) new =
    (bytes : List ℕ) × IsResponse old.committed received bytes × (new ≡ with_phase id (Sending bytes) old)
head_step old id received (Err Source) new = (asked : Option Asked) × Asks received asked × (new ≡ without_session id old)
head_step old id received (Err Memory) new = new ≡ old
head_step old id received (Err NoSession) new = ⊥
head_step old id received (Err SessionsFull) new = ⊥
head_step old id received (Err NoFile) new = ⊥

-- what a session receives once its head is complete is ignored
abbrev pub receive_step : Option Phase → Bool → HubState → ℕ → List ℕ → Result Progress HubFault → HubState → Type 0
receive_step None has_file old id bytes answer new = (answer ≡ Err NoSession) × (new ≡ old)
receive_step (Some phase) false old id bytes answer new = (answer ≡ Err NoFile) × (new ≡ old)
receive_step (Some (Reading received)) true old id bytes answer new = head_step old id (received ++ bytes) answer new
receive_step (Some (Sending rest)) true old id bytes answer new = (answer ≡ Ok Ready) × (new ≡ old)

-- the bytes that a pull returned, and whether nothing is left
pub record Given : Type 0 where
  pub bytes : List ℕ
  pub done : Bool

abbrev pub is_nothing : List ℕ → Bool
is_nothing [] = true
is_nothing (byte ∷ bytes) = false

-- What is left of the response fills the buffer, as far as either goes. After `Source` the session has ended; this
-- fault is possible only if a byte was to be given.
abbrev pub send_step : HubState → ℕ → List ℕ → ℕ → Result Given HubFault → HubState → Type 0
send_step old id rest size (Ok given) new =
    (given ≡ record { bytes = take size rest; done = is_nothing (drop size rest) })
    × (new ≡ with_phase id (Sending (drop size rest)) old)
send_step old id rest size (Err Source) new = (take size rest ≢ []) × (new ≡ without_session id old)
send_step old id rest size (Err NoSession) new = ⊥
send_step old id rest size (Err SessionsFull) new = ⊥
send_step old id rest size (Err Memory) new = ⊥
send_step old id rest size (Err NoFile) new = ⊥

-- before the head is complete a pull returns no byte
abbrev pub pull_step : Option Phase → Bool → HubState → ℕ → ℕ → Result Given HubFault → HubState → Type 0
pull_step None has_file old id size answer new = (answer ≡ Err NoSession) × (new ≡ old)
pull_step (Some phase) false old id size answer new = (answer ≡ Err NoFile) × (new ≡ old)
pull_step (Some (Reading received)) true old id size answer new =
    (answer ≡ Ok (record { bytes = []; done = false })) × (new ≡ old)
pull_step (Some (Sending rest)) true old id size answer new = send_step old id rest size answer new

-- a session is ended, with or without a file
abbrev pub close_step : Option Phase → HubState → ℕ → Result ⊤ HubFault → HubState → Type 0
close_step None old id answer new = (answer ≡ Err NoSession) × (new ≡ old)
close_step (Some phase) old id answer new = (answer ≡ Ok tt) × (new ≡ without_session id old)

-- ---- the calls of the recorder
-- a group is in doubt, or there is no file: until a reopening every command is refused
abbrev pub is_failed : HubState → Bool
is_failed hub = not hub.has_file || is_some hub.in_doubt

-- no rule refuses the command after those that wait, and it adds these bytes
abbrev pub IsAccepted : HubState → Command → List ℕ → Type 0
IsAccepted hub command added =
    (links : List (List Page)) × AreLinks (hub.committed ++ hub.held) links × IsOk (decision (chain_state_of links) command)
    × (added ≡ command_bytes (chain_state_of links) command)

-- a rule refuses the command after those that wait, and this is the first one that it breaks
abbrev pub IsRefused : HubState → Command → Refusal → Type 0
IsRefused hub command refusal =
    (links : List (List Page)) × AreLinks (hub.committed ++ hub.held) links × (decision (chain_state_of links) command ≡ Err refusal)

-- the hub after one more command, which adds these bytes, was accepted
abbrev pub holding : List ℕ → HubState → HubState
holding added hub = record hub { held = hub.held ++ added; waiting = hub.waiting + 1; count = hub.count + 1 }

-- the hub after all that waits was committed
abbrev pub committing : HubState → HubState
committing hub = record hub { committed = hub.committed ++ hub.held; held = []; waiting = 0 }

-- the hub after the disk failed while all that waits was to be committed: nothing waits any more
abbrev pub doubting : HubState → HubState
doubting hub = record hub { in_doubt = Some hub.held; held = []; waiting = 0; count = hub.count - hub.waiting }

-- how many commands were accepted, and how long the committed bytes are
abbrev pub kept_by : HubState → Kept
kept_by hub = record { count = hub.count; end = length hub.committed }

-- A command waits if others may still join its group; else the group is committed. Want of memory changes nothing.
abbrev pub command_step : HubState → Command → Result Outcome Refusal → HubState → Type 0
command_step old command (Ok (WasHeld count)) new =
    (is_failed old ≡ false) × (added : List ℕ) × IsAccepted old command added × (old.waiting + 1 < old.most)
    × (count ≡ old.count + 1) × (new ≡ holding added old)
command_step old command (Ok (WasKept kept)) new =
    (is_failed old ≡ false) × (added : List ℕ) × IsAccepted old command added × (old.most ≤ old.waiting + 1)
    × (kept ≡ kept_by new) × (new ≡ committing (holding added old))
command_step old command (Err FailedOf) new = (is_failed old ≡ true) × (new ≡ old)
command_step old command (Err NoRoom) new =
    (is_failed old ≡ false) × (added : List ℕ) × IsAccepted old command added × (new ≡ old)
command_step old command (Err Disk) new =
    (is_failed old ≡ false) × (added : List ℕ) × IsAccepted old command added × (new ≡ doubting (holding added old))
command_step old command (Err refusal) new = (is_failed old ≡ false) × IsRefused old command refusal × (new ≡ old)

-- if nothing waits, no disk call is made, and so none fails
abbrev pub flush_step : HubState → Result Kept Refusal → HubState → Type 0
flush_step old (Ok kept) new = (is_failed old ≡ false) × (kept ≡ kept_by new) × (new ≡ committing old)
flush_step old (Err FailedOf) new = (is_failed old ≡ true) × (new ≡ old)
flush_step old (Err Disk) new = (is_failed old ≡ false) × (0 < old.waiting) × (new ≡ doubting old)
flush_step old (Err refusal) new = ⊥

-- how many commands share a commit is set while there is a file and nothing waits
abbrev pub group_step : HubState → ℕ → HubState → Type 0
group_step old most new =
    (1 ≤ most) × (most ≤ 1024) × (old.has_file ≡ true) × (old.waiting ≡ 0) × (new ≡ record old { most = most; most_after_reopening = most })

-- a reopening finds the committed bytes, with or without the whole group in doubt
abbrev pub MayBeFound : HubState → List ℕ → Type 0
MayBeFound hub found =
    (found ≡ hub.committed) ⊎ ((group : List ℕ) × (hub.in_doubt ≡ Some group) × (found ≡ hub.committed ++ group))

-- the hub after its disk was given back to be opened again: what waits is lost, and the sessions stay
abbrev pub without_file : HubState → HubState
without_file hub = record hub { held = []; waiting = 0; most = hub.most_after_reopening; count = 0; has_file = false }

-- a reopening failed, or found these bytes
abbrev pub reopen_step : HubState → Option (List ℕ) → HubState → Type 0
reopen_step old None new = new ≡ without_file old
reopen_step old (Some found) new =
    MayBeFound old found
    × (new ≡ record (without_file old) { committed = found; in_doubt = None; has_file = true })

-- ---- any call
-- a call of a hub, with its arguments and its answer
pub data Event : Type 0 where
  Connect : (answer : Result ℕ HubFault) → Event
  Receive : (id : ℕ) (bytes : List ℕ) (answer : Result Progress HubFault) → Event
  -- into a buffer of `size` bytes
  Pull : (id size : ℕ) (answer : Result Given HubFault) → Event
  Close : (id : ℕ) (answer : Result ⊤ HubFault) → Event
  Record : (command : Command) (answer : Result Outcome Refusal) → Event
  Flush : (answer : Result Kept Refusal) → Event
  Group : (most : ℕ) → Event
  -- with the bytes that it found, if it found any
  Reopen : (found : Option (List ℕ)) → Event

-- the call takes the old hub to the new one
abbrev pub hub_step : HubState → Event → HubState → Type 0
hub_step old (Connect answer) new = connect_step old answer new
hub_step old (Receive id bytes answer) new = receive_step (phase_of old id) old.has_file old id bytes answer new
hub_step old (Pull id size answer) new = pull_step (phase_of old id) old.has_file old id size answer new
hub_step old (Close id answer) new = close_step (phase_of old id) old id answer new
hub_step old (Record command answer) new = command_step old command answer new
hub_step old (Flush answer) new = flush_step old answer new
hub_step old (Group most) new = group_step old most new
hub_step old (Reopen found) new = reopen_step old found new
