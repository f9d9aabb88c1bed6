-- What a hub keeps, as its contracts see it. Ours.
use Rattle.std.specs.Prelude.{◌≡◌, ◌⊎◌, ℕ, ◌^◌, ◌≤◌, Bool, true, false, not, ◌&&◌, nat_eq, Option, None, Some, IsSome, List, [], length}
use Rattle.link_chain.specs.ChainState.{is_open}
use Rattle.link_chain.specs.declared.stream_state.StreamState.{StreamState}
use Rattle.link_index.specs.Adding.{IndexState}
use Rattle.file_recorder.specs.Recorder.{RecorderState}
use Rattle.serve_machine.specs.Hub.{Phase}
use Rattle.serve_machine.specs.declared.fault.HubFault.{HubFault}
use Rattle.serve_machine.specs.declared.fault.HubFault.TheVariants.{NoSession, NoFile}
use Rattle.serve_sessions.specs.Sessions.{AreInOrder}
use Rattle.serve_sessions.specs.declared.session.Session.{Session}
use Rattle.serve_hub.specs.declared.opening.Lost.{Lost}

-- the next number, or the one after the last
abbrev pub next_of : Option ℕ → ℕ
next_of None = 2 ^ 64
next_of (Some id) = id

abbrev pub lost_file : {D : Type 0} → D → ℕ → Lost D
lost_file disk end = record { disk = disk; end = end }

-- A hub's recorder, if there is a file; else the disk that was given back. The index of the file as far as it was
-- brought up; the sessions; the next number, if one is left; how many commands will share a commit after a
-- reopening; and how many sessions there may be.
pub record HubParts (D : Type 0) : Type 0 where
  pub file : Option (RecorderState D)
  pub lost : Option (Lost D)
  pub index : IndexState
  pub sessions : List Session
  pub next : Option ℕ
  pub most : ℕ
  pub room : ℕ

abbrev pub hub_parts : {D : Type 0} → Option (RecorderState D) → Option (Lost D) → IndexState → List Session → Option ℕ → ℕ → ℕ → HubParts D
hub_parts file lost index sessions next most room =
    record { file = file; lost = lost; index = index; sessions = sessions; next = next; most = most; room = room }

-- there is no place for one more session, or no number left for it
abbrev pub HasNoPlace : {D : Type 0} → HubParts D → Type 0
HasNoPlace hub = (hub.room ≤ length hub.sessions) ⊎ (hub.next ≡ None)

-- the sessions and the next number may be others, and nothing else
abbrev pub OnlySessions : {D : Type 0} → HubParts D → HubParts D → Type 0
OnlySessions old new = new ≡ hub_parts old.file old.lost old.index new.sessions new.next old.most old.room

-- the file may be another, and nothing else
abbrev pub OnlyFile : {D : Type 0} → HubParts D → HubParts D → Type 0
OnlyFile old new = new ≡ hub_parts new.file old.lost old.index old.sessions old.next old.most old.room

-- why nothing is done for a session without a file, by the place of the session
abbrev pub fault_of_place : Option ℕ → HubFault
fault_of_place None = NoSession
fault_of_place (Some place) = NoFile

-- and by its phase
abbrev pub fault_without_file : Option Phase → HubFault
fault_without_file None = NoSession
fault_without_file (Some phase) = NoFile

-- ---- what a file is
-- how many bytes are committed and wait; without a file the last end that is known
abbrev pub length_in : {D : Type 0} → Option (RecorderState D) → Option (Lost D) → ℕ
length_in (Some recorder) lost = recorder.chain.length_of
length_in None (Some lost) = lost.end
length_in None None = 0

-- how many links there are, those that wait included
abbrev pub links_in : {D : Type 0} → Option (RecorderState D) → ℕ
links_in (Some recorder) = recorder.chain.links
links_in None = 0

-- the streams of the last link, and the serials of all streams, those that wait included
abbrev pub streams_in : {D : Type 0} → Option (RecorderState D) → List StreamState
streams_in (Some recorder) = recorder.chain.streams
streams_in None = []

abbrev pub serials_in : {D : Type 0} → Option (RecorderState D) → List ℕ
serials_in (Some recorder) = recorder.chain.serials
serials_in None = []

-- the disk has failed, or there is no file
abbrev pub failed_in : {D : Type 0} → Option (RecorderState D) → Bool
failed_in (Some recorder) = recorder.file.failed
failed_in None = true

-- all that was accepted is kept: the disk hasn't failed, and no command waits
abbrev pub is_settled : {D : Type 0} → Option (RecorderState D) → Bool
is_settled (Some recorder) = not recorder.file.failed && nat_eq recorder.held 0
is_settled None = false

-- that is so, and no stream is open
abbrev pub is_at_rest : {D : Type 0} → Option (RecorderState D) → Bool
is_at_rest (Some recorder) = is_settled (Some recorder) && not (is_open recorder.chain)
is_at_rest None = false

-- ---- the hub
-- what always holds
pub record IsHub {D : Type 0} (hub : HubParts D) : Type 0 where
  pub one : hub.file ≡ None → IsSome hub.lost
  pub some : 1 ≤ hub.most
  pub few : hub.most ≤ 1024
  pub order : AreInOrder (next_of hub.next) hub.sessions
