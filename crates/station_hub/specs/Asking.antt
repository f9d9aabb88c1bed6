-- What a connection asks for, and how it is taken. Ours.
use Rattle.std.specs.Prelude.{◌≡◌, ◌≢◌, ◌⊎◌, ℕ, Bool, true, false, Some, None, Result, Ok, Err, List, [], ◌++◌}
use Rattle.serve_machine.specs.Calls.{Steps}
use Rattle.serve_machine.specs.Hub.{HubState, Connect, Receive}
use Rattle.serve_machine.specs.declared.answers.Progress.{Progress}
use Rattle.serve_machine.specs.declared.answers.Progress.TheVariants.{More, Ready}
use Rattle.serve_machine.specs.declared.fault.HubFault.{HubFault}
use Rattle.serve_machine.specs.declared.fault.HubFault.TheVariants.{Memory}
use Rattle.disk_model.specs.declared.disk.Disk.{Ghosts as DiskModel}
use Rattle.serve_hub.specs.Images.{Fails, IfFile}
use Rattle.serve_hub.specs.Parts.{HasNoPlace, HubParts}
use Rattle.serve_hub.specs.Showing.{Shows}
use Rattle.serve_sessions.specs.Serving.{LacksRoomIn}
use Rattle.station_hub.specs.Giving.{LosesFile, LosesSession}
use Rattle.station_hub.specs.Marking.{Start}
use Rattle.station_hub.specs.Places.{PlacesState}
use Rattle.station_hub.specs.Tracking.{Tracks}
use Rattle.serve_clients.specs.Client.{ClientState, HasLast, LacksHeadRoom, LacksRoom, cut, cut_for_memory, told, with_more}
use Rattle.serve_live.specs.Boundaries.{place_to_join}
use Rattle.serve_live.specs.Listening.{ListenerState}
use Rattle.serve_sources.specs.Asking.{IsOther, IsOwn, MayCome, is_source}
use Rattle.serve_sources.specs.declared.answers.TheConstants.{LIVE}
use Rattle.serve_sources.specs.declared.asking.Asks.{Asks}
use Rattle.serve_sources.specs.declared.asking.Asks.TheVariants as Asked
use Rattle.serve_clients.specs.declared.client.Stage.{Stage}
use Rattle.serve_clients.specs.declared.client.Stage.TheVariants.{Reading, Sending, Hearing, Cut}

-- ---- what its head asks for
-- The head asks for this, with these bytes that have come of it. Or there was no room for them, and it is cut.
abbrev pub HasAsked : Asks → List ℕ → ClientState → ClientState → Type 0
HasAsked Asked.More bytes old new =
    (MayCome (old.head ++ bytes) × (new ≡ with_more new.head_room bytes old)) ⊎ (LacksHeadRoom bytes old × (new ≡ cut_for_memory old))
HasAsked Asked.Source bytes old new = (is_source (old.head ++ bytes) ≡ true) × (new ≡ with_more new.head_room bytes old)
HasAsked (Asked.Own resource head) bytes old new = IsOwn resource head (old.head ++ bytes) × (new ≡ with_more new.head_room bytes old)
HasAsked Asked.File bytes old new = IsOther (old.head ++ bytes) × (new ≡ with_more new.head_room bytes old)

-- ---- how it is taken
-- the stage of a connection whose session has taken bytes with this answer
abbrev pub stage_after : Result Progress HubFault → Stage
stage_after (Ok More) = Reading
stage_after (Ok Ready) = Sending
stage_after (Err fault) = Cut

-- what becomes of a connection for which the hub has this fault
abbrev pub cut_after : HubFault → ClientState → ClientState
cut_after Memory client = cut_for_memory client
cut_after fault client = cut client

-- A session was connected, and took what had come of the head.
pub record IsConnected {D : Type 0} (shows : HubParts D → HubState → Type 0) (old new : HubParts D) (before after : ClientState) : Type 0 where
  pub id : ℕ
  pub progress : Result Progress HubFault
  pub between : HubParts D
  pub connects : Steps shows old between (λ machine. Connect (Ok id))
  pub receives : Steps shows between new (λ machine. Receive id before.head progress)
  pub client : after ≡ record before { stage = stage_after progress; session = Some id; head = [] }

-- There is no place for one more session, or no number left for it: the connection is cut.
abbrev pub HasNoSession : {D : Type 0} → HubParts D → HubParts D → ClientState → ClientState → Type 0
HasNoSession old new before after = HasNoPlace old × (new ≡ old) × (after ≡ cut before)

-- Why a connection whose session is to take these bytes is cut: there was no room for them, or they complete the head;
-- or its session is lost.
abbrev pub CannotReceive : {D : Type 0} → DiskModel D → ℕ → List ℕ → HubState → HubParts D → HubParts D → Type 0
CannotReceive model id bytes machine old new = LacksRoomIn id old.sessions bytes ⊎ LosesSession model id machine old new

-- Why a connection that the hub is to answer is cut: there is no place for it; there is no file, or its disk has
-- failed; or there was no room for the head in the session that it was given, or the head is complete.
abbrev pub CannotConnect : {D : Type 0} → DiskModel D → List ℕ → HubParts D → HubParts D → Type 0
CannotConnect {D} model head old new =
    HasNoPlace old ⊎ (LosesFile model old new
    ⊎ ((id : ℕ) × (between : HubParts D) × Steps (Shows model) old between (λ machine. Connect (Ok id))
    × LacksRoomIn id between.sessions head))

-- what has come of the connection's head isn't kept any longer
abbrev pub headless : ClientState → ClientState
headless client = record client { head = [] }

-- A connection listens: it gets the head of the answer, and hears what follows by a listener, unless the head alone was asked
-- for. If memory is refused, and after a fault of the file, it is cut.
abbrev pub Listens : Bool → ClientState → ClientState → Type 0
Listens true old new = HasLast LIVE.now (headless old) new
Listens false old new =
    ((listener : ListenerState) × (new ≡ record (told new.room LIVE.now (headless old)) { stage = Hearing; listener = Some listener }))
    ⊎ (new ≡ record (cut (headless old)) { listener = new.listener; refused = new.refused })

-- Nothing can be heard of what is committed: there is no file, or its disk has failed.
abbrev pub CannotHear : {D : Type 0} → DiskModel D → PlacesState → HubParts D → HubParts D → Type 0
CannotHear model places old new =
    (old.file ≡ None)
    ⊎ ((start : Start) (machine : HubState) → Shows model old machine → Tracks start machine places → IfFile (Fails model) old.file new.file)

-- Why a connection that listens is cut, if it is: there was no room for the head of the answer; there is a place to join, and
-- memory for a listener there was refused; or nothing can be heard.
abbrev pub IsCutFor : {D : Type 0} → DiskModel D → PlacesState → HubParts D → HubParts D → ClientState → ClientState → Type 0
IsCutFor model places old new before after =
    after.stage ≡ Cut
    → LacksRoom LIVE.now before ⊎ ((place_to_join places.boundaries ≢ None) × (after.refused ≡ true)) ⊎ CannotHear model places old new
