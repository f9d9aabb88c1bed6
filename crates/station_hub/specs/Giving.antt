-- What a connection is given to be written. Ours.
use Rattle.std.specs.Prelude.{◌≡◌, ◌≢◌, ◌⊎◌, ◌&&◌, ℕ, Bool, false, nat_le, if◌then◌else◌, Option, Some, None, Result, Ok, Err, List, [], ◌++◌, length, take}
use Rattle.serve_machine.specs.Calls.{Steps}
use Rattle.serve_machine.specs.Hub.{Given, HubState, Phase, Pull, Sending, phase_of}
use Rattle.serve_machine.specs.declared.fault.HubFault.{HubFault}
use Rattle.serve_clients.specs.Client.{ClientState, cut, is_hearing, with_stage}
use Rattle.serve_live.specs.Hearing.{IsHearing}
use Rattle.serve_live.specs.Listening.{ListenerState, has_heard_all}
use Rattle.serve_live.specs.Live.{Moment}
use Rattle.serve_hub.specs.Listening.{HearsMore}
use Rattle.disk_model.specs.declared.disk.Disk.{Ghosts as DiskModel}
use Rattle.serve_hub.specs.Images.{Fails, IfFile}
use Rattle.serve_hub.specs.Parts.{HubParts}
use Rattle.serve_hub.specs.Showing.{Shows}
use Rattle.serve_clients.specs.declared.client.Stage.{Stage}
use Rattle.serve_clients.specs.declared.client.Stage.TheVariants.{Sending as SendingOf, Hearing, Ending, Cut}

-- A pull of the connection's session had this answer: so many bytes of the buffer are the session's next ones, and once
-- nothing is left they are its last. After a fault the connection is cut.
abbrev pub HasPulled : Result Given HubFault → ClientState → ℕ → List ℕ → ClientState → Type 0
HasPulled (Ok given) old count buffer new =
    (given.bytes ≡ take count buffer) × (new ≡ with_stage (if given.done then Ending else SendingOf) old)
HasPulled (Err fault) old count buffer new = (count ≡ 0) × (new ≡ cut old)

-- ---- what a connection is still to be given
-- what is left of the response, by the phase of its session
abbrev pub OwesRest : Option Phase → List ℕ → List ℕ → Type 0
OwesRest (Some (Sending rest)) unsent bytes = bytes ≡ unsent ++ rest
OwesRest phase unsent bytes = ⊥

abbrev pub phase_of_client : HubState → Option ℕ → Option Phase
phase_of_client hub None = None
phase_of_client hub (Some id) = phase_of hub id

-- A connection that gets a response is to be given what couldn't be written, and then what is left of the response.
abbrev pub OwesIn : Stage → HubState → ClientState → List ℕ → Type 0
OwesIn SendingOf hub client bytes = OwesRest (phase_of_client hub client.session) client.unsent bytes
OwesIn Ending hub client bytes = bytes ≡ client.unsent
OwesIn stage hub client bytes = ⊥

abbrev pub Owes : HubState → ClientState → List ℕ → Type 0
Owes hub client bytes = OwesIn client.stage hub client bytes

-- ---- what a listener is given
-- A listener heard its next bytes: so many bytes of the buffer. After a fault of the file the connection is cut.
abbrev pub HasHeard : Moment → List ℕ → List ℕ → List ℕ → ℕ → ClientState → ℕ → List ℕ → ClientState → Type 0
HasHeard moment committed given rest size old count buffer new =
    ((listener : ListenerState) × HearsMore moment committed given rest size count buffer listener × (new ≡ record old { listener = Some listener }))
    ⊎ ((count ≡ 0) × (new ≡ cut old))

-- it has heard all that is committed, up to this end
abbrev pub has_heard_by : ℕ → Option ListenerState → Bool
has_heard_by end None = false
has_heard_by end (Some listener) = has_heard_all end listener

-- A listener has got all that there is for it: nothing of that waits to be written.
abbrev pub has_got_all : ℕ → ClientState → Bool
has_got_all end client = is_hearing client.stage && (nat_le (length client.unsent) 0 && has_heard_by end client.listener)

-- there is no file, or its disk has failed
abbrev pub LosesFile : {D : Type 0} → DiskModel D → HubParts D → HubParts D → Type 0
LosesFile model old new = (old.file ≡ None) ⊎ IfFile (Fails model) old.file new.file

-- there is no session with this number, or no file, or its disk has failed
abbrev pub LosesSession : {D : Type 0} → DiskModel D → ℕ → HubState → HubParts D → HubParts D → Type 0
LosesSession model id machine old new = (phase_of machine id ≡ None) ⊎ LosesFile model old new

-- ---- what a call gives
-- So many bytes of the buffer are the next ones for a connection, which is this one after that: those that couldn't be
-- written before; if there are none, the next ones of its response, or of what it hears; and else there is nothing.
pub record Gives {D : Type 0} (model : DiskModel D) (old new : HubParts D) (size : ℕ) (client : ClientState) (count : ℕ) (buffer : List ℕ) (after : ClientState) : Type 0 where
  pub again : client.unsent ≢ [] → (new ≡ old) × (after ≡ client) × (take count buffer ≡ take size client.unsent)
  pub pulls : (id : ℕ) → client.unsent ≡ [] → client.stage ≡ SendingOf → client.session ≡ Some id
      → (answer : Result Given HubFault) × Steps (Shows model) old new (λ machine. Pull id size answer) × HasPulled answer client count buffer after
  -- it is cut only if its session is lost
  pub cause : (id : ℕ) (machine : HubState) → client.unsent ≡ [] → client.stage ≡ SendingOf → client.session ≡ Some id
      → Shows model old machine → after.stage ≡ Cut → LosesSession model id machine old new
  pub hears : (machine : HubState) (moment : Moment) (heard : List ℕ) (listener : ListenerState) → client.unsent ≡ [] → client.stage ≡ Hearing
      → Shows model old machine → client.listener ≡ Some listener → (hearing : IsHearing moment machine.committed listener heard)
      → HasHeard moment machine.committed heard hearing.rest size client count buffer after
  -- a listener is cut only if its file is lost
  pub lost : (machine : HubState) (moment : Moment) (heard : List ℕ) (listener : ListenerState) → client.unsent ≡ [] → client.stage ≡ Hearing
      → Shows model old machine → client.listener ≡ Some listener → IsHearing moment machine.committed listener heard
      → after.stage ≡ Cut → LosesFile model old new
  pub nothing : client.unsent ≡ [] → client.stage ≢ SendingOf → client.stage ≢ Hearing → (count ≡ 0) × (new ≡ old) × (after ≡ client)
  pub unconnected : client.unsent ≡ [] → client.stage ≡ SendingOf → client.session ≡ None → (count ≡ 0) × (new ≡ old) × (after ≡ client)
  -- what a listener is given is no step of the machine
  pub keeps : client.stage ≡ Hearing → (machine : HubState) → Shows model old machine → Shows model new machine
  pub goes_on : client.stage ≡ Hearing → (after.stage ≡ Hearing) ⊎ (after.stage ≡ Cut)
  pub rest : after ≡ record client { stage = after.stage; listener = after.listener }
