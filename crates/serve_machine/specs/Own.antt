-- What a call does to its own session, and what it leaves. Ours.
use Rattle.std.specs.Prelude.{◌≡◌, ℕ, ◌<◌, Some, List, take, drop}
use Rattle.std.specs.List.{AllByRecursion}
use Rattle.ogg_http.specs.Head.{IsAwaited}
use Rattle.serve_responses.specs.Response.{IsResponse}
use Rattle.serve_machine.specs.declared.answers.Progress.{Progress}
use Rattle.serve_machine.specs.declared.answers.Progress.TheVariants.{More, Ready}
use Rattle.serve_machine.specs.Hub.{HubState, Session, Reading, Sending, Given, phase_of, is_nothing}

-- The session has received these bytes: more of its head has to come, or its response was fixed.
abbrev pub HasReceived : HubState → ℕ → List ℕ → Progress → HubState → Type 0
HasReceived old id received More new = IsAwaited received × (phase_of new id ≡ Some (Reading received))
HasReceived old id received Ready new =
    (response : List ℕ) × IsResponse old.committed received response × (phase_of new id ≡ Some (Sending response))

-- The rest of the session's response was this: its front was given, and what follows it is left.
pub record HasPulled (id : ℕ) (rest : List ℕ) (size : ℕ) (given : Given) (new : HubState) : Type 0 where
  pub bytes : given.bytes ≡ take size rest
  pub done : given.done ≡ is_nothing (drop size rest)
  pub left : phase_of new id ≡ Some (Sending (drop size rest))

-- nothing was changed except the sessions, and which number is the next
abbrev pub KeepsFile : HubState → HubState → Type 0
KeepsFile old new = new ≡ record old { sessions = new.sessions; next_id = new.next_id }

-- each session has a number that was given
abbrev pub AreNumbered : HubState → Type 0
AreNumbered hub = AllByRecursion (λ (session : Session). session.id < hub.next_id) hub.sessions
