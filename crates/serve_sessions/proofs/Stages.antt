-- What a session keeps, and its phase.
use Rattle.std.proofs.Common.{◌≡◌, ◌≢◌, ◌⊎◌, inl, inr, ℕ, Bool, true, false, not, ◌∷◌, Option, Some, None, Result, Ok, Err, List, [], ◌++◌, take, drop, refl, sym, ◌∙◌, ap, subst}
use Rattle.std.specs.Global.{Vec}
use Rattle.std.specs.Prelude.{nat_eq}
use Rattle.std.proofs.lemmas.Bool.{cases_Bool, cond-true, cond-false}
use Rattle.serve_responses.specs.Response.{Asked, Asks}
use Rattle.serve_sending.specs.Sending.{SendingState, Gives, IsLeft}
use Rattle.serve_machine.specs.Hub.{HubState, Session, Phase, Reading, Sending, Given, is_nothing, with_phase_in, with_phase, without_in, without_session, receive_step, pull_step}
use Rattle.serve_machine.specs.declared.answers.Progress.{Progress}
use Rattle.serve_machine.specs.declared.answers.Progress.TheVariants.{More, Ready}
use Rattle.serve_machine.specs.declared.answers.Pulled.{Pulled}
use Rattle.serve_machine.specs.declared.fault.HubFault.{HubFault}
use Rattle.serve_machine.specs.declared.fault.HubFault.TheVariants.{NoSession, SessionsFull, Source, Memory, NoFile}
use Rattle.serve_sessions.specs.Serving.{HeadGets, PhaseGets, PhaseGives, left_after}
use Rattle.serve_sessions.specs.Sessions.{IsPhase}
use Rattle.serve_sessions.specs.declared.session.Stage.{Stage}
use Rattle.serve_sessions.specs.declared.session.Stage.TheVariants.{Head, Response}

-- ---- what is received
module _ (committed : List ℕ) (stage : Stage) (head new : Vec ℕ) (bytes : List ℕ) (is : stage ≡ Head head) where
  reading : (phase : Phase) → IsPhase committed stage phase → phase ≡ Reading head.items
  reading (Reading received) p = ap Reading (sym (subst (λ (s : Stage). IsPhase committed s (Reading received)) is p))
  reading (Sending rest) p = absurd (subst (λ (s : Stage). IsPhase committed s (Sending rest)) is p)

  pub gets_more : (phase : Phase) → IsPhase committed stage phase → HeadGets committed head.items bytes (Ok None) new.items
      → (after : Phase) × IsPhase committed (Head new) after × PhaseGets committed phase bytes (Ok More) after
  gets_more phase p h =
      subst (λ (x : Phase). (after : Phase) × IsPhase committed (Head new) after × PhaseGets committed x bytes (Ok More) after) (sym (reading phase p))
      (Reading new.items, refl, (h.0, ap Reading h.1))

  pub gets_response : (sending : SendingState) (phase : Phase) → IsPhase committed stage phase → HeadGets committed head.items bytes (Ok (Some sending)) new.items
      → (after : Phase) × IsPhase committed (Response sending) after × PhaseGets committed phase bytes (Ok Ready) after
  gets_response sending phase p h =
      subst (λ (x : Phase). (after : Phase) × IsPhase committed (Response sending) after × PhaseGets committed x bytes (Ok Ready) after) (sym (reading phase p))
      (Sending h.0, h.2, (h.0, h.1, refl))

  fault_got : (fault : HubFault) → HeadGets committed head.items bytes (Err fault) new.items
      → (after : Phase) × IsPhase committed (Head new) after × PhaseGets committed (Reading head.items) bytes (Err fault) after
  fault_got Source h = (Reading new.items, refl, (h.0, h.1))
  fault_got Memory h = (Reading new.items, refl, ap Reading h)
  fault_got NoSession h = absurd h
  fault_got SessionsFull h = absurd h
  fault_got NoFile h = absurd h

  pub gets_fault : (fault : HubFault) (phase : Phase) → IsPhase committed stage phase → HeadGets committed head.items bytes (Err fault) new.items
      → (after : Phase) × IsPhase committed (Head new) after × PhaseGets committed phase bytes (Err fault) after
  gets_fault fault phase p h =
      subst (λ (x : Phase). (after : Phase) × IsPhase committed (Head new) after × PhaseGets committed x bytes (Err fault) after) (sym (reading phase p))
      (fault_got fault h)

pub head_fault : (committed old bytes received new : List ℕ) (fault : HubFault) (asked : Option Asked) → received ≡ old ++ bytes → Asks received asked → new ≡ old
    → (fault ≡ Source) ⊎ (fault ≡ Memory) → HeadGets committed old bytes (Err fault) new
head_fault committed old bytes received new fault asked both asks same (inl source) =
    subst (λ (f : HubFault). HeadGets committed old bytes (Err f) new) (sym source) (asked, subst (λ (l : List ℕ). Asks l asked) both asks, same)
head_fault committed old bytes received new fault asked both asks same (inr memory) = subst (λ (f : HubFault). HeadGets committed old bytes (Err f) new) (sym memory) same

-- ---- what is pulled
-- a session that sends has a rest
pub record Rests (committed : List ℕ) (sending : SendingState) (phase : Phase) : Type 0 where
  pub rest : List ℕ
  pub is : phase ≡ Sending rest
  pub left : IsLeft committed sending rest

pub rests : (committed : List ℕ) (stage : Stage) (sending : SendingState) → stage ≡ Response sending → (phase : Phase) → IsPhase committed stage phase
    → Rests committed sending phase
rests committed stage sending is (Reading received) p = absurd (subst (λ (s : Stage). IsPhase committed s (Reading received)) is p)
rests committed stage sending is (Sending rest) p = record { rest = rest; is = refl; left = subst (λ (s : Stage). IsPhase committed s (Sending rest)) is p }

given_of : (a b : List ℕ) (c d : Bool) → a ≡ b → c ≡ d → ◌≡◌ {A = Given} (record { bytes = a; done = c }) (record { bytes = b; done = d })
given_of a b c d e f = (λ i. record { bytes = e i; done = f i })

pub gives : (committed : List ℕ) (sending after : SendingState) (phase : Phase) (size : ℕ) (buffer : List ℕ) (pulled : Pulled) (r : Rests committed sending phase)
    → Gives committed r.rest size buffer pulled after
    → (x : Phase) × IsPhase committed (Response after) x × PhaseGives phase size (Ok (record { bytes = take pulled.count buffer; done = pulled.done })) x
gives committed sending after phase size buffer pulled r g =
    subst (λ (p : Phase). (x : Phase) × IsPhase committed (Response after) x × PhaseGives p size (Ok (record { bytes = take pulled.count buffer; done = pulled.done })) x) (sym r.is)
    (Sending (drop size r.rest), g.left, (given_of (take pulled.count buffer) (take size r.rest) pulled.done (is_nothing (drop size r.rest)) g.given g.done, refl))

pub gives_fault : (committed : List ℕ) (sending after : SendingState) (phase : Phase) (size : ℕ) (r : Rests committed sending phase) → after ≡ sending → take size r.rest ≢ []
    → (x : Phase) × IsPhase committed (Response after) x × PhaseGives phase size (Err Source) x
gives_fault committed sending after phase size r same some =
    subst (λ (p : Phase). (x : Phase) × IsPhase committed (Response after) x × PhaseGives p size (Err Source) x) (sym r.is)
    (Sending r.rest, subst (λ (s : SendingState). IsLeft committed s r.rest) (sym same) r.left, some)

-- ---- steps
module _ (m : HubState) (id : ℕ) (phase after : Phase) (same : with_phase_in id phase m.sessions ≡ m.sessions) where
  unchanged : after ≡ phase → with_phase id after m ≡ m
  unchanged e = ap (λ (p : Phase). with_phase id p m) e ∙ ap (λ (l : List Session). record m { sessions = l }) same

pub received : (m : HubState) (id : ℕ) (bytes : List ℕ) (phase after : Phase) (progress : Progress) → with_phase_in id phase m.sessions ≡ m.sessions
    → PhaseGets m.committed phase bytes (Ok progress) after → receive_step (Some phase) true m id bytes (Ok progress) (with_phase id after m)
received m id bytes (Reading old) after More same h = (h.0, ap (λ (p : Phase). with_phase id p m) h.1)
received m id bytes (Reading old) after Ready same h = (h.0, h.1, ap (λ (p : Phase). with_phase id p m) h.2)
received m id bytes (Sending rest) after progress same h = (h.0, unchanged m id (Sending rest) after same h.1)

not_ready : (fault : HubFault) → ◌≡◌ {A = Result Progress HubFault} (Err fault) (Ok Ready) → ⊥
not_ready fault e = cc

-- the session is left out, whatever its phase
left_out : (id : ℕ) (after : Phase) (sessions : List Session) → without_in id (with_phase_in id after sessions) ≡ without_in id sessions
left_out id after [] = refl
left_out id after (s ∷ sessions) =
    elim (cases_Bool (nat_eq s.id id)) [
      | inl own ↦
          ap (without_in id) (cond-true (nat_eq s.id id) (record s { phase = after } ∷ sessions) (s ∷ with_phase_in id after sessions) own)
          ∙ cond-false (not (nat_eq s.id id)) (record s { phase = after } ∷ without_in id sessions) (without_in id sessions) (ap not own)
          ∙ sym (cond-false (not (nat_eq s.id id)) (s ∷ without_in id sessions) (without_in id sessions) (ap not own))
      | inr other ↦
          ap (without_in id) (cond-false (nat_eq s.id id) (record s { phase = after } ∷ sessions) (s ∷ with_phase_in id after sessions) other)
          ∙ cond-true (not (nat_eq s.id id)) (s ∷ without_in id (with_phase_in id after sessions)) (without_in id (with_phase_in id after sessions)) (ap not other)
          ∙ ap (λ (l : List Session). s ∷ l) (left_out id after sessions)
          ∙ sym (cond-true (not (nat_eq s.id id)) (s ∷ without_in id sessions) (without_in id sessions) (ap not other))
    ]

-- the machine with the sessions that are left after a fault
abbrev left_machine : HubFault → ℕ → Phase → HubState → HubState
left_machine fault id after m = record m { sessions = left_after fault id (with_phase_in id after m.sessions) }

out : (m : HubState) (id : ℕ) (after : Phase) → left_machine Source id after m ≡ without_session id m
out m id after = ap (λ (l : List Session). record m { sessions = l }) (left_out id after m.sessions)

pub receive_failed : (m : HubState) (id : ℕ) (bytes : List ℕ) (phase after : Phase) (fault : HubFault) → with_phase_in id phase m.sessions ≡ m.sessions
    → PhaseGets m.committed phase bytes (Err fault) after → receive_step (Some phase) true m id bytes (Err fault) (left_machine fault id after m)
receive_failed m id bytes (Reading old) after Source same h = (h.0, h.1, out m id after)
receive_failed m id bytes (Reading old) after Memory same h = unchanged m id (Reading old) after same h
receive_failed m id bytes (Reading old) after NoSession same h = absurd h
receive_failed m id bytes (Reading old) after SessionsFull same h = absurd h
receive_failed m id bytes (Reading old) after NoFile same h = absurd h
receive_failed m id bytes (Sending rest) after fault same h = absurd (not_ready fault h.0)

pub pulled_some : (m : HubState) (id size : ℕ) (phase after : Phase) (given : Given) → with_phase_in id phase m.sessions ≡ m.sessions
    → PhaseGives phase size (Ok given) after → pull_step (Some phase) true m id size (Ok given) (with_phase id after m)
pulled_some m id size (Reading old) after given same h = (h.0, unchanged m id (Reading old) after same h.1)
pulled_some m id size (Sending rest) after given same h = (h.0, ap (λ (p : Phase). with_phase id p m) h.1)

not_given : (fault : HubFault) (given : Given) → ◌≡◌ {A = Result Given HubFault} (Err fault) (Ok given) → ⊥
not_given fault given e = cc

pub pull_failed : (m : HubState) (id size : ℕ) (phase after : Phase) (fault : HubFault) → PhaseGives phase size (Err fault) after
    → pull_step (Some phase) true m id size (Err fault) (left_machine fault id after m)
pull_failed m id size (Reading old) after fault h = absurd (not_given fault (record { bytes = []; done = false }) h.0)
pull_failed m id size (Sending rest) after Source h = (h, out m id after)
pull_failed m id size (Sending rest) after Memory h = absurd h
pull_failed m id size (Sending rest) after NoSession h = absurd h
pull_failed m id size (Sending rest) after SessionsFull h = absurd h
pull_failed m id size (Sending rest) after NoFile h = absurd h
