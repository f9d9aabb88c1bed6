-- Which faults a session of the hub may get, and what they leave of it.
use Rattle.std.proofs.Common.{◌≡◌, ◌≢◌, ℕ, Bool, true, false, Option, Some, None, Result, Ok, Err, List, refl, sym, ◌∙◌, ap, subst}
use Rattle.std.specs.Prelude.{IsSome, ⊤}
use Rattle.serve_machine.specs.declared.answers.Progress.{Progress}
use Rattle.serve_machine.specs.declared.answers.Progress.TheVariants.{Ready}
use Rattle.serve_machine.specs.declared.fault.HubFault.{HubFault}
use Rattle.serve_machine.specs.declared.fault.HubFault.TheVariants.{NoSession, SessionsFull, Source, Memory, NoFile}
use Rattle.serve_machine.specs.Hub.{HubState, Phase, Reading, Sending, Given, Close, Receive, Pull, hub_step, phase_of, without_session, close_step, head_step, receive_step, send_step, pull_step}
use Rattle.ogg_serve.specs.Pieces.{LeftBy}
use Rattle.ogg_serve.specs.Serving.{MayMeet}

-- a connection may meet what a session may
pub may_meet : (fault : HubFault) (has_file : Bool) (phase : Option Phase) → LeftBy fault has_file phase → MayMeet has_file fault
may_meet NoSession has_file phase l = l
may_meet SessionsFull has_file phase l = l
may_meet Source has_file phase l = l.0
may_meet Memory has_file phase l = l.0
may_meet NoFile has_file phase l = l.0

-- the same answer of another type
pub same_fault : {T : Type 0} (one other : HubFault) → ◌≡◌ {A = Result T HubFault} (Err one) (Err other) → one ≡ other
same_fault one other e = cc

-- what the law of closing says
abbrev pub Closes : Type 0
Closes = (old new : HubState) (id : ℕ) (answer : Result ⊤ HubFault) → hub_step old (Close id answer) new → phase_of new id ≡ None

file_stays : (old new other : HubState) (has_file : Bool) → old.has_file ≡ has_file → new ≡ other → other.has_file ≡ old.has_file → new.has_file ≡ has_file
file_stays old new other has_file h e same = ap (λ (hub : HubState). hub.has_file) e ∙ same ∙ h

there : (old new : HubState) (id : ℕ) (was : Phase) → phase_of old id ≡ Some was → new ≡ old → IsSome (phase_of new id)
there old new id was e same = subst (λ (o : Option Phase). IsSome o) (sym (ap (λ (hub : HubState). phase_of hub id) same ∙ e)) refl

module _ (closes : Closes) where
  gone : (old new : HubState) (id : ℕ) (was : Phase) → phase_of old id ≡ Some was → new ≡ without_session id old → phase_of new id ≡ None
  gone old new id was e same =
      closes old new id (Ok tt) (subst (λ (o : Option Phase). close_step o old id (Ok tt) new) (sym e) (refl, same))

  by_head : (old new : HubState) (id : ℕ) (was : Phase) (received : List ℕ) (fault : HubFault) → phase_of old id ≡ Some was → old.has_file ≡ true
      → head_step old id received (Err fault) new → LeftBy fault new.has_file (phase_of new id)
  by_head old new id was received NoSession e h step = absurd step
  by_head old new id was received SessionsFull e h step = absurd step
  by_head old new id was received Source e h (asked, asks, same) =
      (file_stays old new (without_session id old) true h same refl, gone old new id was e same)
  by_head old new id was received Memory e h step = (file_stays old new old true h step refl, there old new id was e step)
  by_head old new id was received NoFile e h step = absurd step

  no_file : (old new : HubState) (id : ℕ) (was : Phase) (fault : HubFault) → phase_of old id ≡ Some was → old.has_file ≡ false
      → fault ≡ NoFile → new ≡ old → LeftBy fault new.has_file (phase_of new id)
  no_file old new id was fault e h is same =
      subst (λ (f : HubFault). LeftBy f new.has_file (phase_of new id)) (sym is) (file_stays old new old false h same refl, there old new id was e same)

  by_receive : (old new : HubState) (id : ℕ) (phase : Option Phase) (has_file : Bool) (was : Phase) (bytes : List ℕ) (fault : HubFault) → phase_of old id ≡ Some was
      → phase ≡ Some was → old.has_file ≡ has_file → receive_step phase has_file old id bytes (Err fault) new → LeftBy fault new.has_file (phase_of new id)
  by_receive old new id None has_file was bytes fault e is h step = cc
  by_receive old new id (Some phase) false was bytes fault e is h step = no_file old new id was fault e h (same_fault {T = Progress} fault NoFile step.0) step.1
  by_receive old new id (Some (Reading received)) true was bytes fault e is h step = by_head old new id was _ fault e h step
  by_receive old new id (Some (Sending rest)) true was bytes fault e is h step = let no : ◌≡◌ {A = Result Progress HubFault} (Err fault) (Ok Ready) = step.0 in cc

  pub receives : (old new : HubState) (id : ℕ) (was : Phase) (bytes : List ℕ) (fault : HubFault) → phase_of old id ≡ Some was
      → hub_step old (Receive id bytes (Err fault)) new → LeftBy fault new.has_file (phase_of new id)
  receives old new id was bytes fault e step = by_receive old new id (phase_of old id) old.has_file was bytes fault e e refl step

  -- a pull takes no memory
  abbrev HasLeft : HubFault → HubState → ℕ → Type 0
  HasLeft fault new id = LeftBy fault new.has_file (phase_of new id) × (fault ≢ Memory)

  by_send : (old new : HubState) (id : ℕ) (was : Phase) (rest : List ℕ) (size : ℕ) (fault : HubFault) → phase_of old id ≡ Some was → old.has_file ≡ true
      → send_step old id rest size (Err fault) new → HasLeft fault new id
  by_send old new id was rest size NoSession e h step = absurd step
  by_send old new id was rest size SessionsFull e h step = absurd step
  by_send old new id was rest size Source e h step =
      ((file_stays old new (without_session id old) true h step.1 refl, gone old new id was e step.1), λ no. cc)
  by_send old new id was rest size Memory e h step = absurd step
  by_send old new id was rest size NoFile e h step = absurd step

  by_pull : (old new : HubState) (id : ℕ) (phase : Option Phase) (has_file : Bool) (was : Phase) (size : ℕ) (fault : HubFault) → phase_of old id ≡ Some was
      → phase ≡ Some was → old.has_file ≡ has_file → pull_step phase has_file old id size (Err fault) new → HasLeft fault new id
  by_pull old new id None has_file was size fault e is h step = cc
  by_pull old new id (Some phase) false was size fault e is h step =
      let none = same_fault {T = Given} fault NoFile step.0 in (no_file old new id was fault e h none step.1, λ no. let both : NoFile ≡ Memory = sym none ∙ no in cc)
  by_pull old new id (Some (Reading received)) true was size fault e is h step = let no : ◌≡◌ {A = Result Given HubFault} (Err fault) (Ok _) = step.0 in cc
  by_pull old new id (Some (Sending rest)) true was size fault e is h step = by_send old new id was rest size fault e h step

  pub pulls : (old new : HubState) (id : ℕ) (was : Phase) (size : ℕ) (fault : HubFault) → phase_of old id ≡ Some was
      → hub_step old (Pull id size (Err fault)) new → HasLeft fault new id
  pulls old new id was size fault e step = by_pull old new id (phase_of old id) old.has_file was size fault e e refl step
