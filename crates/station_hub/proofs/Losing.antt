-- Why connections of sessions are cut.
use Rattle.std.proofs.Common.{◌≡◌, ◌≢◌, ◌++◌, ◌∷◌, ℕ, Bool, true, false, if◌then◌else◌, Option, Some, None, Result, Ok, Err, List, [], refl, sym, ◌∙◌, subst, inl, inr, arith}
use Rattle.std.proofs.lemmas.Bool.Decides.{nat_tests}
use Rattle.disk_model.specs.declared.disk.Disk.{Ghosts as DiskModel}
use Rattle.serve_clients.specs.declared.client.Stage.TheVariants.{Cut, Ending, Sending as SendingOf}
use Rattle.serve_hub.specs.Images.{Fails, IfFile}
use Rattle.serve_hub.specs.Parts.{HubParts}
use Rattle.serve_hub.specs.Showing.{Shows}
use Rattle.serve_machine.specs.Calls.{Steps}
use Rattle.serve_machine.specs.Hub.{Connect, HubState, Phase, Pull, Reading, Receive, Sending, Session, connect_step, phase_in, phase_of, pull_step, receive_step}
use Rattle.serve_machine.specs.declared.answers.Progress.{Progress}
use Rattle.serve_machine.specs.declared.answers.Progress.TheVariants.{More, Ready}
use Rattle.serve_machine.specs.declared.fault.HubFault.{HubFault}
use Rattle.serve_machine.specs.declared.fault.HubFault.TheVariants.{NoSession, SessionsFull, Source, Memory, NoFile}
use Rattle.serve_sessions.specs.Serving.{LacksRoomIn}
use Rattle.station_hub.specs.Asking.{CannotConnect, CannotReceive, stage_after}
use Rattle.station_hub.specs.Giving.{LosesSession}

-- ---- a call that says that there is no session
none_pulled : (phase : Option Phase) (has_file : Bool) (id size : ℕ) (old new : HubState) → pull_step phase has_file old id size (Err NoSession) new → phase ≡ None
none_pulled None has_file id size old new step = refl
none_pulled (Some (Reading received)) false id size old new step = absurd (cc step.0)
none_pulled (Some (Reading received)) true id size old new step = absurd (cc step.0)
none_pulled (Some (Sending rest)) false id size old new step = absurd (cc step.0)
none_pulled (Some (Sending rest)) true id size old new step = absurd step

none_received : (phase : Option Phase) (has_file : Bool) (id : ℕ) (bytes : List ℕ) (old new : HubState) → receive_step phase has_file old id bytes (Err NoSession) new
    → phase ≡ None
none_received None has_file id bytes old new step = refl
none_received (Some (Reading received)) false id bytes old new step = absurd (cc step.0)
none_received (Some (Reading received)) true id bytes old new step = absurd step
none_received (Some (Sending rest)) false id bytes old new step = absurd (cc step.0)
none_received (Some (Sending rest)) true id bytes old new step = absurd (cc step.0)

-- ---- a session that was connected is there
is_there : (id : ℕ) (sessions : List Session) → phase_in id (sessions ++ record { id = id; phase = Reading [] } ∷ []) ≢ None
is_there id [] = grind (arith, nat_tests)
is_there id (session ∷ sessions) = grind (arith, nat_tests, is_there id sessions)

-- ---- stages
pub gives_on : (done : Bool) → (if done then Ending else SendingOf) ≡ Cut → ⊥
gives_on true e = cc
gives_on false e = cc

module _ {D : Type 0} (model : DiskModel D) where
  pub pull_loses : (id size : ℕ) (fault : HubFault) (machine : HubState) (old new : HubParts D) → Steps (Shows model) old new (λ after. Pull id size (Err fault))
      → Shows model old machine → fault ≢ Memory → fault ≢ SessionsFull → (fault ≡ NoFile → old.file ≡ None)
      → (fault ≡ Source → IfFile (Fails model) old.file new.file) → LosesSession model id machine old new
  pull_loses id size NoSession machine old new steps shows room full no_file fails =
      let (after, shown, step) = steps machine shows in
      inl (none_pulled (phase_of machine id) machine.has_file id size machine after step)
  pull_loses id size SessionsFull machine old new steps shows room full no_file fails = absurd (full refl)
  pull_loses id size Source machine old new steps shows room full no_file fails = inr (inr (fails refl))
  pull_loses id size Memory machine old new steps shows room full no_file fails = absurd (room refl)
  pull_loses id size NoFile machine old new steps shows room full no_file fails = inr (inl (no_file refl))

  pub cannot_receive : (id : ℕ) (bytes : List ℕ) (progress : Result Progress HubFault) (machine : HubState) (old new : HubParts D)
      → Steps (Shows model) old new (λ after. Receive id bytes progress) → Shows model old machine → (progress ≡ Err Memory → LacksRoomIn id old.sessions bytes)
      → progress ≢ Err SessionsFull → (progress ≡ Err NoFile → old.file ≡ None) → (progress ≡ Err Source → IfFile (Fails model) old.file new.file)
      → stage_after progress ≡ Cut → CannotReceive model id bytes machine old new
  cannot_receive id bytes (Ok More) machine old new steps shows room full no_file fails cuts = absurd (cc cuts)
  cannot_receive id bytes (Ok Ready) machine old new steps shows room full no_file fails cuts = absurd (cc cuts)
  cannot_receive id bytes (Err NoSession) machine old new steps shows room full no_file fails cuts =
      let (after, shown, step) = steps machine shows in
      inr (inl (none_received (phase_of machine id) machine.has_file id bytes machine after step))
  cannot_receive id bytes (Err SessionsFull) machine old new steps shows room full no_file fails cuts = absurd (full refl)
  cannot_receive id bytes (Err Source) machine old new steps shows room full no_file fails cuts = inr (inr (inr (fails refl)))
  cannot_receive id bytes (Err Memory) machine old new steps shows room full no_file fails cuts = inl (room refl)
  cannot_receive id bytes (Err NoFile) machine old new steps shows room full no_file fails cuts = inr (inr (inl (no_file refl)))

  pub cannot_connect : (id : ℕ) (head : List ℕ) (before mid : HubState) (old between new : HubParts D) → Steps (Shows model) old between (λ machine. Connect (Ok id))
      → connect_step before (Ok id) mid → between.file ≡ old.file → CannotReceive model id head mid between new → CannotConnect model head old new
  cannot_connect id head before mid old between new connects step file (inl lacks) = inr (inr (id, between, connects, lacks))
  cannot_connect id head before mid old between new connects (free, is, becomes) file (inr (inl none)) =
      absurd (is_there before.next_id before.sessions
      (subst (λ (one : ℕ). phase_in one (before.sessions ++ record { id = before.next_id; phase = Reading [] } ∷ []) ≡ None) is
      (subst (λ (one : HubState). phase_in id one.sessions ≡ None) becomes none)))
  cannot_connect id head before mid old between new connects step file (inr (inr (inl none))) = inr (inl (inl (sym file ∙ none)))
  cannot_connect id head before mid old between new connects step file (inr (inr (inr fails))) =
      inr (inl (inr (subst (λ file. IfFile (Fails model) file new.file) file fails)))
