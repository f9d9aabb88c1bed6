-- The calls of a session, as steps.
use Rattle.std.proofs.Common.{◌≡◌, ℕ, true, Option, None, Some, Ok, Err, List, ◌++◌, length, get_or, set, take, sym, ◌∙◌, subst}
use Rattle.link_chain.specs.Laws.Walked.{no_fault_there}
use Rattle.serve_machine.specs.Hub.{HubState, Session, Phase, Given, phase_in, with_phase_in, receive_step, pull_step}
use Rattle.serve_machine.specs.declared.answers.Progress.{Progress}
use Rattle.serve_machine.specs.declared.fault.HubFault.{HubFault}
use Rattle.serve_sessions.specs.Serving.{PhaseGets, PhaseGives, left_after}
use Rattle.serve_sessions.specs.Sessions.{AreSessions, IsPhase, place_in}
use Rattle.serve_sessions.specs.declared.session.Session.{Session as SessionParts}
use Rattle.serve_sessions.specs.Laws.Found.{Found, found, not_found}
use Rattle.serve_sessions.proofs.Listed.{written_back}
use Rattle.serve_sessions.proofs.Stages.{received, receive_failed, pulled_some, pull_failed}

-- a session that wasn't found has no phase
pub none_there : (m : HubState) (id : ℕ) (parts : List SessionParts) {result : Option ℕ} → AreSessions m.committed parts m.sessions → result ≡ place_in id parts
    → ((place : ℕ) → result ≡ Some place → ⊥) → phase_in id m.sessions ≡ None
none_there m id parts {result} are there never = not_found m.committed id parts m.sessions are (sym there ∙ no_fault_there result never)

-- Over bytes b, which are those of the machine, the session with this number was found, and its stage was changed through
-- a slice of the vector.
module _ (m : HubState) {b : List ℕ} (e : b ≡ m.committed) (id : ℕ) {place : ℕ} {parts seen : List SessionParts} {result : Option ℕ}
    (are : AreSessions m.committed parts m.sessions) (there : result ≡ place_in id parts) (is : result ≡ Some place) (same : seen ≡ parts)
  where
    abbrev f : Found m.committed id place parts m.sessions
    f = found m.committed id place parts m.sessions are (sym there ∙ is)

    -- what a call makes of the session's phase, it makes of the one in the machine
    pub of_phase : (C : Phase → Type 0) (d : SessionParts) → ((phase : Phase) → IsPhase b (get_or seen place d).stage phase → C phase) → C f.phase
    of_phase C d call =
        call f.phase (subst (λ (l : List SessionParts). IsPhase b (get_or l place d).stage f.phase) (sym same)
        (subst (λ (k : List ℕ). IsPhase k (get_or parts place d).stage f.phase) (sym e) (f.is d)))

    module _ {n : ℕ} (long : n ≡ length parts) (d new : SessionParts) (rest : List SessionParts) (own : new.id ≡ (get_or seen place d).id) where
      changed : (after : Phase) → IsPhase b new.stage after → AreSessions m.committed (take n (set seen place new ++ rest)) (with_phase_in id after m.sessions)
      changed after stage =
          subst (λ (l : List SessionParts). AreSessions m.committed l (with_phase_in id after m.sessions)) (sym (written_back n place parts seen new rest same long))
          (f.set_to d new after (subst (λ (l : List SessionParts). new.id ≡ (get_or l place d).id) same own) (subst (λ (k : List ℕ). IsPhase k new.stage after) e stage))

      pub receive_ok : {bytes : List ℕ} {progress : Progress}
          → ((phase : Phase) → IsPhase b (get_or seen place d).stage phase → (after : Phase) × IsPhase b new.stage after × PhaseGets b phase bytes (Ok progress) after)
          → (left : List Session) × AreSessions m.committed (take n (set seen place new ++ rest)) left × receive_step (phase_in id m.sessions) true m id bytes (Ok progress) (record m { sessions = left })
      receive_ok {bytes} {progress} call =
          let (after, stage, gets) = of_phase _ d call in (
            with_phase_in id after m.sessions,
            changed after stage,
            subst (λ (o : Option Phase). receive_step o true m id bytes (Ok progress) (record m { sessions = with_phase_in id after m.sessions })) (sym f.phase_is)
                (received m id bytes f.phase after progress f.same (subst (λ (k : List ℕ). PhaseGets k f.phase bytes (Ok progress) after) e gets)),
          )

      pub pull_ok : {size : ℕ} {given : Given}
          → ((phase : Phase) → IsPhase b (get_or seen place d).stage phase → (after : Phase) × IsPhase b new.stage after × PhaseGives phase size (Ok given) after)
          → (left : List Session) × AreSessions m.committed (take n (set seen place new ++ rest)) left × pull_step (phase_in id m.sessions) true m id size (Ok given) (record m { sessions = left })
      pull_ok {size} {given} call =
          let (after, stage, gives) = of_phase _ d call in (
            with_phase_in id after m.sessions,
            changed after stage,
            subst (λ (o : Option Phase). pull_step o true m id size (Ok given) (record m { sessions = with_phase_in id after m.sessions })) (sym f.phase_is)
                (pulled_some m id size f.phase after given f.same gives),
          )

      -- and after a fault the session has ended
      module _ {fault : HubFault} (left : List SessionParts)
          (ends : (committed : List ℕ) (machine : List Session) → AreSessions committed (take n (set seen place new ++ rest)) machine → AreSessions committed left (left_after fault id machine)) where
        pub receive_err : {bytes : List ℕ}
            → ((phase : Phase) → IsPhase b (get_or seen place d).stage phase → (after : Phase) × IsPhase b new.stage after × PhaseGets b phase bytes (Err fault) after)
            → (after : List Session) × AreSessions m.committed left after × receive_step (phase_in id m.sessions) true m id bytes (Err fault) (record m { sessions = after })
        receive_err {bytes} call =
            let (after, stage, gets) = of_phase _ d call in (
              left_after fault id (with_phase_in id after m.sessions),
              ends m.committed (with_phase_in id after m.sessions) (changed after stage),
              subst (λ (o : Option Phase). receive_step o true m id bytes (Err fault) (record m { sessions = left_after fault id (with_phase_in id after m.sessions) })) (sym f.phase_is)
                  (receive_failed m id bytes f.phase after fault f.same (subst (λ (k : List ℕ). PhaseGets k f.phase bytes (Err fault) after) e gets)),
            )

        pub pull_err : {size : ℕ}
            → ((phase : Phase) → IsPhase b (get_or seen place d).stage phase → (after : Phase) × IsPhase b new.stage after × PhaseGives phase size (Err fault) after)
            → (after : List Session) × AreSessions m.committed left after × pull_step (phase_in id m.sessions) true m id size (Err fault) (record m { sessions = after })
        pull_err {size} call =
            let (after, stage, gives) = of_phase _ d call in (
              left_after fault id (with_phase_in id after m.sessions),
              ends m.committed (with_phase_in id after m.sessions) (changed after stage),
              subst (λ (o : Option Phase). pull_step o true m id size (Err fault) (record m { sessions = left_after fault id (with_phase_in id after m.sessions) })) (sym f.phase_is)
                  (pull_failed m id size f.phase after fault gives),
            )
