-- What a call does to its own session.
use Rattle.std.proofs.Common.{◌≡◌, ℕ, ◌+◌, Bool, true, false, Option, Some, None, Result, Ok, Err, List, [], ◌++◌, take, drop, refl, sym, ◌∙◌, ap, subst}
use Rattle.std.specs.Prelude.{⊤}
use Rattle.serve_machine.specs.declared.fault.HubFault.{HubFault}
use Rattle.serve_machine.specs.declared.fault.HubFault.TheVariants.{NoSession, SessionsFull, Source, Memory, NoFile}
use Rattle.serve_machine.specs.declared.answers.Progress.{Progress}
use Rattle.serve_machine.specs.declared.answers.Progress.TheVariants.{More, Ready}
use Rattle.serve_machine.specs.Hub.{HubState, Phase, Reading, Sending, Session, Given, Event, Connect, Receive, Pull, Close, Record, Flush, Group, Reopen, hub_step, phase_of, is_nothing, with_phase, without_session, connect_step, head_step, receive_step, pull_step, close_step}
use Rattle.serve_machine.specs.Own.{HasReceived, HasPulled, KeepsFile}
use Rattle.serve_machine.specs.Run.{session_of}
use Rattle.serve_machine.proofs.Numbers.{KeepsTheRest, receive_keeps, pull_keeps, close_keeps}
use Rattle.serve_machine.proofs.Sessions.{changed, removed, added}

phase_after : (id : ℕ) (new other : HubState) → new ≡ other → phase_of new id ≡ phase_of other id
phase_after id new other e = ap (λ (h : HubState). phase_of h id) e

pub connects : (old new : HubState) (id : ℕ) → hub_step old (Connect (Ok id)) new → phase_of old id ≡ None → phase_of new id ≡ Some (Reading [])
connects old new id step none =
    let fresh : phase_of old old.next_id ≡ None = ap (phase_of old) (sym step.1) ∙ none in
    ap (phase_of new) step.1 ∙ phase_after old.next_id new _ step.2 ∙ added old.next_id (Reading []) old.sessions fresh

-- ---- receive
moved : (old : HubState) (id : ℕ) (was phase : Phase) → phase_of old id ≡ Some was → phase_of (with_phase id phase old) id ≡ Some phase
moved old id was phase found = changed id was phase old.sessions found

by_head : (old new : HubState) (id : ℕ) (was received : List ℕ) (progress : Progress) → phase_of old id ≡ Some (Reading was)
    → head_step old id received (Ok progress) new → HasReceived old id received progress new
by_head old new id was received More found step = (step.0, phase_after id new _ step.1 ∙ moved old id (Reading was) (Reading received) found)
by_head old new id was received Ready found step =
    (step.0, step.1, phase_after id new _ step.2 ∙ moved old id (Reading was) (Sending step.0) found)

by_receive : (old new : HubState) (id : ℕ) (phase : Option Phase) (has_file : Bool) (received bytes : List ℕ) (progress : Progress)
    → phase ≡ Some (Reading received) → phase_of old id ≡ Some (Reading received)
    → receive_step phase has_file old id bytes (Ok progress) new → HasReceived old id (received ++ bytes) progress new
by_receive old new id None has_file received bytes progress e found step = cc
by_receive old new id (Some phase) false received bytes progress e found step = let no : Ok progress ≡ Err NoFile = step.0 in cc
by_receive old new id (Some (Sending rest)) true received bytes progress e found step = cc
by_receive old new id (Some (Reading other)) true received bytes progress e found step =
    let same : other ≡ received = cc in
    by_head old new id received (received ++ bytes) progress found
    (subst (λ (l : List ℕ). head_step old id (l ++ bytes) (Ok progress) new) same step)

pub receives : (old new : HubState) (id : ℕ) (received bytes : List ℕ) (progress : Progress) → phase_of old id ≡ Some (Reading received)
    → hub_step old (Receive id bytes (Ok progress)) new → HasReceived old id (received ++ bytes) progress new
receives old new id received bytes progress found step = by_receive old new id (phase_of old id) old.has_file received bytes progress found found step

-- ---- pull
by_pull : (old new : HubState) (id size : ℕ) (phase : Option Phase) (has_file : Bool) (rest : List ℕ) (given : Given)
    → phase ≡ Some (Sending rest) → phase_of old id ≡ Some (Sending rest)
    → pull_step phase has_file old id size (Ok given) new → HasPulled id rest size given new
by_pull old new id size None has_file rest given e found step = cc
by_pull old new id size (Some phase) false rest given e found step = let no : Ok given ≡ Err NoFile = step.0 in cc
by_pull old new id size (Some (Reading received)) true rest given e found step = cc
by_pull old new id size (Some (Sending other)) true rest given e found step =
    let same : other ≡ rest = cc in
    record {
      bytes = ap (λ (g : Given). g.bytes) step.0 ∙ ap (take size) same;
      done = ap (λ (g : Given). g.done) step.0 ∙ ap (λ (l : List ℕ). is_nothing (drop size l)) same;
      left =
          phase_after id new _ step.1 ∙ moved old id (Sending rest) (Sending (drop size other)) found
          ∙ ap (λ (l : List ℕ). Some (Sending (drop size l))) same;
    }

pub pulls : (old new : HubState) (id size : ℕ) (rest : List ℕ) (given : Given) → phase_of old id ≡ Some (Sending rest)
    → hub_step old (Pull id size (Ok given)) new → HasPulled id rest size given new
pulls old new id size rest given found step = by_pull old new id size (phase_of old id) old.has_file rest given found found step

-- ---- close
by_close : (old new : HubState) (id : ℕ) (phase : Option Phase) (answer : Result ⊤ HubFault) → phase ≡ phase_of old id
    → close_step phase old id answer new → phase_of new id ≡ None
by_close old new id None answer e step = phase_after id new old step.1 ∙ sym e
by_close old new id (Some phase) answer e step = phase_after id new (without_session id old) step.1 ∙ removed id old.sessions

pub closes : (old new : HubState) (id : ℕ) (answer : Result ⊤ HubFault) → hub_step old (Close id answer) new → phase_of new id ≡ None
closes old new id answer step = by_close old new id (phase_of old id) answer refl step

-- ---- the file
by_rest : (old new : HubState) → KeepsTheRest old new → KeepsFile old new
by_rest old new keeps =
    keeps.1
    ∙ ap (λ (s : List Session). record old { sessions = s }) (sym (ap (λ (h : HubState). h.sessions) keeps.1))
    ∙ ap (λ (n : ℕ). record old { sessions = new.sessions; next_id = n }) (sym (ap (λ (h : HubState). h.next_id) keeps.1))

by_connect : (old new : HubState) (answer : Result ℕ HubFault) → connect_step old answer new → KeepsFile old new
by_connect old new (Ok id) step =
    step.2
    ∙ ap (λ (s : List Session). record old { sessions = s; next_id = old.next_id + 1 }) (sym (ap (λ (h : HubState). h.sessions) step.2))
    ∙ ap (λ (n : ℕ). record old { sessions = new.sessions; next_id = n }) (sym (ap (λ (h : HubState). h.next_id) step.2))
by_connect old new (Err SessionsFull) step = by_rest old new (old.sessions, step.1)
by_connect old new (Err Memory) step = by_rest old new (old.sessions, step.1)
by_connect old new (Err NoSession) step = absurd step
by_connect old new (Err Source) step = absurd step
by_connect old new (Err NoFile) step = absurd step

pub keeps_file : (old new : HubState) (event : Event) (id : ℕ) → hub_step old event new → session_of event ≡ Some id → KeepsFile old new
keeps_file old new (Connect answer) id step own = by_connect old new answer step
keeps_file old new (Receive other bytes answer) id step own =
    by_rest old new (receive_keeps old new other (phase_of old other) old.has_file bytes answer step)
keeps_file old new (Pull other size answer) id step own = by_rest old new (pull_keeps old new other (phase_of old other) old.has_file size answer step)
keeps_file old new (Close other answer) id step own = by_rest old new (close_keeps old new other (phase_of old other) answer step)
keeps_file old new (Record command answer) id step own = cc
keeps_file old new (Flush answer) id step own = cc
keeps_file old new (Group most) id step own = cc
keeps_file old new (Reopen found) id step own = cc
