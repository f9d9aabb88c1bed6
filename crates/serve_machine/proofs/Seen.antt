-- What a step is for one session.
use Rattle.std.proofs.Common.{◌≡◌, ℕ, ◌+◌, Bool, true, false, ◌&&◌, Option, Some, None, IsSome, Result, Ok, Err, List, [], ◌∷◌, ◌++◌, take, drop, refl, sym, ◌∙◌, ap, subst, inl, inr}
use Rattle.std.specs.Prelude.{nat_eq, is_some, ⊤}
use Rattle.std.proofs.lemmas.Bool.{cond-true, cond-false, eqb-true, cases_Bool}
use Rattle.ogg_command.specs.declared.command.Command.{Command}
use Rattle.ogg_command.specs.declared.refusal.Refusal.{Refusal}
use Rattle.ogg_command.specs.declared.refusal.Refusal.TheVariants.{Failed as FailedOf, Memory as NoRoom, Disk}
use Rattle.feed_replies.specs.declared.reply.Kept.{Kept}
use Rattle.serve_machine.specs.declared.fault.HubFault.{HubFault}
use Rattle.serve_machine.specs.declared.fault.HubFault.TheVariants.{NoSession, SessionsFull, Source, Memory, NoFile}
use Rattle.feed_replies.specs.declared.outcome.Outcome.{Outcome}
use Rattle.feed_replies.specs.declared.outcome.Outcome.TheVariants.{Held as WasHeld, Kept as WasKept}
use Rattle.serve_machine.specs.declared.answers.Progress.{Progress}
use Rattle.serve_machine.specs.declared.answers.Progress.TheVariants.{More, Ready}
use Rattle.serve_responses.specs.Response.{IsResponse}
use Rattle.serve_machine.specs.Hub.{HubState, Phase, Reading, Sending, Session, Given, Event, Connect, Receive, Pull, Close, Record, Flush, Group, Reopen, hub_step, phase_in, phase_of, with_phase, without_session, with_session, connect_step, head_step, receive_step, send_step, pull_step, close_step, command_step, flush_step, group_step, reopen_step, is_nothing}
use Rattle.serve_machine.specs.Run.{Received, Pulled, own_call, given_by, says_done, completes}
use Rattle.serve_machine.proofs.Sessions.{same_number, changed, others_unchanged, removed, others_not_removed, added, others_as_before}

-- the step is none of the session's own
pub record IsSilent (id : ℕ) (event : Event) : Type 0 where
  pub own : own_call id event ≡ []
  pub given : given_by id event ≡ []
  pub not_done : says_done id event ≡ false
  pub not_complete : completes id event ≡ false

-- what a step is for the session with this number
pub data Seen (id : ℕ) (event : Event) (old new : HubState) : Type 0 where
  Passes : (silent : IsSilent id event) (same : phase_of new id ≡ phase_of old id) → Seen id event old new
  Begins : (silent : IsSilent id event) (number : id ≡ old.next_id) (later : new.next_id ≡ old.next_id + 1) (begun : phase_of old id ≡ None → phase_of new id ≡ Some (Reading [])) → Seen id event old new
  Ends : (silent : IsSilent id event) (was : IsSome (phase_of old id)) (gone : phase_of new id ≡ None) → Seen id event old new
  Reads : (received bytes : List ℕ) (was : phase_of old id ≡ Some (Reading received)) (own : own_call id event ≡ Received bytes More ∷ [])
      (given : given_by id event ≡ []) (not_done : says_done id event ≡ false) (not_complete : completes id event ≡ false)
      (now : phase_of new id ≡ Some (Reading (received ++ bytes))) → Seen id event old new
  Finishes : (received bytes response : List ℕ) (was : phase_of old id ≡ Some (Reading received)) (own : own_call id event ≡ Received bytes Ready ∷ [])
      (given : given_by id event ≡ []) (not_done : says_done id event ≡ false) (complete : completes id event ≡ true)
      (is_response : IsResponse new.committed (received ++ bytes) response) (now : phase_of new id ≡ Some (Sending response)) → Seen id event old new
  Ignores : (rest bytes : List ℕ) (was : phase_of old id ≡ Some (Sending rest)) (own : own_call id event ≡ Received bytes Ready ∷ [])
      (given : given_by id event ≡ []) (not_done : says_done id event ≡ false) (now : phase_of new id ≡ Some (Sending rest)) → Seen id event old new
  Waits : (received : List ℕ) (size : ℕ) (was : phase_of old id ≡ Some (Reading received)) (own : own_call id event ≡ Pulled size ∷ [])
      (given : given_by id event ≡ []) (not_done : says_done id event ≡ false) (not_complete : completes id event ≡ false)
      (now : phase_of new id ≡ Some (Reading received)) → Seen id event old new
  Sends : (rest : List ℕ) (size : ℕ) (was : phase_of old id ≡ Some (Sending rest)) (own : own_call id event ≡ Pulled size ∷ [])
      (given : given_by id event ≡ take size rest) (done : says_done id event ≡ is_nothing (drop size rest)) (not_complete : completes id event ≡ false)
      (now : phase_of new id ≡ Some (Sending (drop size rest))) → Seen id event old new

phase_after : (id : ℕ) (new other : HubState) → new ≡ other → phase_of new id ≡ phase_of other id
phase_after id new other e = ap (λ (h : HubState). phase_of h id) e

-- ---- receive
-- a call of another session
silent_receive : (id other : ℕ) (bytes : List ℕ) (answer : Result Progress HubFault) → nat_eq other id ≡ false → IsSilent id (Receive other bytes answer)
silent_receive id other bytes (Ok More) apart =
    record { own = cond-false (nat_eq other id) (Received bytes More ∷ []) [] apart; given = refl; not_done = refl; not_complete = refl }
silent_receive id other bytes (Ok Ready) apart =
    record { own = cond-false (nat_eq other id) (Received bytes Ready ∷ []) [] apart; given = refl; not_done = refl; not_complete = apart }
silent_receive id other bytes (Err fault) apart = record { own = refl; given = refl; not_done = refl; not_complete = refl }

other_head : (id other : ℕ) (old new : HubState) (received : List ℕ) (answer : Result Progress HubFault) → nat_eq other id ≡ false
    → head_step old other received answer new → phase_of new id ≡ phase_of old id
other_head id other old new received (Ok More) apart step =
    phase_after id new (with_phase other (Reading received) old) step.1 ∙ others_unchanged other id (Reading received) old.sessions apart
other_head id other old new received (Ok Ready) apart step =
    phase_after id new (with_phase other (Sending step.0) old) step.2 ∙ others_unchanged other id (Sending step.0) old.sessions apart
other_head id other old new received (Err Source) apart step =
    phase_after id new (without_session other old) step.2 ∙ others_not_removed other id old.sessions apart
other_head id other old new received (Err Memory) apart step = phase_after id new old step
other_head id other old new received (Err NoSession) apart step = absurd step
other_head id other old new received (Err SessionsFull) apart step = absurd step
other_head id other old new received (Err NoFile) apart step = absurd step

pub other_receive : (id other : ℕ) (phase : Option Phase) (has_file : Bool) (old new : HubState) (bytes : List ℕ) (answer : Result Progress HubFault) → nat_eq other id ≡ false
    → receive_step phase has_file old other bytes answer new → phase_of new id ≡ phase_of old id
other_receive id other None has_file old new bytes answer apart step = phase_after id new old step.1
other_receive id other (Some phase) false old new bytes answer apart step = phase_after id new old step.1
other_receive id other (Some (Reading received)) true old new bytes answer apart step = other_head id other old new (received ++ bytes) answer apart step
other_receive id other (Some (Sending rest)) true old new bytes answer apart step = phase_after id new old step.1

-- a call of the session itself
refused_receive : (id : ℕ) (bytes : List ℕ) (fault : HubFault) → IsSilent id (Receive id bytes (Err fault))
refused_receive id bytes fault = record { own = refl; given = refl; not_done = refl; not_complete = refl }

own_head : (id : ℕ) (old new : HubState) (received bytes : List ℕ) (answer : Result Progress HubFault) → phase_of old id ≡ Some (Reading received)
    → head_step old id (received ++ bytes) answer new → Seen id (Receive id bytes answer) old new
own_head id old new received bytes (Ok More) was step =
    Reads received bytes was (cond-true (nat_eq id id) (Received bytes More ∷ []) [] (same_number id)) refl refl refl
    (phase_after id new (with_phase id (Reading (received ++ bytes)) old) step.1 ∙ changed id (Reading received) (Reading (received ++ bytes)) old.sessions was)
own_head id old new received bytes (Ok Ready) was step =
    Finishes received bytes step.0 was (cond-true (nat_eq id id) (Received bytes Ready ∷ []) [] (same_number id)) refl refl (same_number id)
    (subst (λ (h : HubState). IsResponse h.committed (received ++ bytes) step.0) (sym step.2) step.1)
    (phase_after id new (with_phase id (Sending step.0) old) step.2 ∙ changed id (Reading received) (Sending step.0) old.sessions was)
own_head id old new received bytes (Err Source) was step =
    Ends (refused_receive id bytes Source) (ap (λ (o : Option Phase). is_some o) was) (phase_after id new (without_session id old) step.2 ∙ removed id old.sessions)
own_head id old new received bytes (Err Memory) was step = Passes (refused_receive id bytes Memory) (phase_after id new old step)
own_head id old new received bytes (Err NoSession) was step = absurd step
own_head id old new received bytes (Err SessionsFull) was step = absurd step
own_head id old new received bytes (Err NoFile) was step = absurd step

own_receive : (id : ℕ) (phase : Option Phase) (has_file : Bool) (old new : HubState) (bytes : List ℕ) (answer : Result Progress HubFault) → phase_of old id ≡ phase
    → receive_step phase has_file old id bytes answer new → Seen id (Receive id bytes answer) old new
own_receive id None has_file old new bytes answer was step =
    subst (λ (a : Result Progress HubFault). Seen id (Receive id bytes a) old new) (sym step.0) (Passes (refused_receive id bytes NoSession) (phase_after id new old step.1))
own_receive id (Some phase) false old new bytes answer was step =
    subst (λ (a : Result Progress HubFault). Seen id (Receive id bytes a) old new) (sym step.0) (Passes (refused_receive id bytes NoFile) (phase_after id new old step.1))
own_receive id (Some (Reading received)) true old new bytes answer was step = own_head id old new received bytes answer was step
own_receive id (Some (Sending rest)) true old new bytes answer was step =
    subst (λ (a : Result Progress HubFault). Seen id (Receive id bytes a) old new) (sym step.0)
    (Ignores rest bytes was (cond-true (nat_eq id id) (Received bytes Ready ∷ []) [] (same_number id)) refl refl (phase_after id new old step.1 ∙ was))

-- ---- pull
silent_pull : (id other size : ℕ) (answer : Result Given HubFault) → nat_eq other id ≡ false → IsSilent id (Pull other size answer)
silent_pull id other size (Ok given) apart =
    record {
      own = cond-false (nat_eq other id) (Pulled size ∷ []) [] apart;
      given = cond-false (nat_eq other id) given.bytes [] apart;
      not_done = ap (λ b. b && given.done) apart;
      not_complete = refl;
    }
silent_pull id other size (Err fault) apart = record { own = refl; given = refl; not_done = refl; not_complete = refl }

other_send : (id other : ℕ) (old new : HubState) (rest : List ℕ) (size : ℕ) (answer : Result Given HubFault) → nat_eq other id ≡ false
    → send_step old other rest size answer new → phase_of new id ≡ phase_of old id
other_send id other old new rest size (Ok given) apart step =
    phase_after id new (with_phase other (Sending (drop size rest)) old) step.1 ∙ others_unchanged other id (Sending (drop size rest)) old.sessions apart
other_send id other old new rest size (Err Source) apart step =
    phase_after id new (without_session other old) step.1 ∙ others_not_removed other id old.sessions apart
other_send id other old new rest size (Err NoSession) apart step = absurd step
other_send id other old new rest size (Err SessionsFull) apart step = absurd step
other_send id other old new rest size (Err Memory) apart step = absurd step
other_send id other old new rest size (Err NoFile) apart step = absurd step

pub other_pull : (id other : ℕ) (phase : Option Phase) (has_file : Bool) (old new : HubState) (size : ℕ) (answer : Result Given HubFault) → nat_eq other id ≡ false
    → pull_step phase has_file old other size answer new → phase_of new id ≡ phase_of old id
other_pull id other None has_file old new size answer apart step = phase_after id new old step.1
other_pull id other (Some phase) false old new size answer apart step = phase_after id new old step.1
other_pull id other (Some (Reading received)) true old new size answer apart step = phase_after id new old step.1
other_pull id other (Some (Sending rest)) true old new size answer apart step = other_send id other old new rest size answer apart step

refused_pull : (id size : ℕ) (fault : HubFault) → IsSilent id (Pull id size (Err fault))
refused_pull id size fault = record { own = refl; given = refl; not_done = refl; not_complete = refl }

own_send : (id : ℕ) (old new : HubState) (rest : List ℕ) (size : ℕ) (answer : Result Given HubFault) → phase_of old id ≡ Some (Sending rest)
    → send_step old id rest size answer new → Seen id (Pull id size answer) old new
own_send id old new rest size (Ok given) was step =
    Sends rest size was (cond-true (nat_eq id id) (Pulled size ∷ []) [] (same_number id))
    (cond-true (nat_eq id id) given.bytes [] (same_number id) ∙ ap (λ (g : Given). g.bytes) step.0)
    (ap (λ b. b && given.done) (same_number id) ∙ ap (λ (g : Given). g.done) step.0)
    refl
    (phase_after id new (with_phase id (Sending (drop size rest)) old) step.1 ∙ changed id (Sending rest) (Sending (drop size rest)) old.sessions was)
own_send id old new rest size (Err Source) was step =
    Ends (refused_pull id size Source) (ap (λ (o : Option Phase). is_some o) was) (phase_after id new (without_session id old) step.1 ∙ removed id old.sessions)
own_send id old new rest size (Err NoSession) was step = absurd step
own_send id old new rest size (Err SessionsFull) was step = absurd step
own_send id old new rest size (Err Memory) was step = absurd step
own_send id old new rest size (Err NoFile) was step = absurd step

own_pull : (id : ℕ) (phase : Option Phase) (has_file : Bool) (old new : HubState) (size : ℕ) (answer : Result Given HubFault) → phase_of old id ≡ phase
    → pull_step phase has_file old id size answer new → Seen id (Pull id size answer) old new
own_pull id None has_file old new size answer was step =
    subst (λ (a : Result Given HubFault). Seen id (Pull id size a) old new) (sym step.0) (Passes (refused_pull id size NoSession) (phase_after id new old step.1))
own_pull id (Some phase) false old new size answer was step =
    subst (λ (a : Result Given HubFault). Seen id (Pull id size a) old new) (sym step.0) (Passes (refused_pull id size NoFile) (phase_after id new old step.1))
own_pull id (Some (Reading received)) true old new size answer was step =
    subst (λ (a : Result Given HubFault). Seen id (Pull id size a) old new) (sym step.0)
    (Waits received size was (cond-true (nat_eq id id) (Pulled size ∷ []) [] (same_number id))
    (cond-true (nat_eq id id) [] [] (same_number id)) (ap (λ b. b && false) (same_number id)) refl (phase_after id new old step.1 ∙ was))
own_pull id (Some (Sending rest)) true old new size answer was step = own_send id old new rest size answer was step

-- ---- close
pub other_close : (id other : ℕ) (phase : Option Phase) (old new : HubState) (answer : Result ⊤ HubFault) → nat_eq other id ≡ false
    → close_step phase old other answer new → phase_of new id ≡ phase_of old id
other_close id other None old new answer apart step = phase_after id new old step.1
other_close id other (Some phase) old new answer apart step = phase_after id new (without_session other old) step.1 ∙ others_not_removed other id old.sessions apart

silent_close : (id other : ℕ) (answer : Result ⊤ HubFault) → IsSilent id (Close other answer)
silent_close id other answer = record { own = refl; given = refl; not_done = refl; not_complete = refl }

own_close : (id : ℕ) (phase : Option Phase) (old new : HubState) (answer : Result ⊤ HubFault) → phase_of old id ≡ phase
    → close_step phase old id answer new → Seen id (Close id answer) old new
own_close id None old new answer was step = Passes (silent_close id id answer) (phase_after id new old step.1)
own_close id (Some phase) old new answer was step =
    Ends (silent_close id id answer) (ap (λ (o : Option Phase). is_some o) was) (phase_after id new (without_session id old) step.1 ∙ removed id old.sessions)

-- ---- connect
silent_connect : (id : ℕ) (answer : Result ℕ HubFault) → IsSilent id (Connect answer)
silent_connect id answer = record { own = refl; given = refl; not_done = refl; not_complete = refl }

seen_connect : (id : ℕ) (old new : HubState) (answer : Result ℕ HubFault) → connect_step old answer new → Seen id (Connect answer) old new
seen_connect id old new (Ok other) step =
    elim (cases_Bool (nat_eq old.next_id id)) [
      | inl e ↦
          let number : id ≡ old.next_id = sym (eqb-true old.next_id id e) in
          Begins (silent_connect id (Ok other)) number (ap (λ (h : HubState). h.next_id) step.2)
          (λ none. phase_after id new (with_session old) step.2
          ∙ subst (λ k. phase_of old id ≡ None → phase_of (record old { sessions = old.sessions ++ record { id = k; phase = Reading [] } ∷ []; next_id = old.next_id + 1 }) id ≡ Some (Reading []))
          number (added id (Reading []) old.sessions) none)
      | inr apart ↦
          Passes (silent_connect id (Ok other)) (phase_after id new (with_session old) step.2 ∙ others_as_before old.next_id id (Reading []) old.sessions apart)
    ]
seen_connect id old new (Err SessionsFull) step = Passes (silent_connect id (Err SessionsFull)) (phase_after id new old step.1)
seen_connect id old new (Err Memory) step = Passes (silent_connect id (Err Memory)) (phase_after id new old step.1)
seen_connect id old new (Err NoSession) step = absurd step
seen_connect id old new (Err Source) step = absurd step
seen_connect id old new (Err NoFile) step = absurd step

-- ---- the recorder's calls: no session is in them
pub command_sessions : (old new : HubState) (command : Command) (answer : Result Outcome Refusal) → command_step old command answer new → (new.sessions ≡ old.sessions) × (new.next_id ≡ old.next_id)
command_sessions old new command (Ok (WasHeld count)) step = (ap (λ (h : HubState). h.sessions) step.5, ap (λ (h : HubState). h.next_id) step.5)
command_sessions old new command (Ok (WasKept kept)) step = (ap (λ (h : HubState). h.sessions) step.5, ap (λ (h : HubState). h.next_id) step.5)
command_sessions old new command (Err FailedOf) step = (ap (λ (h : HubState). h.sessions) step.1, ap (λ (h : HubState). h.next_id) step.1)
command_sessions old new command (Err NoRoom) step = (ap (λ (h : HubState). h.sessions) step.3, ap (λ (h : HubState). h.next_id) step.3)
command_sessions old new command (Err Disk) step = (ap (λ (h : HubState). h.sessions) step.3, ap (λ (h : HubState). h.next_id) step.3)
command_sessions old new command (Err _) step = (ap (λ (h : HubState). h.sessions) step.2, ap (λ (h : HubState). h.next_id) step.2)

pub flush_sessions : (old new : HubState) (answer : Result Kept Refusal) → flush_step old answer new → (new.sessions ≡ old.sessions) × (new.next_id ≡ old.next_id)
flush_sessions old new (Ok kept) step = (ap (λ (h : HubState). h.sessions) step.2, ap (λ (h : HubState). h.next_id) step.2)
flush_sessions old new (Err FailedOf) step = (ap (λ (h : HubState). h.sessions) step.1, ap (λ (h : HubState). h.next_id) step.1)
flush_sessions old new (Err Disk) step = (ap (λ (h : HubState). h.sessions) step.2, ap (λ (h : HubState). h.next_id) step.2)
flush_sessions old new (Err _) step = absurd step

pub group_sessions : (old new : HubState) (most : ℕ) → group_step old most new → (new.sessions ≡ old.sessions) × (new.next_id ≡ old.next_id)
group_sessions old new most step = (ap (λ (h : HubState). h.sessions) step.4, ap (λ (h : HubState). h.next_id) step.4)

pub reopen_sessions : (old new : HubState) (found : Option (List ℕ)) → reopen_step old found new → (new.sessions ≡ old.sessions) × (new.next_id ≡ old.next_id)
reopen_sessions old new None step = (ap (λ (h : HubState). h.sessions) step, ap (λ (h : HubState). h.next_id) step)
reopen_sessions old new (Some found) step = (ap (λ (h : HubState). h.sessions) step.1, ap (λ (h : HubState). h.next_id) step.1)

-- ---- any step
pub same_sessions : (id : ℕ) (old new : HubState) → new.sessions ≡ old.sessions → phase_of new id ≡ phase_of old id
same_sessions id old new e = ap (λ (l : List Session). phase_in id l) e

pub seen : (id : ℕ) (old new : HubState) (event : Event) → hub_step old event new → Seen id event old new
seen id old new (Connect answer) step = seen_connect id old new answer step
seen id old new (Receive other bytes answer) step =
    elim (cases_Bool (nat_eq other id)) [
      | inl e ↦
          let here : other ≡ id = eqb-true other id e in
          subst (λ k. Seen id (Receive k bytes answer) old new) (sym here)
          (own_receive id (phase_of old id) old.has_file old new bytes answer refl
          (subst (λ k. receive_step (phase_of old k) old.has_file old k bytes answer new) here step))
      | inr apart ↦ Passes (silent_receive id other bytes answer apart) (other_receive id other (phase_of old other) old.has_file old new bytes answer apart step)
    ]
seen id old new (Pull other size answer) step =
    elim (cases_Bool (nat_eq other id)) [
      | inl e ↦
          let here : other ≡ id = eqb-true other id e in
          subst (λ k. Seen id (Pull k size answer) old new) (sym here)
          (own_pull id (phase_of old id) old.has_file old new size answer refl
          (subst (λ k. pull_step (phase_of old k) old.has_file old k size answer new) here step))
      | inr apart ↦ Passes (silent_pull id other size answer apart) (other_pull id other (phase_of old other) old.has_file old new size answer apart step)
    ]
seen id old new (Close other answer) step =
    elim (cases_Bool (nat_eq other id)) [
      | inl e ↦
          let here : other ≡ id = eqb-true other id e in
          subst (λ k. Seen id (Close k answer) old new) (sym here)
          (own_close id (phase_of old id) old new answer refl
          (subst (λ k. close_step (phase_of old k) old k answer new) here step))
      | inr apart ↦ Passes (silent_close id other answer) (other_close id other (phase_of old other) old new answer apart step)
    ]
seen id old new (Record command answer) step =
    Passes (record { own = refl; given = refl; not_done = refl; not_complete = refl }) (same_sessions id old new (command_sessions old new command answer step).0)
seen id old new (Flush answer) step =
    Passes (record { own = refl; given = refl; not_done = refl; not_complete = refl }) (same_sessions id old new (flush_sessions old new answer step).0)
seen id old new (Group most) step =
    Passes (record { own = refl; given = refl; not_done = refl; not_complete = refl }) (same_sessions id old new (group_sessions old new most step).0)
seen id old new (Reopen found) step =
    Passes (record { own = refl; given = refl; not_done = refl; not_complete = refl }) (same_sessions id old new (reopen_sessions old new found step).0)
