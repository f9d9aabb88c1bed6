-- The numbers of sessions, and what no call of a session changes.
use Rattle.std.proofs.Common.{◌≡◌, ◌⊎◌, ℕ, ◌+◌, ◌≤◌, ◌<◌, ◌^◌, Bool, true, false, Option, Some, None, Result, Ok, Err, List, [], ◌∷◌, ◌++◌, length, refl, sym, ◌∙◌, ap, arith, inl, inr}
use Rattle.std.specs.Prelude.{nat_le, ⊤}
use Rattle.std.specs.List.{range_with_len}
use Rattle.std.proofs.lemmas.Bool.{or_parts, leb-false}
use Rattle.serve_machine.specs.declared.fault.HubFault.{HubFault}
use Rattle.serve_machine.specs.declared.fault.HubFault.TheVariants.{NoSession, SessionsFull, Source, Memory, NoFile}
use Rattle.serve_machine.specs.declared.answers.Progress.{Progress}
use Rattle.serve_machine.specs.declared.answers.Progress.TheVariants.{More, Ready}
use Rattle.serve_machine.specs.Hub.{HubState, Phase, Reading, Sending, Session, Given, Event, Connect, Receive, Pull, Close, Record, Flush, Group, Reopen, hub_step, phase_of, with_phase_in, without_in, connect_step, head_step, receive_step, send_step, pull_step, close_step}
use Rattle.serve_machine.specs.Run.{Step, AreSteps, connected, all_connected}
use Rattle.serve_machine.proofs.Seen.{command_sessions, flush_sessions, group_sessions, reopen_sessions}

-- everything but the sessions stays
abbrev pub KeepsTheRest : HubState → HubState → Type 0
KeepsTheRest old new = (sessions : List Session) × (new ≡ record old { sessions = sessions })

head_keeps : (old new : HubState) (id : ℕ) (received : List ℕ) (answer : Result Progress HubFault) → head_step old id received answer new → KeepsTheRest old new
head_keeps old new id received (Ok More) step = (with_phase_in id (Reading received) old.sessions, step.1)
head_keeps old new id received (Ok Ready) step = (with_phase_in id (Sending step.0) old.sessions, step.2)
head_keeps old new id received (Err Source) step = (without_in id old.sessions, step.2)
head_keeps old new id received (Err Memory) step = (old.sessions, step)
head_keeps old new id received (Err NoSession) step = absurd step
head_keeps old new id received (Err SessionsFull) step = absurd step
head_keeps old new id received (Err NoFile) step = absurd step

pub receive_keeps : (old new : HubState) (id : ℕ) (phase : Option Phase) (has_file : Bool) (bytes : List ℕ) (answer : Result Progress HubFault)
    → receive_step phase has_file old id bytes answer new → KeepsTheRest old new
receive_keeps old new id None has_file bytes answer step = (old.sessions, step.1)
receive_keeps old new id (Some phase) false bytes answer step = (old.sessions, step.1)
receive_keeps old new id (Some (Reading received)) true bytes answer step = head_keeps old new id (received ++ bytes) answer step
receive_keeps old new id (Some (Sending rest)) true bytes answer step = (old.sessions, step.1)

send_keeps : (old new : HubState) (id : ℕ) (rest : List ℕ) (size : ℕ) (answer : Result Given HubFault) → send_step old id rest size answer new → KeepsTheRest old new
send_keeps old new id rest size (Ok given) step = (with_phase_in id _ old.sessions, step.1)
send_keeps old new id rest size (Err Source) step = (without_in id old.sessions, step.1)
send_keeps old new id rest size (Err NoSession) step = absurd step
send_keeps old new id rest size (Err SessionsFull) step = absurd step
send_keeps old new id rest size (Err Memory) step = absurd step
send_keeps old new id rest size (Err NoFile) step = absurd step

pub pull_keeps : (old new : HubState) (id : ℕ) (phase : Option Phase) (has_file : Bool) (size : ℕ) (answer : Result Given HubFault)
    → pull_step phase has_file old id size answer new → KeepsTheRest old new
pull_keeps old new id None has_file size answer step = (old.sessions, step.1)
pull_keeps old new id (Some phase) false size answer step = (old.sessions, step.1)
pull_keeps old new id (Some (Reading received)) true size answer step = (old.sessions, step.1)
pull_keeps old new id (Some (Sending rest)) true size answer step = send_keeps old new id rest size answer step

pub close_keeps : (old new : HubState) (id : ℕ) (phase : Option Phase) (answer : Result ⊤ HubFault) → close_step phase old id answer new → KeepsTheRest old new
close_keeps old new id None answer step = (old.sessions, step.1)
close_keeps old new id (Some phase) answer step = (without_in id old.sessions, step.1)

-- ---- numbers
-- a step assigns the next number, or none
abbrev GivesNumber : HubState → Event → HubState → Type 0
GivesNumber old event new =
    ((connected event ≡ []) × (new.next_id ≡ old.next_id))
    ⊎ ((connected event ≡ old.next_id ∷ []) × (new.next_id ≡ old.next_id + 1) × (old.next_id < 2 ^ 64))

no_number : (old new : HubState) → KeepsTheRest old new → new.next_id ≡ old.next_id
no_number old new keeps = ap (λ (h : HubState). h.next_id) keeps.1

connect_number : (old new : HubState) (answer : Result ℕ HubFault) → connect_step old answer new → GivesNumber old (Connect answer) new
connect_number old new (Ok id) step =
    inr (
      ap (λ k. k ∷ []) step.1,
      ap (λ (h : HubState). h.next_id) step.2,
      leb-false (2 ^ 64) old.next_id (or_parts (nat_le old.room (length old.sessions)) (nat_le (2 ^ 64) old.next_id) step.0).1,
    )
connect_number old new (Err SessionsFull) step = inl (refl, ap (λ (h : HubState). h.next_id) step.1)
connect_number old new (Err Memory) step = inl (refl, ap (λ (h : HubState). h.next_id) step.1)
connect_number old new (Err NoSession) step = absurd step
connect_number old new (Err Source) step = absurd step
connect_number old new (Err NoFile) step = absurd step

pub number : (old new : HubState) (event : Event) → hub_step old event new → GivesNumber old event new
number old new (Connect answer) step = connect_number old new answer step
number old new (Receive id bytes answer) step = inl (refl, no_number old new (receive_keeps old new id (phase_of old id) old.has_file bytes answer step))
number old new (Pull id size answer) step = inl (refl, no_number old new (pull_keeps old new id (phase_of old id) old.has_file size answer step))
number old new (Close id answer) step = inl (refl, no_number old new (close_keeps old new id (phase_of old id) answer step))
number old new (Record command answer) step = inl (refl, (command_sessions old new command answer step).1)
number old new (Flush answer) step = inl (refl, (flush_sessions old new answer step).1)
number old new (Group most) step = inl (refl, (group_sessions old new most step).1)
number old new (Reopen found) step = inl (refl, (reopen_sessions old new found step).1)

pub numbers_rise : (old new : HubState) (event : Event) → hub_step old event new → old.next_id ≤ new.next_id
numbers_rise old new event step =
    elim (number old new event step) [
      | inl none ↦ omega (arith, none.1)
      | inr one ↦ omega (arith, one.1)
    ]

-- the numbers rise one by one
pub in_a_row : (old : HubState) (steps : List Step) → AreSteps old steps → all_connected steps ≡ range_with_len old.next_id (length (all_connected steps))
in_a_row old [] are = refl
in_a_row old (step ∷ steps) are =
    let later = in_a_row step.after steps are.1 in
    elim (number old step.after step.event are.0) [
      | inl none ↦
          let all : all_connected (step ∷ steps) ≡ all_connected steps = ap (λ l. l ++ all_connected steps) none.0 in
          all ∙ later ∙ ap (λ k. range_with_len k (length (all_connected steps))) none.1 ∙ ap (λ (l : List ℕ). range_with_len old.next_id (length l)) (sym all)
      | inr one ↦
          let all : all_connected (step ∷ steps) ≡ old.next_id ∷ all_connected steps = ap (λ l. l ++ all_connected steps) one.0 in
          all ∙ ap (λ l. old.next_id ∷ l) (later ∙ ap (λ k. range_with_len k (length (all_connected steps))) one.1)
          ∙ ap (λ (l : List ℕ). range_with_len old.next_id (length l)) (sym all)
    ]
