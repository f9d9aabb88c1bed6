-- When a call of a session is refused.
use Rattle.std.proofs.Common.{◌≡◌, ◌≢◌, ◌⊎◌, ◌↔◌, ℕ, ◌≤◌, ◌^◌, Bool, true, false, Option, Some, None, IsSome, Result, Ok, Err, List, ◌++◌, length, refl, sym, inl, inr, true≢false}
use Rattle.std.specs.Prelude.{nat_le, ⊤}
use Rattle.std.proofs.lemmas.Bool.{or_cases, or_left, or_right, leb-true, le-leb, both_ways}
use Rattle.serve_machine.specs.declared.fault.HubFault.{HubFault}
use Rattle.serve_machine.specs.declared.fault.HubFault.TheVariants.{NoSession, SessionsFull, Source, Memory, NoFile}
use Rattle.serve_machine.specs.declared.answers.Progress.{Progress}
use Rattle.serve_machine.specs.Hub.{HubState, Phase, Reading, Sending, Given, is_full, connect_step, head_step, receive_step, send_step, pull_step, close_step}

-- ---- connect
full_is : (old : HubState) → is_full old ≡ true → (old.room ≤ length old.sessions) ⊎ (2 ^ 64 ≤ old.next_id)
full_is old e =
    elim (or_cases (nat_le old.room (length old.sessions)) (nat_le (2 ^ 64) old.next_id) e) [
      | inl many ↦ inl (leb-true old.room (length old.sessions) many)
      | inr last ↦ inr (leb-true (2 ^ 64) old.next_id last)
    ]

is_full_by : (old : HubState) → (old.room ≤ length old.sessions) ⊎ (2 ^ 64 ≤ old.next_id) → is_full old ≡ true
is_full_by old (inl many) = or_left (nat_le old.room (length old.sessions)) (nat_le (2 ^ 64) old.next_id) (le-leb old.room (length old.sessions) many)
is_full_by old (inr last) = or_right (nat_le old.room (length old.sessions)) (nat_le (2 ^ 64) old.next_id) (le-leb (2 ^ 64) old.next_id last)

when_full : (old new : HubState) (answer : Result ℕ HubFault) → connect_step old answer new → is_full old ≡ true → answer ≡ Err SessionsFull
when_full old new (Ok id) step full = absurd (both_ways (is_full old) step.0 full)
when_full old new (Err SessionsFull) step full = refl
when_full old new (Err Memory) step full = absurd (both_ways (is_full old) step.0 full)
when_full old new (Err NoSession) step full = absurd step
when_full old new (Err Source) step full = absurd step
when_full old new (Err NoFile) step full = absurd step

said_full : (old new : HubState) (answer : Result ℕ HubFault) → connect_step old answer new → answer ≡ Err SessionsFull → is_full old ≡ true
said_full old new (Ok id) step e = cc
said_full old new (Err SessionsFull) step e = step.0
said_full old new (Err Memory) step e = cc
said_full old new (Err NoSession) step e = absurd step
said_full old new (Err Source) step e = absurd step
said_full old new (Err NoFile) step e = absurd step

pub full_exactly : (old new : HubState) (answer : Result ℕ HubFault) → connect_step old answer new
    → (answer ≡ Err SessionsFull) ↔ ((old.room ≤ length old.sessions) ⊎ (2 ^ 64 ≤ old.next_id))
full_exactly old new answer step = (λ e. full_is old (said_full old new answer step e), λ full. when_full old new answer step (is_full_by old full))

-- ---- receive
abbrev RefusedExactly : {T : Type 0} → Option Phase → Bool → Result T HubFault → Type 0
RefusedExactly phase has_file answer =
    ((answer ≡ Err NoSession) ↔ (phase ≡ None)) × ((answer ≡ Err NoFile) ↔ (IsSome phase × (has_file ≡ false)))

-- the call is refused neither for want of a session nor for want of a file
abbrev NeitherRefused : {T : Type 0} → Result T HubFault → Type 0
NeitherRefused answer = (answer ≢ Err NoSession) × (answer ≢ Err NoFile)

without_either : {T : Type 0} (phase : Phase) (answer : Result T HubFault) → NeitherRefused answer → RefusedExactly (Some phase) true answer
without_either phase answer neither =
    ((λ e. absurd (neither.0 e), λ none. cc), (λ e. absurd (neither.1 e), λ lost. absurd (true≢false lost.1)))

when_none : {T : Type 0} (has_file : Bool) (answer : Result T HubFault) → answer ≡ Err NoSession → RefusedExactly None has_file answer
when_none has_file answer e = ((λ f. refl, λ none. e), (λ f. cc, λ lost. absurd (true≢false (sym lost.0))))

when_lost : {T : Type 0} (phase : Phase) (answer : Result T HubFault) → answer ≡ Err NoFile → RefusedExactly (Some phase) false answer
when_lost phase answer e = ((λ f. cc, λ none. cc), (λ f. (refl, refl), λ lost. e))

head_neither : (old new : HubState) (id : ℕ) (received : List ℕ) (answer : Result Progress HubFault) → head_step old id received answer new → NeitherRefused answer
head_neither old new id received (Ok progress) step = (λ e. cc, λ e. cc)
head_neither old new id received (Err Source) step = (λ e. cc, λ e. cc)
head_neither old new id received (Err Memory) step = (λ e. cc, λ e. cc)
head_neither old new id received (Err NoSession) step = absurd step
head_neither old new id received (Err SessionsFull) step = absurd step
head_neither old new id received (Err NoFile) step = absurd step

pub receive_exactly : (old new : HubState) (id : ℕ) (phase : Option Phase) (has_file : Bool) (bytes : List ℕ) (answer : Result Progress HubFault)
    → receive_step phase has_file old id bytes answer new → RefusedExactly phase has_file answer
receive_exactly old new id None has_file bytes answer step = when_none has_file answer step.0
receive_exactly old new id (Some phase) false bytes answer step = when_lost phase answer step.0
receive_exactly old new id (Some (Reading received)) true bytes answer step = without_either (Reading received) answer (head_neither old new id (received ++ bytes) answer step)
receive_exactly old new id (Some (Sending rest)) true bytes answer step = without_either (Sending rest) answer (λ e. cc, λ e. cc)

-- ---- pull
send_neither : (old new : HubState) (id : ℕ) (rest : List ℕ) (size : ℕ) (answer : Result Given HubFault) → send_step old id rest size answer new → NeitherRefused answer
send_neither old new id rest size (Ok given) step = (λ e. cc, λ e. cc)
send_neither old new id rest size (Err Source) step = (λ e. cc, λ e. cc)
send_neither old new id rest size (Err Memory) step = absurd step
send_neither old new id rest size (Err NoSession) step = absurd step
send_neither old new id rest size (Err SessionsFull) step = absurd step
send_neither old new id rest size (Err NoFile) step = absurd step

pub pull_exactly : (old new : HubState) (id : ℕ) (phase : Option Phase) (has_file : Bool) (size : ℕ) (answer : Result Given HubFault)
    → pull_step phase has_file old id size answer new → RefusedExactly phase has_file answer
pull_exactly old new id None has_file size answer step = when_none has_file answer step.0
pull_exactly old new id (Some phase) false size answer step = when_lost phase answer step.0
pull_exactly old new id (Some (Reading received)) true size answer step = without_either (Reading received) answer (λ e. cc, λ e. cc)
pull_exactly old new id (Some (Sending rest)) true size answer step = without_either (Sending rest) answer (send_neither old new id rest size answer step)

-- ---- close
pub close_exactly : (old new : HubState) (id : ℕ) (phase : Option Phase) (answer : Result ⊤ HubFault) → close_step phase old id answer new → (answer ≡ Err NoSession) ↔ (phase ≡ None)
close_exactly old new id None answer step = (λ e. refl, λ none. step.0)
close_exactly old new id (Some phase) answer step = (λ e. cc, λ none. cc)
