-- The numbers of sessions rise, whichever calls of a hub come.
use Rattle.std.proofs.Common.{◌≡◌, ◌≤◌, ℕ, Bool, true, false, Option, Some, None, Result, Ok, Err, List, ◌++◌, ap, arith}
use Rattle.std.specs.Prelude.{⊤}
use Rattle.feed_replies.specs.declared.outcome.Outcome.{Outcome}
use Rattle.feed_replies.specs.declared.outcome.Outcome.TheVariants.{Held as WasHeld, Kept as WasKept}
use Rattle.feed_replies.specs.declared.reply.Kept.{Kept}
use Rattle.ogg_command.specs.declared.command.Command.{Command}
use Rattle.ogg_command.specs.declared.refusal.Refusal.{Refusal}
use Rattle.ogg_command.specs.declared.refusal.Refusal.TheVariants.{Failed as FailedOf, Memory as NoRoom, Disk}
use Rattle.serve_machine.specs.Hub.{Close, Connect, Event, Flush, Given, Group, HubState, Phase, Pull, Reading, Receive, Record, Reopen, Sending, close_step, command_step, connect_step, flush_step, head_step, hub_step, phase_of, pull_step, receive_step, reopen_step, send_step}
use Rattle.serve_machine.specs.declared.answers.Progress.{Progress}
use Rattle.serve_machine.specs.declared.answers.Progress.TheVariants.{More, Ready}
use Rattle.serve_machine.specs.declared.fault.HubFault.{HubFault}
use Rattle.serve_machine.specs.declared.fault.HubFault.TheVariants.{NoSession, SessionsFull, Source, Memory, NoFile}

same_number : (new other : HubState) → new ≡ other → new.next_id ≡ other.next_id
same_number new other e = ap (λ (hub : HubState). hub.next_id) e

head_number : (old new : HubState) (id : ℕ) (received : List ℕ) (answer : Result Progress HubFault) → head_step old id received answer new → new.next_id ≡ old.next_id
head_number old new id received (Ok More) step = same_number new _ step.1
head_number old new id received (Ok Ready) step = same_number new _ step.2
head_number old new id received (Err Source) step = same_number new _ step.2
head_number old new id received (Err Memory) step = same_number new _ step
head_number old new id received (Err NoSession) step = absurd step
head_number old new id received (Err SessionsFull) step = absurd step
head_number old new id received (Err NoFile) step = absurd step

receive_number : (old new : HubState) (id : ℕ) (phase : Option Phase) (has_file : Bool) (bytes : List ℕ) (answer : Result Progress HubFault)
    → receive_step phase has_file old id bytes answer new → new.next_id ≡ old.next_id
receive_number old new id None has_file bytes answer step = same_number new _ step.1
receive_number old new id (Some phase) false bytes answer step = same_number new _ step.1
receive_number old new id (Some (Reading received)) true bytes answer step = head_number old new id (received ++ bytes) answer step
receive_number old new id (Some (Sending rest)) true bytes answer step = same_number new _ step.1

send_number : (old new : HubState) (id : ℕ) (rest : List ℕ) (size : ℕ) (answer : Result Given HubFault) → send_step old id rest size answer new → new.next_id ≡ old.next_id
send_number old new id rest size (Ok given) step = same_number new _ step.1
send_number old new id rest size (Err Source) step = same_number new _ step.1
send_number old new id rest size (Err NoSession) step = absurd step
send_number old new id rest size (Err SessionsFull) step = absurd step
send_number old new id rest size (Err Memory) step = absurd step
send_number old new id rest size (Err NoFile) step = absurd step

pull_number : (old new : HubState) (id : ℕ) (phase : Option Phase) (has_file : Bool) (size : ℕ) (answer : Result Given HubFault)
    → pull_step phase has_file old id size answer new → new.next_id ≡ old.next_id
pull_number old new id None has_file size answer step = same_number new _ step.1
pull_number old new id (Some phase) false size answer step = same_number new _ step.1
pull_number old new id (Some (Reading received)) true size answer step = same_number new _ step.1
pull_number old new id (Some (Sending rest)) true size answer step = send_number old new id rest size answer step

close_number : (old new : HubState) (id : ℕ) (phase : Option Phase) (answer : Result ⊤ HubFault) → close_step phase old id answer new → new.next_id ≡ old.next_id
close_number old new id None answer step = same_number new _ step.1
close_number old new id (Some phase) answer step = same_number new _ step.1

command_number : (old new : HubState) (command : Command) (answer : Result Outcome Refusal) → command_step old command answer new → new.next_id ≡ old.next_id
command_number old new command (Ok (WasHeld count)) step = same_number new _ step.5
command_number old new command (Ok (WasKept kept)) step = same_number new _ step.5
command_number old new command (Err FailedOf) step = same_number new _ step.1
command_number old new command (Err NoRoom) step = same_number new _ step.3
command_number old new command (Err Disk) step = same_number new _ step.3
command_number old new command (Err _) step = same_number new _ step.2

flush_number : (old new : HubState) (answer : Result Kept Refusal) → flush_step old answer new → new.next_id ≡ old.next_id
flush_number old new (Ok kept) step = same_number new _ step.2
flush_number old new (Err FailedOf) step = same_number new _ step.1
flush_number old new (Err Disk) step = same_number new _ step.2
flush_number old new (Err _) step = absurd step

reopen_number : (old new : HubState) (found : Option (List ℕ)) → reopen_step old found new → new.next_id ≡ old.next_id
reopen_number old new None step = same_number new _ step
reopen_number old new (Some found) step = same_number new _ step.1

connect_number : (old new : HubState) (answer : Result ℕ HubFault) → connect_step old answer new → old.next_id ≤ new.next_id
connect_number old new (Ok id) step = omega (arith, same_number new _ step.2)
connect_number old new (Err SessionsFull) step = omega (arith, same_number new _ step.1)
connect_number old new (Err Memory) step = omega (arith, same_number new _ step.1)
connect_number old new (Err NoSession) step = absurd step
connect_number old new (Err Source) step = absurd step
connect_number old new (Err NoFile) step = absurd step

pub rises : (old new : HubState) (event : Event) → hub_step old event new → old.next_id ≤ new.next_id
rises old new (Connect answer) step = connect_number old new answer step
rises old new (Receive id bytes answer) step = omega (arith, receive_number old new id (phase_of old id) old.has_file bytes answer step)
rises old new (Pull id size answer) step = omega (arith, pull_number old new id (phase_of old id) old.has_file size answer step)
rises old new (Close id answer) step = omega (arith, close_number old new id (phase_of old id) answer step)
rises old new (Record command answer) step = omega (arith, command_number old new command answer step)
rises old new (Flush answer) step = omega (arith, flush_number old new answer step)
rises old new (Group most) step = omega (arith, same_number new _ step.4)
rises old new (Reopen found) step = omega (arith, reopen_number old new found step)
