-- How many sessions there may be is changed by no step.
use Rattle.std.proofs.Common.{◌≡◌, ℕ, Option, Some, None, Result, Ok, Err, List, ap}
use Rattle.ogg_command.specs.declared.command.Command.{Command}
use Rattle.ogg_command.specs.declared.refusal.Refusal.{Refusal}
use Rattle.ogg_command.specs.declared.refusal.Refusal.TheVariants.{Failed as FailedOf, Memory as NoRoom, Disk}
use Rattle.feed_replies.specs.declared.reply.Kept.{Kept}
use Rattle.feed_replies.specs.declared.outcome.Outcome.{Outcome}
use Rattle.feed_replies.specs.declared.outcome.Outcome.TheVariants.{Held as WasHeld, Kept as WasKept}
use Rattle.serve_machine.specs.declared.fault.HubFault.{HubFault}
use Rattle.serve_machine.specs.declared.fault.HubFault.TheVariants.{NoSession, SessionsFull, Source, Memory, NoFile}
use Rattle.serve_machine.specs.Hub.{HubState, Event, Connect, Receive, Pull, Close, Record, Flush, Group, Reopen, hub_step, phase_of, connect_step, command_step, flush_step, reopen_step}
use Rattle.serve_machine.proofs.Numbers.{KeepsTheRest, receive_keeps, pull_keeps, close_keeps}

by_rest : (old new : HubState) → KeepsTheRest old new → new.room ≡ old.room
by_rest old new keeps = ap (λ (h : HubState). h.room) keeps.1

by_connect : (old new : HubState) (answer : Result ℕ HubFault) → connect_step old answer new → new.room ≡ old.room
by_connect old new (Ok id) step = ap (λ (h : HubState). h.room) step.2
by_connect old new (Err SessionsFull) step = ap (λ (h : HubState). h.room) step.1
by_connect old new (Err Memory) step = ap (λ (h : HubState). h.room) step.1
by_connect old new (Err NoSession) step = absurd step
by_connect old new (Err Source) step = absurd step
by_connect old new (Err NoFile) step = absurd step

by_command : (old new : HubState) (command : Command) (answer : Result Outcome Refusal) → command_step old command answer new → new.room ≡ old.room
by_command old new command (Ok (WasHeld count)) step = ap (λ (h : HubState). h.room) step.5
by_command old new command (Ok (WasKept kept)) step = ap (λ (h : HubState). h.room) step.5
by_command old new command (Err FailedOf) step = ap (λ (h : HubState). h.room) step.1
by_command old new command (Err NoRoom) step = ap (λ (h : HubState). h.room) step.3
by_command old new command (Err Disk) step = ap (λ (h : HubState). h.room) step.3
by_command old new command (Err _) step = ap (λ (h : HubState). h.room) step.2

by_flush : (old new : HubState) (answer : Result Kept Refusal) → flush_step old answer new → new.room ≡ old.room
by_flush old new (Ok kept) step = ap (λ (h : HubState). h.room) step.2
by_flush old new (Err FailedOf) step = ap (λ (h : HubState). h.room) step.1
by_flush old new (Err Disk) step = ap (λ (h : HubState). h.room) step.2
by_flush old new (Err _) step = absurd step

by_reopening : (old new : HubState) (found : Option (List ℕ)) → reopen_step old found new → new.room ≡ old.room
by_reopening old new None step = ap (λ (h : HubState). h.room) step
by_reopening old new (Some found) step = ap (λ (h : HubState). h.room) step.1

pub same_room : (old new : HubState) (event : Event) → hub_step old event new → new.room ≡ old.room
same_room old new (Connect answer) step = by_connect old new answer step
same_room old new (Receive id bytes answer) step = by_rest old new (receive_keeps old new id (phase_of old id) old.has_file bytes answer step)
same_room old new (Pull id size answer) step = by_rest old new (pull_keeps old new id (phase_of old id) old.has_file size answer step)
same_room old new (Close id answer) step = by_rest old new (close_keeps old new id (phase_of old id) answer step)
same_room old new (Record command answer) step = by_command old new command answer step
same_room old new (Flush answer) step = by_flush old new answer step
same_room old new (Group most) step = ap (λ (h : HubState). h.room) step.4
same_room old new (Reopen found) step = by_reopening old new found step
