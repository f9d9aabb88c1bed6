-- What is committed only grows, and holds a recording.
use Rattle.std.proofs.Common.{◌≡◌, ℕ, Option, Some, None, Result, Ok, Err, List, [], ◌∷◌, ◌++◌, sym, ◌∙◌, ap, inl, inr, append-nil, append_assoc}
use Rattle.std.specs.List.{AllByRecursion}
use Rattle.ogg_command.specs.declared.command.Command.{Command}
use Rattle.ogg_command.specs.declared.refusal.Refusal.{Refusal}
use Rattle.ogg_command.specs.declared.refusal.Refusal.TheVariants.{Failed as FailedOf, Memory as NoRoom, Disk}
use Rattle.feed_replies.specs.declared.reply.Kept.{Kept}
use Rattle.feed_replies.specs.declared.outcome.Outcome.{Outcome}
use Rattle.feed_replies.specs.declared.outcome.Outcome.TheVariants.{Held as WasHeld, Kept as WasKept}
use Rattle.serve_machine.specs.Hub.{HubState, Event, Connect, Receive, Pull, Close, Record, Flush, Group, Reopen, hub_step, phase_of, connect_step, command_step, flush_step, reopen_step, MayBeFound, holding, committing, doubting}
use Rattle.serve_machine.specs.declared.fault.HubFault.{HubFault}
use Rattle.serve_machine.specs.declared.fault.HubFault.TheVariants.{NoSession, SessionsFull, Source, Memory, NoFile}
use Rattle.serve_machine.specs.Run.{Step, AreSteps}
use Rattle.serve_machine.specs.Sound.{Extends}
use Rattle.serve_machine.proofs.Numbers.{KeepsTheRest, receive_keeps, pull_keeps, close_keeps}

stays : (old new : HubState) → new.committed ≡ old.committed → Extends old.committed new.committed
stays old new e = ([], e ∙ sym (append-nil old.committed))

committed_of : (new other : HubState) → new ≡ other → new.committed ≡ other.committed
committed_of new other e = ap (λ (h : HubState). h.committed) e

grows_connect : (old new : HubState) (answer : Result ℕ HubFault) → connect_step old answer new → new.committed ≡ old.committed
grows_connect old new (Ok id) step = committed_of new _ step.2
grows_connect old new (Err SessionsFull) step = committed_of new old step.1
grows_connect old new (Err Memory) step = committed_of new old step.1
grows_connect old new (Err NoSession) step = absurd step
grows_connect old new (Err Source) step = absurd step
grows_connect old new (Err NoFile) step = absurd step

grows_command : (old new : HubState) (command : Command) (answer : Result Outcome Refusal) → command_step old command answer new → Extends old.committed new.committed
grows_command old new command (Ok (WasHeld count)) step = stays old new (committed_of new (holding step.1 old) step.5)
grows_command old new command (Ok (WasKept kept)) step = (old.held ++ step.1, committed_of new (committing (holding step.1 old)) step.5)
grows_command old new command (Err FailedOf) step = stays old new (committed_of new old step.1)
grows_command old new command (Err NoRoom) step = stays old new (committed_of new old step.3)
grows_command old new command (Err Disk) step = stays old new (committed_of new (doubting (holding step.1 old)) step.3)
grows_command old new command (Err _) step = stays old new (committed_of new old step.2)

grows_flush : (old new : HubState) (answer : Result Kept Refusal) → flush_step old answer new → Extends old.committed new.committed
grows_flush old new (Ok kept) step = (old.held, committed_of new (committing old) step.2)
grows_flush old new (Err FailedOf) step = stays old new (committed_of new old step.1)
grows_flush old new (Err Disk) step = stays old new (committed_of new (doubting old) step.2)
grows_flush old new (Err _) step = absurd step

found_extends : (old : HubState) (found : List ℕ) → MayBeFound old found → Extends old.committed found
found_extends old found (inl same) = ([], same ∙ sym (append-nil old.committed))
found_extends old found (inr more) = (more.0, more.2)

grows_reopen : (old new : HubState) (found : Option (List ℕ)) → reopen_step old found new → Extends old.committed new.committed
grows_reopen old new None step = stays old new (ap (λ (h : HubState). h.committed) step)
grows_reopen old new (Some found) step =
    let more = found_extends old found step.0 in
    (more.0, ap (λ (h : HubState). h.committed) step.1 ∙ more.1)

kept_rest : (old new : HubState) → KeepsTheRest old new → new.committed ≡ old.committed
kept_rest old new keeps = ap (λ (h : HubState). h.committed) keeps.1

grows_step : (old new : HubState) (event : Event) → hub_step old event new → Extends old.committed new.committed
grows_step old new (Connect answer) step = stays old new (grows_connect old new answer step)
grows_step old new (Receive id bytes answer) step = stays old new (kept_rest old new (receive_keeps old new id (phase_of old id) old.has_file bytes answer step))
grows_step old new (Pull id size answer) step = stays old new (kept_rest old new (pull_keeps old new id (phase_of old id) old.has_file size answer step))
grows_step old new (Close id answer) step = stays old new (kept_rest old new (close_keeps old new id (phase_of old id) answer step))
grows_step old new (Record command answer) step = grows_command old new command answer step
grows_step old new (Flush answer) step = grows_flush old new answer step
grows_step old new (Group most) step = stays old new (ap (λ (h : HubState). h.committed) step.4)
grows_step old new (Reopen found) step = grows_reopen old new found step

longer : (first second third : List ℕ) → Extends first second → Extends second third → Extends first third
longer first second third a b = (a.0 ++ b.0, b.1 ∙ ap (λ l. l ++ b.0) a.1 ∙ append_assoc first a.0 b.0)

each_weaker : (P Q : Step → Type 0) → ((s : Step) → P s → Q s) → (steps : List Step) → AllByRecursion P steps → AllByRecursion Q steps
each_weaker P Q weaker [] all = tt
each_weaker P Q weaker (step ∷ steps) all = (weaker step all.0, each_weaker P Q weaker steps all.1)

pub grows : (old : HubState) (steps : List Step) → AreSteps old steps → AllByRecursion (λ (step : Step). Extends old.committed step.after.committed) steps
grows old [] are = tt
grows old (step ∷ steps) are =
    let first = grows_step old step.after step.event are.0 in (
      first,
      each_weaker (λ s. Extends step.after.committed s.after.committed) (λ s. Extends old.committed s.after.committed)
          (λ s more. longer old.committed step.after.committed s.after.committed first more) steps (grows step.after steps are.1),
    )
