-- Records are answered by a machine without its sessions.
use Rattle.std.proofs.Common.{◌≡◌, ◌+◌, ℕ, Bool, true, false, Option, Some, None, Result, Ok, Err, List, [], ◌∷◌, sym, ◌∙◌, ap, subst}
use Rattle.disk_model.specs.declared.disk.Disk.{Ghosts as DiskModel}
use Rattle.disk_model.specs.Image.{DiskState}
use Rattle.feed_records.specs.declared.item.Record.{Record}
use Rattle.feed_records.specs.declared.item.Record.TheVariants.{Command as CommandOf, Flush}
use Rattle.feed_replies.specs.declared.reply.Kept.{Kept}
use Rattle.feed_replies.specs.declared.reply.Reply.{Reply}
use Rattle.feed_runner.specs.Answering.{AnswersAll}
use Rattle.gate_file.specs.declared.fault.OpenFault.{OpenFault}
use Rattle.ogg_command.specs.declared.command.Command.{Command}
use Rattle.ogg_command.specs.declared.refusal.Refusal.{Refusal}
use Rattle.ogg_command.specs.declared.refusal.Refusal.TheVariants.{Failed, Memory, Disk}
use Rattle.file_recorder.specs.Running.{reply_of, reply_of_flush}
use Rattle.feed_replies.specs.declared.outcome.Outcome.{Outcome}
use Rattle.feed_replies.specs.declared.outcome.Outcome.TheVariants.{Held as WasHeld, Kept as WasKept}
use Rattle.serve_hub.specs.Running.{Progress, Answers}
use Rattle.serve_machine.specs.Hub.{HubState, command_step, flush_step, reopen_step}
use Rattle.serve_machine.specs.Own.{KeepsFile}
use Rattle.ogg_serve.specs.Feeding.{Follows, FollowsIf, says_failed}
use Rattle.ogg_serve.specs.Life.{Counts, GetsReply, HaveCounts, LiveAnswers, OpensAgain, RecordAnswers, alone}
use Rattle.ogg_serve.specs.declared.feeding.Step.{Step}
use Rattle.ogg_serve.specs.declared.feeding.Step.TheVariants.{Done, End, Lost}

-- ---- steps
alone_command : (old new : HubState) (command : Command) (answer : Result Outcome Refusal) → command_step old command answer new → command_step (alone old) command answer (alone new)
alone_command old new command (Ok (WasHeld count)) (fine, added, accepted, few, count_is, same) = (fine, added, accepted, few, count_is, ap alone same)
alone_command old new command (Ok (WasKept kept)) (fine, added, accepted, many, kept_is, same) = (fine, added, accepted, many, kept_is, ap alone same)
alone_command old new command (Err Failed) (bad, same) = (bad, ap alone same)
alone_command old new command (Err Memory) (fine, added, accepted, same) = (fine, added, accepted, ap alone same)
alone_command old new command (Err Disk) (fine, added, accepted, same) = (fine, added, accepted, ap alone same)
alone_command old new command (Err _) step = (step.0, step.1, ap alone step.2)

alone_flush : (old new : HubState) (answer : Result Kept Refusal) → flush_step old answer new → flush_step (alone old) answer (alone new)
alone_flush old new (Ok kept) (fine, kept_is, same) = (fine, kept_is, ap alone same)
alone_flush old new (Err Failed) (bad, same) = (bad, ap alone same)
alone_flush old new (Err Disk) (fine, some, same) = (fine, some, ap alone same)
alone_flush old new (Err _) step = absurd step

alone_reopen : (old new : HubState) (found : Option (List ℕ)) → reopen_step old found new → reopen_step (alone old) found (alone new)
alone_reopen old new None step = ap alone step
alone_reopen old new (Some found) (may, same) = (may, ap alone same)

pub file_alone : (old new : HubState) → KeepsFile old new → alone new ≡ alone old
file_alone old new file = ap alone file

-- ---- answers
module _ {D : Type 0} (model : DiskModel D) where
  pub gets : (before mid : Progress D) (given : Record) (reply : Reply) (own : List ℕ) → Answers model before given reply own mid
      → RecordAnswers (alone before.machine) given reply own (alone mid.machine)
  gets before mid (CommandOf command) reply own a =
      (a.0, (a.1.answer, a.1.told, alone_command before.machine mid.machine command a.1.answer a.1.step))
  gets before mid Flush reply own a = (a.0, (a.1.answer, a.1.told, alone_flush before.machine mid.machine a.1.answer a.1.step))

  pub opens : (failed : Bool) (reply : Reply) (step : Step) (mid after : Progress D) → FollowsIf model failed reply step mid after
      → OpensAgain failed (alone mid.machine) (alone after.machine)
  opens true reply (Done told) mid after f =
      (Some after.machine.committed, alone_reopen mid.machine after.machine (Some after.machine.committed) f.1.step)
  opens true reply (Lost fault) mid after f = (None, alone_reopen mid.machine after.machine None f.step)
  opens true reply End mid after f = absurd f
  opens false reply step mid after f = ap (λ (p : Progress D). alone p.machine) f.1

  pub lives : (before mid after : Progress D) (given : Record) (reply : Reply) (own : List ℕ) (step : Step)
      → Answers model before given reply own mid → Follows model reply step mid after
      → LiveAnswers (alone before.machine) given reply own (alone after.machine)
  lives before mid after given reply own step a f =
      let got = gets before mid given reply own a in
      (got.0, alone mid.machine, got.1, opens (says_failed reply) reply step mid after f)

  -- the file could not be opened again
  pub no_file : (failed : Bool) (reply : Reply) (fault : OpenFault) (mid after : Progress D) → FollowsIf model failed reply (Lost fault) mid after
      → (alone after.machine).has_file ≡ false
  no_file true reply fault mid after f = ap (λ (hub : HubState). hub.has_file) f.step
  no_file false reply fault mid after f = let no : Lost fault ≡ Done reply = f.0 in cc

-- ---- counts
same_count : (old new : HubState) → new ≡ old → new.count ≡ old.count
same_count old new same = ap (λ (hub : HubState). hub.count) same

opened_count : (mid after : HubState) (found : Option (List ℕ)) → reopen_step mid found after → after.count ≡ 0
opened_count mid after None step = ap (λ (hub : HubState). hub.count) step
opened_count mid after (Some found) step = ap (λ (hub : HubState). hub.count) step.1

command_counts : (before mid after : HubState) (command : Command) (answer : Result Outcome Refusal) → command_step before command answer mid
    → OpensAgain (says_failed (reply_of answer)) mid after → Counts before.count (CommandOf command) (reply_of answer) after.count
command_counts before mid after command (Ok (WasHeld count)) step same =
    (step.4, same_count mid after same ∙ ap (λ (hub : HubState). hub.count) step.5)
command_counts before mid after command (Ok (WasKept kept)) step same =
    let now : mid.count ≡ before.count + 1 = ap (λ (hub : HubState). hub.count) step.5 in
    (ap (λ (k : Kept). k.count) step.4 ∙ now, same_count mid after same ∙ now)
command_counts before mid after command (Err Failed) step same = same_count mid after same ∙ same_count before mid step.1
command_counts before mid after command (Err Memory) step same = same_count mid after same ∙ same_count before mid step.3
command_counts before mid after command (Err Disk) step (found, opened) = opened_count mid after found opened
command_counts before mid after command (Err _) step same = same_count mid after same ∙ same_count before mid step.2

flush_counts : (before mid after : HubState) (answer : Result Kept Refusal) → flush_step before answer mid
    → OpensAgain (says_failed (reply_of_flush answer)) mid after → Counts before.count Flush (reply_of_flush answer) after.count
flush_counts before mid after (Ok kept) step same =
    let now : mid.count ≡ before.count = ap (λ (hub : HubState). hub.count) step.2 in
    (ap (λ (k : Kept). k.count) step.1 ∙ now, same_count mid after same ∙ now)
flush_counts before mid after (Err Failed) step same = same_count mid after same ∙ same_count before mid step.1
flush_counts before mid after (Err Disk) step (found, opened) = opened_count mid after found opened
flush_counts before mid after (Err _) step same = absurd step

reply_counts : (before mid after : HubState) (given : Record) (reply : Reply) → GetsReply before given reply mid → OpensAgain (says_failed reply) mid after
    → Counts before.count given reply after.count
reply_counts before mid after (CommandOf command) reply (answer, told, step) opened =
    subst (λ (r : Reply). Counts before.count (CommandOf command) r after.count) (sym told)
    (command_counts before mid after command answer step (subst (λ (r : Reply). OpensAgain (says_failed r) mid after) told opened))
reply_counts before mid after Flush reply (answer, told, step) opened =
    subst (λ (r : Reply). Counts before.count Flush r after.count) (sym told)
    (flush_counts before mid after answer step (subst (λ (r : Reply). OpensAgain (says_failed r) mid after) told opened))

pub have_counts : (before after : HubState) (records : List Record) (replies : List Reply) (bytes : List ℕ) → AnswersAll LiveAnswers before records replies bytes after
    → HaveCounts before.count records replies
have_counts before after [] [] bytes all = tt
have_counts before after [] (reply ∷ replies) bytes all = absurd all
have_counts before after (given ∷ records) [] bytes all = absurd all
have_counts before after (given ∷ records) (reply ∷ replies) bytes (next, own, more, answered, rest, whole) =
    (next.count, reply_counts before answered.1 next given reply answered.2 answered.3, have_counts next after records replies more rest)
