-- The records of a feed are answered, each as a step of a history.
use Rattle.std.proofs.Common.{◌≡◌, ◌⊎◌, ◌↔◌, ⊎_elim, ℕ, ◌+◌, ◌-◌, ◌^◌, ◌<◌, ◌≤◌, Bool, true, false, List, [], ◌∷◌, ◌++◌, refl, sym, ap, ◌∙◌, subst, arith, append_assoc, Result, Ok, Err}
use Rattle.std.proofs.lemmas.List.{append-nil, append_cancel_left}
use Rattle.std.specs.Prelude.{IfOk, IfErr, OnOk}
use Rattle.disk_model.specs.declared.disk.Disk.{Ghosts as DiskModel}
use Rattle.disk_model.specs.Image.{DiskState}
use Rattle.feed_records.specs.declared.item.Record.{Record}
use Rattle.feed_records.specs.declared.item.Record.TheVariants.{Command as CommandOf, Flush}
use Rattle.feed_replies.specs.declared.reply.Kept.{Kept as KeptOf}
use Rattle.feed_replies.specs.declared.reply.Reply.{Reply}
use Rattle.feed_replies.specs.declared.reply.Reply.TheVariants.{Refused as RefusedReply}
use Rattle.link_chain.specs.Recording.{Recording}
use Rattle.chain_rules.specs.Encoding.{command_bytes}
use Rattle.chain_rules.specs.Recording.{add}
use Rattle.ogg_command.specs.declared.command.Command.{Command}
use Rattle.ogg_command.specs.declared.refusal.Refusal.{Refusal}
use Rattle.ogg_command.specs.declared.refusal.Refusal.TheVariants.{Failed, Disk}
use Rattle.history.specs.World.{World, Step, happens, run}
use Rattle.history.specs.History.{AreSteps}
use Rattle.feed_replies.specs.declared.outcome.Outcome.{Outcome}
use Rattle.feed_replies.specs.declared.outcome.Outcome.TheVariants.{Held as WasHeld, Kept as WasKept}
use Rattle.file_recorder.specs.Recovery.{Shows, Accepts}
use Rattle.file_recorder.specs.Recorder.{RecorderState, IsIn, committed, staged, IsRecorderStep}
use Rattle.file_recorder.specs.Answer.{call_of, command_step, flush_step}
use Rattle.file_recorder.specs.Running.{Progress, progress, Answers, Replies, Writes, FlushedBy, reply_of, reply_of_flush, steps_of}
use Rattle.file_recorder.proofs.Lasting.{never}
use Rattle.file_recorder.proofs.Stepping.{is_open}

-- what holds of a recorder holds however that recorder was reached
pub at_reached : {D : Type 0} (before : Progress D) (recorder : RecorderState D) (Q : Progress D → Type 0) → before.now ≡ recorder → Q (progress before.first before.world recorder) → Q before
at_reached before recorder Q same q = subst (λ (r : RecorderState _). Q (progress before.first before.world r)) (sym same) q

-- ---- bytes
pub writes_command : {D : Type 0} {H : Type 0} (h : H) (state : D → DiskState) (r : Result Outcome Refusal) (old new : RecorderState D) (command : Command)
    → OnOk r (H → committed state new ++ staged state new ≡ (committed state old ++ staged state old) ++ command_bytes old.chain command)
    → IfOk r (λ outcome. (count : ℕ) → outcome ≡ WasHeld count → committed state new ≡ committed state old)
    → IfOk r (λ outcome. (kept : KeptOf) → outcome ≡ WasKept kept → staged state new ≡ [])
    → IfErr r (λ _. committed state new ≡ committed state old)
    → Writes state old (CommandOf command) (reply_of r) new
writes_command h state (Ok (WasHeld count)) old new command grows stays none front =
    let same = stays count refl in
    let own : List ℕ = command_bytes old.chain command in (
      same,
      append_cancel_left (committed state new) (staged state new) (staged state old ++ own)
          (grows h ∙ append_assoc (committed state old) (staged state old) own ∙ ap (λ (l : List ℕ). l ++ (staged state old ++ own)) (sym same)),
    )
writes_command h state (Ok (WasKept kept)) old new command grows stays none front =
    let nothing = none kept refl in (
      sym (append-nil (committed state new)) ∙ ap (λ (l : List ℕ). committed state new ++ l) (sym nothing) ∙ grows h
          ∙ append_assoc (committed state old) (staged state old) (command_bytes old.chain command),
      nothing,
    )
writes_command h state (Err refusal) old new command grows stays none front = front

pub writes_flush : {D : Type 0} {H : Type 0} (h : H) (state : D → DiskState) (r : Result KeptOf Refusal) (old new : RecorderState D)
    → OnOk r (H → committed state new ≡ committed state old ++ staged state old) → OnOk r (staged state new ≡ []) → IfErr r (λ _. committed state new ≡ committed state old)
    → Writes state old Flush (reply_of_flush r) new
writes_flush h state (Ok kept) old new grows none front = (grows h, none)
writes_flush h state (Err refusal) old new grows none front = front

-- ---- steps
pub step_is : {D : Type 0} (r : Result Outcome Refusal) (most : ℕ) (w : World Command) (command : Command) (disk : D)
    → steps_of most w (CommandOf command) (reply_of r) disk ≡ (command_step r (call_of most w command) command, disk) ∷ []
step_is (Ok (WasHeld count)) most w command disk = refl
step_is (Ok (WasKept kept)) most w command disk = refl
step_is (Err refusal) most w command disk = refl

pub flush_is : {D : Type 0} (r : Result KeptOf Refusal) (most : ℕ) (w : World Command) (disk : D) → IfErr r (λ refusal. refusal ≡ Disk)
    → steps_of most w Flush (reply_of_flush r) disk ≡ (flush_step r, disk) ∷ []
flush_is (Ok kept) most w disk only = refl
flush_is {D} (Err refusal) most w disk only =
    subst (λ (q : Refusal). steps_of most w Flush (reply_of_flush (Err q)) disk ≡ (flush_step (Err q), disk) ∷ []) (sym only) refl

only_disk : (r : Result KeptOf Refusal) → IfErr r (λ refusal. ((refusal ≡ Failed) × (false ≡ true)) ⊎ (refusal ≡ Disk)) → IfErr r (λ refusal. refusal ≡ Disk)
only_disk (Ok kept) refusals = tt
only_disk (Err refusal) refusals = ⊎_elim (λ (is, bad). absurd (never bad)) (λ is. is) refusals

-- the record is answered, and the recorder has come further
abbrev pub ComesTo : {D : Type 0} (model : DiskModel D)
    → Record → Reply → RecorderState D → Progress D → Type 0
ComesTo {D} model given reply new before =
    (after : Progress D) × Answers model before given reply [] after × (after.now ≡ new)

module _ {D : Type 0} (model : DiskModel D)
    (first : Recording) (w : World Command) (old new : RecorderState D) where
  abbrev pub IsAnswered : Record → Reply → Type 0
  IsAnswered given reply = ComesTo model given reply new (progress first w old)

  abbrev pub IsNext : Step Command → Type 0
  IsNext step = IsRecorderStep model first w step old.file.disk new.file.disk × IsIn model first (happens w step) new

  abbrev Rises : Reply → Type 0
  Rises reply = reply ≡ RefusedReply Disk → (model.failures old.file.disk < model.failures new.file.disk) ⊎ (model.failures new.file.disk ≡ 2 ^ 64 - 1)

  -- a record that is a step
  pub one_step : (given : Record) (reply : Reply) (step : Step Command) → steps_of old.most w given reply new.file.disk ≡ (step, new.file.disk) ∷ []
      → Replies old given reply new → (model.is_honest old.file.disk → Writes model.state old given reply new)
      → (IsIn model first w old → model.is_honest old.file.disk → IsNext step)
      → model.is_honest old.file.disk ↔ model.is_honest new.file.disk → model.failures old.file.disk ≤ model.failures new.file.disk → Rises reply → IsAnswered given reply
  one_step given reply step same replies writes next honest later cause = (
    progress first (happens w step) new,
    record {
      replies = replies;
      none = refl;
      writes = writes;
      same = refl;
      world_is = sym (ap (λ (l : List (Step Command × D)). run w l) same);
      comes_next = λ h is_in.
          let comes = next is_in h in
          (subst (λ (l : List (Step Command × D)). AreSteps model Shows Accepts add first w old.file.disk l) (sym same) (comes.0, tt), comes.1);
      honest = honest;
      later = later;
      cause = cause;
    },
    refl,
  )

  -- a flush after a disk fault is no step
  no_step : (reply : Reply) → reply ≡ RefusedReply Failed → old.file.failed ≡ true → new ≡ old → IsAnswered Flush reply
  no_step reply is bad same =
      let none : steps_of old.most w Flush reply new.file.disk ≡ [] = ap (λ (r : Reply). steps_of old.most w Flush r new.file.disk) is in
      let disk : old.file.disk ≡ new.file.disk = ap (λ (r : RecorderState D). r.file.disk) (sym same) in (
        progress first w new,
        record {
          replies = subst (λ (failed : Bool). FlushedBy failed old reply new) (sym bad) (is, same);
          none = refl;
          writes = λ h. subst (λ (r : Reply). Writes model.state old Flush r new) (sym is) (ap (λ (r : RecorderState D). committed model.state r) same);
          same = refl;
          world_is = sym (ap (λ (l : List (Step Command × D)). run w l) none);
          comes_next = λ h is_in. (
            subst (λ (l : List (Step Command × D)). AreSteps model Shows Accepts add first w old.file.disk l) (sym none) tt,
            subst (λ (r : RecorderState D). IsIn model first w r) (sym same) is_in,
          );
          honest = (λ h. subst model.is_honest disk h, λ h. subst model.is_honest (sym disk) h);
          later = omega (arith, ap model.failures disk);
          cause = λ e. let never_both : RefusedReply Failed ≡ RefusedReply Disk = sym is ∙ e in absurd (cc never_both);
        },
        refl,
      )

  -- a flush
  pub flush_answered : (failed : Bool) (r : Result KeptOf Refusal) → old.file.failed ≡ failed
      → (failed ≡ true → (r ≡ Err Failed) × (new ≡ old))
      → IfErr r (λ refusal. ((refusal ≡ Failed) × (failed ≡ true)) ⊎ (refusal ≡ Disk))
      → FlushedBy failed old (reply_of_flush r) new → (model.is_honest old.file.disk → Writes model.state old Flush (reply_of_flush r) new)
      → (IsIn model first w old → w.is_open ≡ true → model.is_honest old.file.disk → IsNext (flush_step r))
      → model.is_honest old.file.disk ↔ model.is_honest new.file.disk → model.failures old.file.disk ≤ model.failures new.file.disk → Rises (reply_of_flush r)
      → IsAnswered Flush (reply_of_flush r)
  flush_answered true r bad by_failed refusals replies writes next honest later cause = let (is, same) = by_failed refl in no_step (reply_of_flush r) (ap reply_of_flush is) bad same
  flush_answered false r good by_failed refusals replies writes next honest later cause =
      one_step Flush (reply_of_flush r) (flush_step r) (flush_is r old.most w new.file.disk (only_disk r refusals))
      (subst (λ (failed : Bool). FlushedBy failed old (reply_of_flush r) new) (sym good) replies) writes
      (λ is_in h. next is_in (is_open model first w old is_in good) h) honest later cause

-- the disk's fault is reported
pub command_fault : (r : Result Outcome Refusal) → reply_of r ≡ RefusedReply Disk → r ≡ Err Disk
command_fault (Ok (WasHeld count)) e = absurd (cc e)
command_fault (Ok (WasKept kept)) e = absurd (cc e)
command_fault (Err refusal) e = let is : refusal ≡ Disk = cc e in ap Err is

pub flush_fault : (r : Result KeptOf Refusal) → reply_of_flush r ≡ RefusedReply Disk → r ≡ Err Disk
flush_fault (Ok kept) e = absurd (cc e)
flush_fault (Err refusal) e = let is : refusal ≡ Disk = cc e in ap Err is
