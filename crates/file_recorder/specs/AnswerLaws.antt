-- A command and a flush get the replies of the recorder. Ours.
use Rattle.std.proofs.Common.{◌≡◌, ◌≢◌, ◌⊎◌, ⊎_elim, ℕ, zero, suc, ◌<◌, ◌+◌, Bool, true, false, refl, sym, ◌∙◌, ap, subst, Result, Ok, Err}
use Rattle.std.proofs.Math.Nat.{zero-lt-suc}
use Rattle.std.specs.Prelude.{IsOk, IfOk, IfErr, OnOk}
use Rattle.feed_replies.specs.declared.reply.Kept.{Kept as KeptOf}
use Rattle.feed_replies.specs.declared.reply.Reply.TheVariants.{Refused as RefusedReply}
use Rattle.link_chain.specs.ChainState.{chain_state_of}
use Rattle.chain_rules.specs.Encoding.{links_after}
use Rattle.ogg_command.specs.declared.command.Command.{Command}
use Rattle.ogg_command.specs.declared.refusal.Refusal.{Refusal}
use Rattle.ogg_command.specs.declared.refusal.Refusal.TheVariants.{Failed, Memory, Disk}
use Rattle.feed_replies.specs.declared.outcome.Outcome.{Outcome}
use Rattle.feed_replies.specs.declared.outcome.Outcome.TheVariants.{Held as WasHeld, Kept as WasKept}
use Rattle.file_recorder.specs.Recovery.{Links}
use Rattle.file_recorder.specs.Recorder.{RecorderState}
use Rattle.file_recorder.specs.Answer.{Tells, kept_by}
use Rattle.file_recorder.specs.Small.{begins_link}
use Rattle.file_recorder.specs.Running.{AnsweredBy, FlushedBy, FlushBecomes, Becomes, Fails, reply_of, reply_of_flush}

never : false ≡ true → ⊥
never e = cc

-- what isn't false is true
otherwise_begins : (b : Bool) → (b ≡ false → ⊥) → b ≡ true
otherwise_begins true refuted = refl
otherwise_begins false refuted = absurd (refuted refl)

pub answered_by : {D : Type 0} (failed : Bool) (decided : Result ℕ Refusal) (r : Result Outcome Refusal) (old new : RecorderState D) (command : Command)
    → (failed ≡ true → r ≡ Err Failed)
    → (failed ≡ false → (refusal : Refusal) → decided ≡ Err refusal → r ≡ Err refusal)
    → (failed ≡ false → IsOk decided → IfErr r (λ refusal. (refusal ≡ Memory) ⊎ (refusal ≡ Disk)))
    → IfErr r (λ refusal. refusal ≢ Disk → new ≡ old)
    → IfErr r (λ refusal. refusal ≡ Disk → Fails old new)
    → IfOk r (λ outcome. Tells old outcome new)
    → OnOk r (new.file.failed ≡ false)
    → OnOk r ((links : Links) → old.chain ≡ chain_state_of links → new.chain ≡ chain_state_of (links_after links command))
    → ((refusal : Refusal) → decided ≡ Err refusal → refusal ≢ Disk)
    → (begins_link command ≡ false → r ≢ Err Memory)
    → AnsweredBy failed decided old command (reply_of r) new
answered_by true decided r old new command by_failed by_rules otherwise same faulted tells good links not_disk memory =
    let is : r ≡ Err Failed = by_failed refl in (
      ap reply_of is,
      subst (λ (s : Result Outcome Refusal). IfErr s (λ refusal. refusal ≢ Disk → new ≡ old)) is same (λ e. cc e),
    )
answered_by false (Err refusal) r old new command by_failed by_rules otherwise same faulted tells good links not_disk memory =
    let is : r ≡ Err refusal = by_rules refl refusal refl in (
      ap reply_of is,
      subst (λ (s : Result Outcome Refusal). IfErr s (λ q. q ≢ Disk → new ≡ old)) is same (not_disk refusal refl),
    )
answered_by false (Ok size) (Ok (WasHeld count)) old new command by_failed by_rules otherwise same faulted tells good links not_disk memory = (tells, (good, links))
answered_by false (Ok size) (Ok (WasKept kept)) old new command by_failed by_rules otherwise same faulted tells good links not_disk memory = (tells, (good, links))
answered_by false (Ok size) (Err refusal) old new command by_failed by_rules otherwise same faulted tells good links not_disk memory =
    ⊎_elim (λ is. subst (λ (q : Refusal). Becomes old command (RefusedReply q) new) (sym is)
    (otherwise_begins (begins_link command) (λ none. memory none (ap Err is)), same (λ disk. let e : Memory ≡ Disk = sym is ∙ disk in cc e)))
    (λ is. subst (λ (q : Refusal). Becomes old command (RefusedReply q) new) (sym is) (faulted is)) (otherwise refl refl)

some_wait : (held : ℕ) → (held ≡ 0 → ⊥) → 0 < held
some_wait zero refuted = absurd (refuted refl)
some_wait (suc held) refuted = zero-lt-suc held

pub flushed_by : {D : Type 0} (failed : Bool) (r : Result KeptOf Refusal) (old new : RecorderState D)
    → (failed ≡ true → (r ≡ Err Failed) × (new ≡ old))
    → IfErr r (λ refusal. ((refusal ≡ Failed) × (failed ≡ true)) ⊎ (refusal ≡ Disk))
    → (failed ≡ false → old.held ≡ 0 → (r ≡ Ok (kept_by old)) × (new ≡ old))
    → IfErr r (λ refusal. refusal ≡ Disk → Fails old new)
    → IfOk r (λ kept. (kept ≡ kept_by new) × (new ≡ record old { file = new.file; kept = old.kept + old.held; held = 0 }))
    → OnOk r ((old.file.failed ≡ false) × (new.file.failed ≡ false))
    → FlushedBy failed old (reply_of_flush r) new
flushed_by true r old new by_failed refusals nothing faulted tells good = let (is, same) = by_failed refl in (ap reply_of_flush is, same)
flushed_by false (Ok kept) old new by_failed refusals nothing faulted tells good = (tells.0, good.1, λ none. (nothing refl none).1, tells.1)
flushed_by false (Err refusal) old new by_failed refusals nothing faulted tells good =
    ⊎_elim (λ (is, bad). absurd (never bad))
    (λ is. subst (λ (q : Refusal). FlushBecomes old (RefusedReply q) new) (sym is) (some_wait old.held (λ none. let e = (nothing refl none).0 in cc e), faulted is)) refusals
