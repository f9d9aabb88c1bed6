-- What a flush leaves, however it ends.
use Rattle.std.proofs.Common.{◌≡◌, ◌⊎◌, ⊎_elim, ◌+◌, true, Result, Ok, Err, ap}
use Rattle.std.specs.Prelude.{IfOk, IfErr}
use Rattle.feed_replies.specs.declared.reply.Kept.{Kept}
use Rattle.file_recorder.specs.Answer.{kept_by}
use Rattle.file_recorder.specs.Recorder.{RecorderState}
use Rattle.file_recorder.specs.Running.{Fails}
use Rattle.ogg_command.specs.declared.refusal.Refusal.{Refusal}
use Rattle.ogg_command.specs.declared.refusal.Refusal.TheVariants.{Failed, Disk}

-- the chain stays, with what waited
pub flush_keeps_chain : {D : Type 0} (old new : RecorderState D) (r : Result Kept Refusal) → (old.file.failed ≡ true → (r ≡ Err Failed) × (new ≡ old))
    → IfErr r (λ refusal. ((refusal ≡ Failed) × (old.file.failed ≡ true)) ⊎ (refusal ≡ Disk)) → IfErr r (λ refusal. refusal ≡ Disk → Fails old new)
    → IfOk r (λ kept. (kept ≡ kept_by new) × (new ≡ record old { file = new.file; kept = old.kept + old.held; held = 0 }))
    → new.chain ≡ old.chain
flush_keeps_chain old new (Ok kept) by_failed refusals faulted tells = ap (λ (r : RecorderState _). r.chain) tells.1
flush_keeps_chain old new (Err refusal) by_failed refusals faulted tells =
    ⊎_elim (λ (is, bad). ap (λ (r : RecorderState _). r.chain) (by_failed bad).1) (λ is. ap (λ (r : RecorderState _). r.chain) (faulted is).2) refusals
