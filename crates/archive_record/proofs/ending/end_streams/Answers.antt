use Rattle.std.proofs.Common.{◌≡◌, subst}
use Rattle.ogg_command.specs.declared.refusal.Refusal.{Refusal}
use Rattle.file_recorder.specs.Ending.{EndRefused}
use Rattle.file_recorder.specs.Running.{Answers, progress, streams_in}
use Rattle.archive_record.proofs.Going.{all_ended, one_refused}
use Rattle.archive_record.proofs.ending.end_streams.Goals as goal

pub returns-in-Err-clause-met : goal.returns-in-Err-clause-met
returns-in-Err-clause-met g c = λ first w refusal is.
    let (after, replies, now, refused) = c.in-Err.ensures.refused first w in
    let same : c.in-Err.refusal ≡ refusal = cc is in
    (after, replies, now, subst (λ (r : Refusal). EndRefused streams_in (Answers g.D.Disk) (progress first w c.args.recorder.now) after replies r) same refused)

pub returns-in-Ok-clause-does : goal.returns-in-Ok-clause-does
returns-in-Ok-clause-does g c = λ first w.
    let (after, replies, now, all) = c.in-Ok.ensures.ended first w in
    (after, now, all_ended g.D.Disk (progress first w c.args.recorder.now) after replies all)

pub returns-in-Err-clause-does : goal.returns-in-Err-clause-does
returns-in-Err-clause-does g c = λ first w.
    let (after, replies, now, refused) = c.in-Err.ensures.refused first w in
    (after, now, one_refused g.D.Disk (progress first w c.args.recorder.now) after replies c.in-Err.refusal refused)
