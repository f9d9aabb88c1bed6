use Rattle.ogg_serve.proofs.Continuing.{has_answered, reply_of_step}
use Rattle.ogg_serve.proofs.feeding.take_step.Goals as goal

pub returns-in-Ok-Some-clause-stepped : goal.returns-in-Ok-Some-clause-stepped
returns-in-Ok-Some-clause-stepped g c = λ before is_in unended.
    let d = g.D.Disk in
    let replied = reply_of_step c.in-Ok-Some.field-0 c.in-Ok-Some.reply _ c.in-Ok-Some.field-0-is (c.in-Ok-Some.ensures.replied before is_in unended) in
    let (mid, is_mid, ran) = replied in
    let (after, is_after, follows) = c.follow.ensures mid is_mid in (
      after,
      is_after,
      has_answered d _ _ _ _ before after c.follow.result
          (record { reply = c.in-Ok-Some.reply; mid = mid; ran = ran; follows = follows }),
    )
