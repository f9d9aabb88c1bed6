use Rattle.std.proofs.Common.{[], ◌∷◌, ◌++◌, ◌∙◌, Some, None, inl, inr, refl, sym, subst}
use Rattle.feed_replies.specs.declared.reply.Reply.{Reply}
use Rattle.feed_replies.specs.declared.reply.Reply.TheVariants.{Refused as RefusedReply}
use Rattle.std.specs.Io.KnownBytes.{Appends}
use Rattle.feed_replies.specs.Reply.{reply_line}
use Rattle.file_recorder.specs.Running.{Answers, progress, streams_in}
use Rattle.file_recorder.specs.EndingLaws.{ends_on, none_left, none_open, not_refused, nothing_yet}
use Rattle.file_recorder.proofs.EndsInTurn.{as_found, end_refused, left_open, none_told, told_in_part, told_on}
use Rattle.file_recorder.proofs.ending.end_open_streams.Goals as goal

pub loop-serial-init : goal.loop-serial-init
loop-serial-init g c = λ before is. (before, [], is, nothing_yet streams_in (Answers g.D.Disk) before, none_told _)

pub loop-serial-preserved : goal.loop-serial-preserved
loop-serial-preserved g c = λ before is.
    let (mid, replies, there, ended, so_far) = c.loop-serial.invariant before is in
    let (after, answered, now) = c.end_stream-reply.ensures.answers mid there in
    let serial = c.in-Some.serial in
    let reply = c.end_stream-reply.result in
    let first = as_found mid c.loop-serial.recorder c.first_open.result (Some serial) there c.first_open.ensures.first c.in-Some.is in (
      after,
      replies ++ reply ∷ [],
      now,
      ends_on streams_in (Answers g.D.Disk) before mid after replies serial reply [] ended first answered (not_refused reply c.in_default-reply.not-Refused),
      told_on _ _ _ replies reply so_far c.in-Ok.ensures.ok,
    )

pub loop-serial-smaller : goal.loop-serial-smaller
loop-serial-smaller g c =
    let first = sym c.first_open.ensures.first ∙ c.in-Some.is in
    c.ends_leave_fewer_open.ensures c.loop-serial.recorder c.end_stream-reply.new.self c.in-Some.serial c.end_stream-reply.result c.first_open.ensures.whole first c.end_stream-reply.ensures.replies
    (not_refused c.end_stream-reply.result c.in_default-reply.not-Refused)

pub returns-in-Err-clause-err : goal.returns-in-Err-clause-err
returns-in-Err-clause-err g c = λ first w.
    let before = progress first w c.args.recorder.now in
    let (mid, replies, there, ended, so_far) = c.loop-serial.invariant before refl in
    let (after, answered, now) = c.end_stream-reply.ensures.answers mid there in
    let serial = c.in-Some.serial in
    let open_one = as_found mid c.loop-serial.recorder c.first_open.result (Some serial) there c.first_open.ensures.first c.in-Some.is in
    (after, now, told_in_part (Answers g.D.Disk) g.S.Replies.waits before mid after _ _ _ replies serial c.end_stream-reply.result [] ended so_far open_one answered c.in-Err.ensures.err)

pub returns-in-Refused-clause-ok : goal.returns-in-Refused-clause-ok
returns-in-Refused-clause-ok g c = λ first w.
    let before = progress first w c.args.recorder.now in
    let (mid, replies, there, ended, so_far) = c.loop-serial.invariant before refl in
    let (after, answered, now) = c.end_stream-reply.ensures.answers mid there in
    let serial = c.in-Some.serial in
    let refusal = c.in-Refused.field-0 in
    let open_one = as_found mid c.loop-serial.recorder c.first_open.result (Some serial) there c.first_open.ensures.first c.in-Some.is in (
      after,
      now,
      inr (
        replies,
        refusal,
        end_refused g.D.Disk before mid after replies serial c.end_stream-reply.result refusal ended open_one answered c.in-Refused.is,
        told_on _ _ _ replies (RefusedReply refusal) so_far
            (subst (λ (reply : Reply). Appends (g.S.Replies.lines c.loop-serial.replies) (g.S.Replies.lines c.reply.new.self) (reply_line reply)) c.in-Refused.is c.in-Ok.ensures.ok),
      ),
    )

pub returns-in-Refused-clause-left : goal.returns-in-Refused-clause-left
returns-in-Refused-clause-left g c =
    left_open c.loop-serial.recorder c.end_stream-reply.new.self c.in-Some.serial c.end_stream-reply.result c.in-Refused.field-0 c.in-Refused.is
    (sym c.first_open.ensures.first ∙ c.in-Some.is) c.end_stream-reply.ensures.replies

pub returns-clause-ok : goal.returns-clause-ok
returns-clause-ok g c = λ first w.
    let before = progress first w c.args.recorder.now in
    let (mid, replies, there, ended, so_far) = c.loop-serial.invariant before refl in
    let none = as_found mid c.loop-serial.recorder c.first_open.result None there c.first_open.ensures.first c.in_default.is in
    (mid, there, inl (replies, none_left streams_in (Answers g.D.Disk) before mid replies ended none, so_far))

pub returns-clause-left : goal.returns-clause-left
returns-clause-left g c = sym (none_open c.loop-serial.recorder.chain.streams (sym c.first_open.ensures.first ∙ c.in_default.is))
