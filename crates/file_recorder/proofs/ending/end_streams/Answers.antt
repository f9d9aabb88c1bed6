use Rattle.std.proofs.Common.{[], ◌∷◌, ◌++◌, ◌∙◌, Some, None, refl, sym}
use Rattle.file_recorder.specs.Running.{Answers, progress, streams_in}
use Rattle.file_recorder.specs.EndingLaws.{ends_on, none_left, none_open, not_refused, nothing_yet}
use Rattle.file_recorder.proofs.EndsInTurn.{as_found, end_refused, left_open}
use Rattle.file_recorder.proofs.ending.end_streams.Goals as goal

pub loop-serial-init : goal.loop-serial-init
loop-serial-init g c = λ before is. (before, [], is, nothing_yet streams_in (Answers g.D.Disk) before)

pub loop-serial-preserved : goal.loop-serial-preserved
loop-serial-preserved g c = λ before is.
    let (mid, replies, there, ended) = c.loop-serial.invariant before is in
    let (after, answered, now) = c.end_stream.ensures.answers mid there in
    let serial = c.in-Some.serial in
    let reply = c.end_stream.result in
    let first = as_found mid c.loop-serial.recorder c.first_open.result (Some serial) there c.first_open.ensures.first c.in-Some.is in
    (after, replies ++ reply ∷ [], now, ends_on streams_in (Answers g.D.Disk) before mid after replies serial reply [] ended first answered (not_refused reply c.in_default-end_stream.not-Refused))

pub loop-serial-smaller : goal.loop-serial-smaller
loop-serial-smaller g c =
    let old = c.loop-serial.recorder in
    let first = sym c.first_open.ensures.first ∙ c.in-Some.is in
    c.ends_leave_fewer_open.ensures old c.end_stream.new.self c.in-Some.serial c.end_stream.result c.first_open.ensures.whole first c.end_stream.ensures.replies
    (not_refused c.end_stream.result c.in_default-end_stream.not-Refused)

pub returns-in-Refused-clause-refused : goal.returns-in-Refused-clause-refused
returns-in-Refused-clause-refused g c = λ first w.
    let before = progress first w c.args.recorder.now in
    let (mid, replies, there, ended) = c.loop-serial.invariant before refl in
    let (after, answered, now) = c.end_stream.ensures.answers mid there in
    let serial = c.in-Some.serial in
    let open_one = as_found mid c.loop-serial.recorder c.first_open.result (Some serial) there c.first_open.ensures.first c.in-Some.is in
    (after, replies, now, end_refused g.D.Disk before mid after replies serial c.end_stream.result c.in-Refused.refusal ended open_one answered c.in-Refused.is)

pub returns-clause-ended : goal.returns-clause-ended
returns-clause-ended g c = λ first w.
    let before = progress first w c.args.recorder.now in
    let (mid, replies, there, ended) = c.loop-serial.invariant before refl in
    (mid, replies, there, none_left streams_in (Answers g.D.Disk) before mid replies ended (as_found mid c.loop-serial.recorder c.first_open.result None there c.first_open.ensures.first c.in_default.is))

pub returns-in-Refused-clause-left : goal.returns-in-Refused-clause-left
returns-in-Refused-clause-left g c =
    sym (left_open c.loop-serial.recorder c.end_stream.new.self c.in-Some.serial c.end_stream.result c.in-Refused.refusal c.in-Refused.is
    (sym c.first_open.ensures.first ∙ c.in-Some.is) c.end_stream.ensures.replies)

pub returns-clause-none : goal.returns-clause-none
returns-clause-none g c = none_open c.loop-serial.recorder.chain.streams (sym c.first_open.ensures.first ∙ c.in_default.is)
