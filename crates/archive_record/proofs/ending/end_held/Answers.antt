use Rattle.std.proofs.Common.{[], Err, ◌∙◌, ap}
use Rattle.file_recorder.specs.Recorder.{RecorderState}
use Rattle.std.specs.Prelude.{not}
use Rattle.std.specs.List.{list_any}
use Rattle.link_chain.specs.declared.stream_state.StreamState.{StreamState}
use Rattle.archive_record.proofs.Changed.{ends_all, ends_some}
use Rattle.archive_record.proofs.ending.end_held.Goals as goal

pub returns-in-Ok-clause-ends : goal.returns-in-Ok-clause-ends
returns-in-Ok-clause-ends g c before is =
    ends_all g.D.Disk before c.args.recorder.now c.hold_all.new.self c.end_streams.new.recorder c.is_open-was_open.result is c.hold_all.ensures.set
    (c.is_open-was_open.ensures ∙ ap (list_any (λ (s : StreamState). not s.ended)) c.streams.ensures) c.in-Ok.ensures.all

pub returns-in-Err-clause-ends : goal.returns-in-Err-clause-ends
returns-in-Err-clause-ends g c before is =
    ends_some g.D.Disk before c.args.recorder.now c.hold_all.new.self c.end_streams.new.recorder c.in-Err.unended is c.hold_all.ensures.set
    (λ failed. c.in-Err.ensures.flushed (ap Err failed)) (λ first w refusal refused. c.in-Err.ensures.met first w refusal (ap Err refused))

pub returns-in-Ok-clause-does : goal.returns-in-Ok-clause-does
returns-in-Ok-clause-does g c = λ w is.
    let told = c.hold_all.new.self in
    let (after, now, done) = c.end_streams.ensures.does [] w in
    (told, ap (λ (r : RecorderState _). r.file) c.hold_all.ensures.set, c.hold_all.ensures.stands [] w is, after, now, done)

pub returns-in-Err-clause-does : goal.returns-in-Err-clause-does
returns-in-Err-clause-does g c = λ w is.
    let told = c.hold_all.new.self in
    let (after, now, done) = c.end_streams.ensures.does [] w in
    (told, ap (λ (r : RecorderState _). r.file) c.hold_all.ensures.set, c.hold_all.ensures.stands [] w is, after, now, done)
