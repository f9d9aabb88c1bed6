use Rattle.std.proofs.Common.{[], ap}
use Rattle.file_recorder.specs.Recorder.{RecorderState}
use Rattle.archive_record.proofs.filing.ended.Goals as goal

pub returns-in-Ok-clause-does : goal.returns-in-Ok-clause-does
returns-in-Ok-clause-does g c = λ w is.
    let told = c.group.new.self in
    let (after, now, done) = c.end_open.ensures.does [] w in
    (told, ap (λ (r : RecorderState _). r.file) c.group.ensures.set, c.group.ensures.stands [] w is, after, now, done)

pub returns-in-Err-clause-does_err : goal.returns-in-Err-clause-does_err
returns-in-Err-clause-does_err g c = λ w is.
    let told = c.group.new.self in
    let (after, now, done) = c.end_open.ensures.does [] w in
    (told, ap (λ (r : RecorderState _). r.file) c.group.ensures.set, c.group.ensures.stands [] w is, after, now, done)
