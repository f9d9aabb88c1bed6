use Rattle.std.proofs.Common.{[]}
use Rattle.std.proofs.KnownBytes.{Appends-nil}
use Rattle.file_recorder.proofs.running.RecorderRunner.run_command.Goals as goal

pub returns-clause-ok : goal.returns-clause-ok
returns-clause-ok g c = λ before reached.
    let came = c.answer.ensures.answers before reached in
    ([], came.0, came.1, came.2, Appends-nil _)
