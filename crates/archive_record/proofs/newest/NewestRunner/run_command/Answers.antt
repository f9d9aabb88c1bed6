use Rattle.std.proofs.Common.{refl}
use Rattle.std.proofs.lemmas.Result.{on_err_weaker}
use Rattle.archive_record.specs.Writing.{writing}
use Rattle.archive_record.proofs.newest.NewestRunner.run_command.Goals as goal

pub returns-in-Some-clause-ok : goal.returns-in-Some-clause-ok
returns-in-Some-clause-ok g c before (name, is) =
    let (own, after, answered, is_after, appended) = c.in-Ok.ensures.ok before.progress is in
    (own, writing before.name after, record { answered = answered; same = refl }, (name, is_after), appended)

pub returns-in_default-join_of-clause-ok : goal.returns-in_default-join_of-clause-ok
returns-in_default-join_of-clause-ok g c before (name, is) =
    let (own, after, answered, is_after, appended) = c.in-Ok.ensures.ok before.progress is in
    (own, writing before.name after, record { answered = answered; same = refl }, (name, is_after), appended)

pub returns-in_default-clause-err : goal.returns-in_default-clause-err
returns-in_default-clause-err g c before (name, is) =
    on_err_weaker c.run_command-answer.result
    (λ (reply, own, after, answered, is_before, written).
    (reply, own, writing before.name after, record { answered = answered; same = refl }, (name, is_before), written))
    (c.run_command-answer.ensures.err before.progress is)
