use Rattle.std.proofs.Common.{refl}
use Rattle.archive_record.specs.Writing.{writing}
use Rattle.archive_record.proofs.newest.NewestRunner.run_flush.Goals as goal

pub returns-clause-answers : goal.returns-clause-answers
returns-clause-answers g c before (name, is) =
    let (after, answered, is_after) = c.run_flush.ensures.answers before.progress is in
    (writing before.name after, record { answered = answered; same = refl }, (name, is_after))
