use Rattle.import_record.proofs.Turns.{answered_in_turn}
use Rattle.file_recorder.specs.Running.{Answers}
use Rattle.import_record.proofs.laws.recordings_are_steps_of_their_file.Goals as goal

pub returns-clause-steps : goal.returns-clause-steps
returns-clause-steps g c events old new done before after records =
    let (bytes, all) = answered_in_turn (Answers g.D.Disk) events old new done before after records in
    c.records_are_steps.ensures.steps before after done.records done.replies bytes all

pub returns-clause-bytes : goal.returns-clause-bytes
returns-clause-bytes g c events old new done before after records honest links waiting has =
    let (bytes, all) = answered_in_turn (Answers g.D.Disk) events old new done before after records in
    c.records_are_steps.ensures.bytes before after done.records done.replies bytes all honest links waiting has
