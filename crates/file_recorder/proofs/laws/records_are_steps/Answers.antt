use Rattle.file_recorder.proofs.Bytes.{grown}
use Rattle.file_recorder.proofs.Steps.{are_steps}
use Rattle.file_recorder.proofs.laws.records_are_steps.Goals as goal

pub returns-clause-steps : goal.returns-clause-steps
returns-clause-steps g c =
    let d = g.D.Disk in
    are_steps d c.refusals_are_of_the_table.ensures

pub returns-clause-bytes : goal.returns-clause-bytes
returns-clause-bytes g c = λ before after records replies bytes all honest links waiting has.
    let d = g.D.Disk in
    grown d c.refusals_are_of_the_table.ensures links waiting before after records replies bytes honest has all
