use Rattle.import_renumber.proofs.Steps.{flushed}
use Rattle.import_renumber.proofs.renumbered.RenumberedRunner.run_flush.Goals as goal

pub returns-clause-answers : goal.returns-clause-answers
returns-clause-answers g c = λ before under.
    flushed g.T.Runner.answers g.T.Runner.is_in before _ _ _ _ _ under (c.run_flush.ensures.answers before.below under.0)
