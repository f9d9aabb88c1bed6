use Rattle.feed_run.specs.Laws.ReadOn.{none_run}
use Rattle.feed_run.proofs.Turns.{has_run_on}
use Rattle.feed_run.proofs.laws.runs_go_on.Goals as goal

pub returns-clause-begins : goal.returns-clause-begins
returns-clause-begins g c = λ start before. none_run g.T.Runner.answers start before

pub returns-clause-goes_on : goal.returns-clause-goes_on
returns-clause-goes_on g c = λ start old new was now records replies before mid after reply run one.
    has_run_on g.T.Runner.answers start old new was now records replies before mid after reply run one
