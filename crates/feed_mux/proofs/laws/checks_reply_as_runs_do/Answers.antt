use Rattle.feed_mux.proofs.Checked.{as_a_check, as_a_run}
use Rattle.feed_mux.proofs.laws.checks_reply_as_runs_do.Goals as goal

pub returns-clause-as_runs : goal.returns-clause-as_runs
returns-clause-as_runs c = as_a_run

pub returns-clause-as_checks : goal.returns-clause-as_checks
returns-clause-as_checks c = as_a_check
