use Rattle.archive_history.proofs.Events.{same_account, making, throwing, failed_making, failed_throwing, syncing, stopping, ending}
use Rattle.archive_history.proofs.Starting.{recorded_names, last_file, ended_names, aside_names, resumed_names}
use Rattle.archive_history.proofs.laws.calls_are_events.Goals as goal

pub returns-clause-making : goal.returns-clause-making
returns-clause-making g c = making

pub returns-clause-throwing : goal.returns-clause-throwing
returns-clause-throwing g c = throwing

pub returns-clause-syncing : goal.returns-clause-syncing
returns-clause-syncing g c = syncing

pub returns-clause-stopping : goal.returns-clause-stopping
returns-clause-stopping g c = stopping

pub returns-clause-failed_making : goal.returns-clause-failed_making
returns-clause-failed_making g c = failed_making

pub returns-clause-failed_throwing : goal.returns-clause-failed_throwing
returns-clause-failed_throwing g c = failed_throwing

pub returns-clause-ending : goal.returns-clause-ending
returns-clause-ending g c = ending

pub returns-clause-ended : goal.returns-clause-ended
returns-clause-ended g c = ended_names

pub returns-clause-set_aside : goal.returns-clause-set_aside
returns-clause-set_aside g c = aside_names

pub returns-clause-resumed : goal.returns-clause-resumed
returns-clause-resumed g c = resumed_names

pub returns-clause-starting : goal.returns-clause-starting
returns-clause-starting g c = last_file

pub returns-clause-recorded : goal.returns-clause-recorded
returns-clause-recorded g c = recorded_names

pub returns-clause-unchanged : goal.returns-clause-unchanged
returns-clause-unchanged g c = same_account
