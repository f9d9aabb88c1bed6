use Rattle.serve_live.proofs.Beginning.{moment_hearing, waits_hearing}
use Rattle.serve_live.proofs.Hearing.{goes_on_hearing, hears_by_pull}
use Rattle.serve_live.proofs.laws.listeners_hear_what_they_should.Goals as goal

pub returns : goal.returns
returns c = record { begins = moment_hearing; waits = waits_hearing; grows = goes_on_hearing; pulls = hears_by_pull }
