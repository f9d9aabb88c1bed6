use Rattle.serve_sources.proofs.Staying.{source_stays, own_stays, no_source_is, no_own_comes}
use Rattle.serve_sources.proofs.laws.answers_stay.Goals as goal

pub returns-clause-source : goal.returns-clause-source
returns-clause-source c = source_stays

pub returns-clause-own : goal.returns-clause-own
returns-clause-own c = own_stays

pub returns-clause-no_source : goal.returns-clause-no_source
returns-clause-no_source c = no_source_is

pub returns-clause-no_own : goal.returns-clause-no_own
returns-clause-no_own c = no_own_comes
