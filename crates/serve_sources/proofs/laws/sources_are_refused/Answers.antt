use Rattle.serve_sources.proofs.Refusing.{none_without_password, none_with_two_framings}
use Rattle.serve_sources.proofs.laws.sources_are_refused.Goals as goal

pub returns-clause-no_password : goal.returns-clause-no_password
returns-clause-no_password c = none_without_password

pub returns-clause-two_framings : goal.returns-clause-two_framings
returns-clause-two_framings c = none_with_two_framings
