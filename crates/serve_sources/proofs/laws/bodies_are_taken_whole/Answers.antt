use Rattle.serve_sources.proofs.Taking.{taken_is_read, taken_is_one}
use Rattle.serve_sources.proofs.laws.bodies_are_taken_whole.Goals as goal

pub returns-clause-read : goal.returns-clause-read
returns-clause-read c = taken_is_read

pub returns-clause-one : goal.returns-clause-one
returns-clause-one c = taken_is_one
