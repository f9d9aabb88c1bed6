use Rattle.serve_sources.proofs.Staying.{has_grown, no_head_comes, one_head}
use Rattle.serve_sources.proofs.laws.heads_stay.Goals as goal

pub returns-clause-one : goal.returns-clause-one
returns-clause-one c = one_head

pub returns-clause-stays : goal.returns-clause-stays
returns-clause-stays c = has_grown

pub returns-clause-none : goal.returns-clause-none
returns-clause-none c = no_head_comes
