use Rattle.archive_cut.proofs.HeardOn.{heard_as_joined}
use Rattle.archive_cut.proofs.laws.listeners_hear_the_joined_link.Goals as goal

pub returns : goal.returns
returns c = heard_as_joined
