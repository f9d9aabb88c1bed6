use Rattle.serve_live.proofs.Chain.{heard_grows}
use Rattle.serve_live.proofs.laws.more_is_heard_as_more_is_committed.Goals as goal

pub returns : goal.returns
returns c = heard_grows
