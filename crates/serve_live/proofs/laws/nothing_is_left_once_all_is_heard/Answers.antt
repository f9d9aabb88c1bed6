use Rattle.serve_live.proofs.HeardAll.{nothing_left}
use Rattle.serve_live.proofs.laws.nothing_is_left_once_all_is_heard.Goals as goal

pub returns : goal.returns
returns c = nothing_left
