use Rattle.serve_live.proofs.Kept.{newest_is_kept}
use Rattle.serve_live.proofs.laws.the_newest_boundary_is_kept.Goals as goal

pub returns : goal.returns
returns c = newest_is_kept
