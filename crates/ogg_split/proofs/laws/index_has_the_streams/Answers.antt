use Rattle.ogg_split.proofs.Placed.{same_streams}
use Rattle.ogg_split.proofs.laws.index_has_the_streams.Goals as goal

pub returns : goal.returns
returns c = same_streams
