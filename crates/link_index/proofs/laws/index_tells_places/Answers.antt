use Rattle.link_index.proofs.Places.{tells_place}
use Rattle.link_index.proofs.laws.index_tells_places.Goals as goal

pub returns : goal.returns
returns c = tells_place
