use Rattle.link_index.proofs.Places.{added_links, same_index}
use Rattle.link_index.proofs.laws.pieces_give_one_index.Goals as goal

pub returns-clause-links : goal.returns-clause-links
returns-clause-links c = added_links

pub returns-clause-same : goal.returns-clause-same
returns-clause-same c = same_index
