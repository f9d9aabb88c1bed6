use Rattle.link_chain.specs.Laws.InTurn.{in_turn}
use Rattle.link_chain.proofs.laws.pages_in_turn_are_links.Goals as goal

pub returns : goal.returns
returns c = in_turn
