use Rattle.ogg_page.specs.Laws.Found.{are_found}
use Rattle.ogg_page.proofs.laws.pages_are_found_in_turn.Goals as goal

pub returns : goal.returns
returns c = λ bytes h. are_found bytes h
