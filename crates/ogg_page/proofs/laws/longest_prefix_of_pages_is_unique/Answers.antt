use Rattle.ogg_page.specs.Laws.Walk.{one_prefix}
use Rattle.ogg_page.proofs.laws.longest_prefix_of_pages_is_unique.Goals as goal

pub returns : goal.returns
returns c = λ bytes p q x y a b. one_prefix p q bytes x y a b
