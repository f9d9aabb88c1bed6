use Rattle.ogg_split.proofs.Salvaged.{one_list}
use Rattle.ogg_split.proofs.laws.good_pages_are_one_list.Goals as goal

pub returns : goal.returns
returns c bytes ranges others a b = one_list bytes 0 ranges others a b
