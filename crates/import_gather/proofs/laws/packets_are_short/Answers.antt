use Rattle.import_gather.proofs.Short.{are_short}
use Rattle.import_gather.proofs.laws.packets_are_short.Goals as goal

pub returns : goal.returns
returns c = are_short
