use Rattle.skeleton3.proofs.FisboneFacts.{written_with_holds}
use Rattle.skeleton3.proofs.laws.fisbones_with_fields_are_held.Goals as goal

pub returns : goal.returns
returns c = written_with_holds
