use Rattle.import_mend.proofs.Sound.{all_none}
use Rattle.import_mend.proofs.mender.Mender.new.Goals as goal

pub returns-clause-none_lost : goal.returns-clause-none_lost
returns-clause-none_lost c = all_none 64
