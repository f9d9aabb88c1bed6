use Rattle.import_pages.proofs.Definite.{fault_stays}
use Rattle.import_pages.proofs.laws.definite_faults_stay.Goals as goal

pub returns : goal.returns
returns c = fault_stays
