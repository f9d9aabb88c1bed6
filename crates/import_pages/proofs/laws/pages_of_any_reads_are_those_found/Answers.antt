use Rattle.import_pages.proofs.Run.{all_given}
use Rattle.import_pages.proofs.laws.pages_of_any_reads_are_those_found.Goals as goal

pub returns : goal.returns
returns c = λ state bytes lent end last fits run. all_given lent state bytes end last fits run
