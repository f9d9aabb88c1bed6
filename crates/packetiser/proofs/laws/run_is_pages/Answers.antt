use Rattle.packetiser.specs.Laws.Ranges.{few_are_pages}
use Rattle.packetiser.proofs.laws.run_is_pages.Goals as goal

pub returns : goal.returns
returns c = few_are_pages
