use Rattle.chain_rules.proofs.Adding.{adds_some, adds_pages}
use Rattle.chain_rules.proofs.laws.command_adds_pages.Goals as goal

pub returns : goal.returns
returns c = record { some = adds_some; pages = adds_pages }
