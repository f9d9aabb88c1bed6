use Rattle.chain_rules.proofs.Adding.{of_the_table}
use Rattle.chain_rules.proofs.laws.refusals_are_of_the_table.Goals as goal

pub returns : goal.returns
returns c = of_the_table
