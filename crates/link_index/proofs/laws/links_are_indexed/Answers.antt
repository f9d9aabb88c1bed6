use Rattle.link_index.proofs.Places.{whole}
use Rattle.link_index.proofs.Complete.{only_memory}
use Rattle.link_index.proofs.laws.links_are_indexed.Goals as goal

pub returns-clause-added : goal.returns-clause-added
returns-clause-added c = whole

pub returns-clause-each : goal.returns-clause-each
returns-clause-each c = only_memory
