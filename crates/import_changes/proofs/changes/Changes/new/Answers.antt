use Rattle.std.proofs.Common.{[]}
use Rattle.import_changes.proofs.Steps.{no_commands}
use Rattle.import_changes.proofs.changes.Changes.new.Goals as goal

pub returns-clause-changed : goal.returns-clause-changed
returns-clause-changed c = no_commands [] _ c.new.ensures
