use Rattle.std.proofs.Common.{[], subst}
use Rattle.link_index.specs.Adding.{AddsPages}
use Rattle.link_index.proofs.index.Index.scan.Goals as goal

pub returns-in-Err-clause-err : goal.returns-in-Err-clause-err
returns-in-Err-clause-err c = (c.add.new.self, subst (AddsPages [] c.args.bytes.now c.add.new.self) c.in-Err.is (c.add.ensures [] c.new-index.ensures))
