use Rattle.std.proofs.Common.{arith}
use Rattle.import_pages.proofs.Definite.{short_is_small}
use Rattle.import_pages.proofs.filling.size_of_part.Goals as goal

pub returns-clause-part : goal.returns-clause-part
returns-clause-part c = short_is_small c.args.bytes.now (λ i. omega (arith, c.type_inv.bytes i)) c.requires
