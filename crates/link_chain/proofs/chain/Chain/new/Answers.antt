use Rattle.std.proofs.Common.{sym, subst, arith}
use Rattle.link_chain.specs.Places.{HaveOwnSerials}
use Rattle.link_chain.specs.Laws.OwnSerials.{own_none}
use Rattle.link_chain.proofs.chain.Chain.new.Goals as goal

pub invariant_of-result : goal.invariant_of-result
invariant_of-result c = (omega (arith, c.new.ensures.len), omega arith, subst HaveOwnSerials (sym c.new.ensures.items) own_none)
