use Rattle.std.proofs.Common.{◌≡◌, arith, None}
use Rattle.link_chain.specs.Taking.{fault_of_page}
use Rattle.link_chain.specs.Laws.Walked.{takes_more, no_fault_there}
use Rattle.link_chain.proofs.walking.take_pages.Goals as goal

pub loop-rest-preserved : goal.loop-rest-preserved
loop-rest-preserved c =
    let none : fault_of_page c.loop-rest.chain.chain c.in-Ok.split.0 ≡ None =
    no_fault_there _ (λ fault e. c.in_default.not-Err fault (c.take_page.ensures.fault fault e)) in
    record {
      some = λ links is. takes_more links c.args.bytes.now c.loop-rest.rest.now c.in-Ok.split.1.now c.loop-rest.chain.chain c.take_page.new.self.chain c.in-Ok.split.0
          (c.loop-rest.invariant.some links is) c.in-Ok.ensures.split.0 c.in-Ok.ensures.split.1 none c.in_default.ensures.links;
      within = omega (arith, c.in-Ok.ensures.size, c.loop-rest.invariant.within);
      grows = omega (arith, c.in-Ok.ensures.size, c.loop-rest.invariant.grows, c.in_default.ensures.grows);
    }
