use Rattle.std.proofs.Common.{◌≡◌, sym, ◌∙◌, ap, subst, arith, None}
use Rattle.link_chain.specs.ChainState.{ChainState}
use Rattle.link_chain.specs.Taking.{fault_of_page}
use Rattle.link_chain.specs.Laws.Walked.{no_fault_there}
use Rattle.std.specs.Prelude.{Err}
use Rattle.link_index.specs.Adding.{IsLeft, AddsPages, fault_at}
use Rattle.link_index.proofs.Walking.{adds_more, same_index, left_at, stops}
use Rattle.link_index.proofs.index.Index.add.Goals as goal

pub returns-in-Err-add_page : goal.returns-in-Err-add_page
returns-in-Err-add_page c = λ links is.
    let same = c.in-Err-add_page.ensures.same in
    let left : IsLeft c.loop-rest.self.chain.chain c.loop-rest.rest.now (Err (fault_at c.end-in-Err-add_page.result c.in-Err-add_page.fault)) =
    left_at c.loop-rest.self.chain.chain c.loop-rest.rest.now c.in-Ok.split.1.now c.in-Ok.split.0 c.end-in-Err-add_page.result
    (c.end-in-Err-add_page.ensures ∙ ap (λ (ch : ChainState). ch.length_of) same.0) c.in-Ok.ensures.split.0 c.in-Ok.ensures.split.1
    c.add_page.result c.in-Err-add_page.fault c.in-Err-add_page.is c.add_page.ensures.fault (λ none. c.in-Err-add_page.is ∙ (c.in-Err-add_page.ensures.memory none).0)
    c.add_page.ensures.later in
    subst (AddsPages links c.args.chunk.now c.add_page.new.self) (ap Err (sym c.fault_at.ensures))
    (stops links c.args.chunk.now c.loop-rest.rest.now c.add_page.new.self (Err (fault_at c.end-in-Err-add_page.result c.in-Err-add_page.fault))
    (same_index links c.args.chunk.now c.loop-rest.rest.now c.loop-rest.self c.add_page.new.self same (c.loop-rest.invariant.some links is))
    (subst (λ (ch : ChainState). IsLeft ch c.loop-rest.rest.now (Err (fault_at c.end-in-Err-add_page.result c.in-Err-add_page.fault))) (sym same.0) left))

pub loop-rest-preserved : goal.loop-rest-preserved
loop-rest-preserved c =
    let none : fault_of_page c.loop-rest.self.chain.chain c.in-Ok.split.0 ≡ None =
    no_fault_there _ (λ fault e. c.in_default.not-Err fault (c.add_page.ensures.fault fault e)) in
    record {
      some = λ links is. adds_more links c.args.chunk.now c.loop-rest.rest.now c.in-Ok.split.1.now c.loop-rest.self c.add_page.new.self c.in-Ok.split.0
          (c.loop-rest.invariant.some links is) c.in-Ok.ensures.split.0 c.in-Ok.ensures.split.1 none c.in_default.ensures.index;
      grows = omega (arith, c.in-Ok.ensures.size, c.loop-rest.invariant.grows, c.in_default.ensures.grows);
    }
