use Rattle.std.proofs.Common.{◌≡◌, ◌+◌, sym, ◌∙◌, ap, arith}
use Rattle.slab.specs.Slab.{get}
use Rattle.serve_clients.specs.Kinds.{is_of, sum}
use Rattle.serve_clients.proofs.Counting.{are_all, as_many, at_most, one_more, tells}
use Rattle.serve_clients.proofs.clients.Clients.count.Goals as goal
use Rattle.serve_clients.proofs.clients.Clients.count.Goals.{then-is_of, else-is_of}

pub loop-key-preserved : goal.loop-key-preserved
loop-key-preserved c =
    let slots = c.args.self.now.slots in
    let kind = c.args.kind in
    let key = c.loop-key.key in
    let before = c.loop-key.invariant.0 in
    let is : is_of kind (get slots key) ≡ c.is_of.result = tells kind (get slots key) c.is_of.result c.is_of.ensures.some c.is_of.ensures.none in
    -- there are fewer than keys, so the counter doesn't come to its greatest value
    let counts : sum c.loop-key.count 1 ≡ c.loop-key.count + 1 =
    omega (arith, before, at_most kind slots key, c.loop-key-test.true, c.capacity-key-end.type_inv) in (
      elim c.if-is_of.branch [
        | then-is_of w ↦ w.count-is ∙ w.sum-count.ensures ∙ counts ∙ ap (λ n. n + 1) before ∙ sym (one_more kind slots key (is ∙ w.if-is_of.true))
        | else-is_of w ↦ w.count-is ∙ before ∙ sym (as_many kind slots key (is ∙ w.if-is_of.false))
      ],
      c.loop-key.invariant.1,
    )

pub returns : goal.returns
returns c =
    c.loop-key.invariant.0
    ∙ are_all c.args.kind c.args.self.now.slots c.loop-key.key (omega (arith, c.capacity-key-end.ensures.slots, c.loop-key-test.false))
