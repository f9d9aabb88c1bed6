use Rattle.std.proofs.Common.{◌≡◌, ◌≤◌, ◌<◌, ◌+◌, ◌-◌, ◌++◌, ℕ, List, [], ◌∷◌, length, map, take, sum, sym, ap, ◌∙◌, subst, arith, length-take, length-set}
use Rattle.std.proofs.lemmas.Bool.{ltb-true, ltb-false}
use Rattle.std.proofs.lemmas.List.{length-map, length-take-le, take_more_set}
use Rattle.std.specs.Borrow.{Bor}
use Rattle.packetiser.specs.Run.{Timed}
use Rattle.packetiser.proofs.Filling.{IsFilled, ends_here, goes_on, filled_same, sum_push, full_values, last_values}
use Rattle.packetiser.proofs.place.fill.Goals as goal
use Rattle.packetiser.proofs.place.fill.Goals.{then-ends_here, else-ends_here}

pub loop-count-preserved : goal.loop-count-preserved
loop-count-preserved g c =
    let timed = g.T.TimedPacket.timed in
    let run : List Timed = map timed c.args.from.now in
    let n : ℕ = c.loop-count.count in
    let done : ℕ = c.loop-count.done in
    let lacing : List ℕ = take n c.loop-count.lacing in
    let item : Timed = timed c.in-Some.item.now in
    let others : List Timed = map timed c.in-Some.others.now in
    let value : ℕ = length c.packet.result.now - done in
    let left : value ≡ length item.packet - done = ap (λ l. length l - done) c.packet.ensures in
    let room : n < length c.loop-count.lacing = omega (arith, c.loop-count.invariant.room, c.loop-count-test.true) in
    let before : IsFilled run c.args.begun lacing c.loop-count.position (item ∷ others) done =
    subst (λ l. IsFilled run c.args.begun lacing c.loop-count.position (map timed l) done) c.in-Some.ensures.cases.0 c.loop-count.invariant.filled in
    elim c.if-ends_here.branch [
      | then-ends_here w ↦
          let small : value < 255 = ltb-true value 255 (sym c.ends_here.ensures ∙ w.if-ends_here.true) in
          let pushed : take (n + 1) c.if-ends_here.lacing ≡ lacing ++ value ∷ [] =
          ap (take (n + 1)) w.lacing-is ∙ take_more_set c.loop-count.lacing n value room in
          record {
            filled = filled_same run c.args.begun _ (lacing ++ value ∷ []) _ item.position _ others _ 0
                pushed
                (w.position-is ∙ w.position-position.ensures)
                (ap (λ (r : Bor _). map timed r.now) w.rest-is)
                w.done-is
                (ends_here run c.args.begun lacing c.loop-count.position item others done value before left small);
            room = ap length w.lacing-is ∙ length-set c.loop-count.lacing n value ∙ c.loop-count.invariant.room;
            size_is = w.size-is ∙ ap (λ s. s + value) c.loop-count.invariant.size_is ∙ sym (ap sum pushed ∙ sum_push lacing value);
            few = omega (arith, w.size-is, c.loop-count.invariant.few, small);
          }
      | else-ends_here w ↦
          let long : 255 ≤ length item.packet - done = omega (arith, left, ltb-false value 255 (sym c.ends_here.ensures ∙ w.if-ends_here.false)) in
          let pushed : take (n + 1) c.if-ends_here.lacing ≡ lacing ++ 255 ∷ [] =
          ap (take (n + 1)) w.lacing-is ∙ take_more_set c.loop-count.lacing n 255 room in
          record {
            filled = filled_same run c.args.begun _ (lacing ++ 255 ∷ []) _ c.loop-count.position _ (item ∷ others) _ (done + 255)
                pushed
                w.position-is
                (ap (λ (r : Bor _). map timed r.now) w.rest-is ∙ ap (map timed) c.in-Some.ensures.cases.0)
                w.done-is
                (goes_on run c.args.begun lacing c.loop-count.position item others done before long);
            room = ap length w.lacing-is ∙ length-set c.loop-count.lacing n 255 ∙ c.loop-count.invariant.room;
            size_is = w.size-is ∙ ap (λ s. s + 255) c.loop-count.invariant.size_is ∙ sym (ap sum pushed ∙ sum_push lacing 255);
            few = omega (arith, w.size-is, c.loop-count.invariant.few);
          }
    ]

pub returns-in_default-clause-values : goal.returns-in_default-clause-values
returns-in_default-clause-values g c =
    let timed = g.T.TimedPacket.timed in
    (last_values (map timed c.args.from.now) c.args.begun _ _ _ _ c.loop-count.invariant.filled
    (length-map c.loop-count.rest.now timed ∙ c.in_default.ensures.cases)
    (omega (arith, length-take c.loop-count.count c.loop-count.lacing, c.loop-count.auto.count-end))).0

pub returns-in_default-clause-values_behind : goal.returns-in_default-clause-values_behind
returns-in_default-clause-values_behind g c =
    let timed = g.T.TimedPacket.timed in
    (last_values (map timed c.args.from.now) c.args.begun _ _ _ _ c.loop-count.invariant.filled
    (length-map c.loop-count.rest.now timed ∙ c.in_default.ensures.cases)
    (omega (arith, length-take c.loop-count.count c.loop-count.lacing, c.loop-count.auto.count-end))).1

-- the loop ended with all the room filled in
at_end : (n : ℕ) (lacing : List ℕ) → n ≤ 255 → 255 ≤ n → length lacing ≡ 255 → (n ≡ 255) × (length (take n lacing) ≡ 255)
at_end n lacing low high room = (omega arith, length-take-le n lacing (omega arith) ∙ omega arith)

pub returns-clause-values : goal.returns-clause-values
returns-clause-values g c =
    let all = at_end c.loop-count.count c.loop-count.lacing c.loop-count.auto.count-end c.loop-count-test.false c.loop-count.invariant.room in
    ap (λ k. take k c.loop-count.lacing) (sym all.0)
    ∙ (full_values (map g.T.TimedPacket.timed c.args.from.now) c.args.begun _ _ _ _ c.loop-count.invariant.filled all.1).0

pub returns-clause-values_behind : goal.returns-clause-values_behind
returns-clause-values_behind g c =
    let all = at_end c.loop-count.count c.loop-count.lacing c.loop-count.auto.count-end c.loop-count-test.false c.loop-count.invariant.room in
    (full_values (map g.T.TimedPacket.timed c.args.from.now) c.args.begun _ _ _ _ c.loop-count.invariant.filled all.1).1
