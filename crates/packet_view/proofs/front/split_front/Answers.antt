use Rattle.std.proofs.Common.{◌+◌, ◌*◌, ℕ, List, [], ◌∷◌, take, drop, get_or, sum, arith, ap, sym, ◌∙◌}
use Rattle.packet_view.specs.Packets.{packets_in, parts_behind}
use Rattle.packet_view.proofs.Fronts.{splits_at, all_full, open_facts, end_facts, ended_with}
use Rattle.packet_view.proofs.front.split_front.Goals as goal

pub returns-then-full-unread : goal.returns-then-full-unread
returns-then-full-unread c =
    let u = c.args.unread in
    let facts = open_facts u.position u.place c.full_values-full.result u.lacing.now u.body.now (all_full u.lacing.now c.full_values-full.result c.full_values-full.ensures.value (omega arith)) u.whole in
    record { packets = facts.packets; behind = facts.behind; front = facts.front }

pub overflow_mul-size : goal.overflow_mul-size
overflow_mul-size c =
    let u = c.args.unread in
    let at = splits_at u.lacing.now c.full_values-full.result c.full_values-full.ensures.value (omega arith) in
    omega (arith, at.added, u.whole, u.fits)

pub overflow_add-size : goal.overflow_add-size
overflow_add-size c =
    let u = c.args.unread in
    let at = splits_at u.lacing.now c.full_values-full.result c.full_values-full.ensures.value (omega arith) in
    omega (arith, at.added, u.whole, u.fits, c.from.ensures)

pub split_at-requires : goal.split_at-requires
split_at-requires c =
    let u = c.args.unread in
    let at = splits_at u.lacing.now c.full_values-full.result c.full_values-full.ensures.value (omega arith) in
    omega (arith, at.added, u.whole, c.from.ensures)

pub invariant_of-result : goal.invariant_of-result
invariant_of-result c =
    let u = c.args.unread in
    let at = splits_at u.lacing.now c.full_values-full.result c.full_values-full.ensures.value (omega arith) in
    record {
      whole = ap sum c.split_at-2.ensures.back ∙ omega (arith, at.added, u.whole, c.from.ensures, c.split_at.ensures.back_len);
      fits = omega (arith, at.added, u.whole, u.fits, c.from.ensures, c.split_at.ensures.back_len);
    }

pub returns : goal.returns
returns c =
    let u = c.args.unread in
    let full = c.full_values-full.result in
    let at = splits_at u.lacing.now full c.full_values-full.ensures.value (omega arith) in
    let total : ℕ = 255 * full + c.from.result in
    let rest : List ℕ = drop (full + 1) u.lacing.now in
    let facts = end_facts u.position u.place full (get_or u.lacing.now full 0) total u.lacing.now rest u.body.now at (ap (λ n. 255 * full + n) (sym c.from.ensures)) in
    record {
      packets = λ parts. facts.packets parts
          ∙ ap (λ l. ended_with u.position parts u.place l rest ∷ packets_in u.position [] (u.place + total) 0 rest (drop total u.body.now)) (sym c.split_at.ensures.front)
          ∙ ap (λ l. ended_with u.position parts u.place c.split_at.result.0.now l ∷ packets_in u.position [] (u.place + total) 0 l (drop total u.body.now)) (sym c.split_at-2.ensures.back)
          ∙ ap (λ l. ended_with u.position parts u.place c.split_at.result.0.now c.split_at-2.result.1.now ∷ packets_in u.position [] (u.place + total) 0 c.split_at-2.result.1.now l) (sym c.split_at.ensures.back);
      behind = λ parts. facts.behind parts
          ∙ ap (λ l. parts_behind [] (u.place + total) 0 l (drop total u.body.now)) (sym c.split_at-2.ensures.back)
          ∙ ap (λ l. parts_behind [] (u.place + total) 0 c.split_at-2.result.1.now l) (sym c.split_at.ensures.back);
      end = omega (arith, at.added, u.whole, c.from.ensures, c.split_at.ensures.back_len);
      front = c.split_at.ensures.front ∙ ap (λ n. take n u.body.now) (sym facts.front);
    }
