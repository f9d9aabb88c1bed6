use Rattle.std.proofs.Common.{◌≡◌, ◌+◌, ◌*◌, ◌∙◌, List, ℕ, length, drop, get_or, sum, arith, ap}
use Rattle.std.proofs.lemmas.List.{length-drop}
use Rattle.ogg_page.specs.PageLaws.{page_fits}
use Rattle.packet_view.proofs.Fronts.{splits_at, all_full}
use Rattle.packet_view.proofs.Cuts.{cut_open, cut_end}
use Rattle.packet_view.proofs.cut.cut_front.Goals as goal

pub returns-then-full-lacing : goal.returns-then-full-lacing
returns-then-full-lacing c =
    let lacing : List ℕ = c.split_at.result.1.now in
    let full = c.full_values-full in
    cut_open c.args.page.now c.args.progress c.args.cut full.result (length c.body.result.now) lacing c.requires
    (c.split_at.ensures.back ∙ ap (drop c.args.cut.values) c.lacing.ensures)
    (all_full lacing full.result full.ensures.value (omega arith)) (ap length c.body.ensures)

pub overflow_add-end-2 : goal.overflow_add-end-2
overflow_add-end-2 c =
    let lacing : List ℕ = c.split_at.result.1.now in
    let page = c.args.page.now in
    let full = c.full_values-full.result in
    let at = splits_at lacing full c.full_values-full.ensures.value (omega arith) in
    let size : sum lacing ≡ length (drop c.args.cut.bytes page.body) = ap sum (c.split_at.ensures.back ∙ ap (drop c.args.cut.values) c.lacing.ensures) ∙ c.requires.whole in
    omega (arith, at.added, size, length-drop c.args.cut.bytes page.body, c.requires.bytes, c.from.ensures, page_fits page c.requires.is_page)

pub returns : goal.returns
returns c =
    let lacing : List ℕ = c.split_at.result.1.now in
    let full = c.full_values-full.result in
    let at = splits_at lacing full c.full_values-full.ensures.value (omega arith) in
    cut_end c.args.page.now c.args.progress c.args.cut full (get_or lacing full 0) (c.args.cut.bytes + (255 * full + c.from.result)) lacing c.split_at-2.result.1.now c.position_before.result c.rest_of.result c.requires
    (c.split_at.ensures.back ∙ ap (drop c.args.cut.values) c.lacing.ensures) at c.split_at-2.ensures.back (ap (λ n. c.args.cut.bytes + (255 * full + n)) c.from.ensures) c.position_before.ensures c.rest_of.ensures
