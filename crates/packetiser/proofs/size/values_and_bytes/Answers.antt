use Rattle.std.proofs.Common.{◌≤◌, length, map, sum_by, sym, ◌∙◌, ap, arith}
use Rattle.std.proofs.lemmas.List.{take_all}
use Rattle.packetiser.specs.Laws.Sizes.{values_in, bytes_in, length-run_lacing, length-run_bytes, sum_by-map}
use Rattle.packetiser.proofs.size.values_and_bytes.Goals as goal

pub returns-clause-values : goal.returns-clause-values
returns-clause-values g c =
    let timed = g.T.TimedPacket.timed in
    let run = c.args.run.now in
    let all : length run ≤ c.loop-item.item-index = omega (arith, c.loop-item-test.false) in
    c.loop-item.invariant.values ∙ ap (sum_by (λ x. values_in (timed x))) (take_all c.loop-item.item-index run all)
    ∙ sym (length-run_lacing (map timed run) ∙ sum_by-map values_in timed run)

pub returns-clause-bytes : goal.returns-clause-bytes
returns-clause-bytes g c =
    let timed = g.T.TimedPacket.timed in
    let run = c.args.run.now in
    let all : length run ≤ c.loop-item.item-index = omega (arith, c.loop-item-test.false) in
    c.loop-item.invariant.bytes ∙ ap (sum_by (λ x. bytes_in (timed x))) (take_all c.loop-item.item-index run all)
    ∙ sym (length-run_bytes (map timed run) ∙ sum_by-map bytes_in timed run)
