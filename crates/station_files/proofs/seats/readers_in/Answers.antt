use Rattle.std.proofs.Common.{ℕ, ◌+◌, drop, sym, ◌∙◌, ap, arith}
use Rattle.serve_clients.specs.Kinds.{sum}
use Rattle.slab.specs.Slab.{slab_len}
use Rattle.station_files.specs.Places.{readers_with}
use Rattle.station_files.specs.declared.seats.Past.{Past}
use Rattle.station_files.proofs.Placed.{fold_end, fold_next}
use Rattle.station_files.proofs.seats.readers_in.Goals as goal

pub loop-one-preserved : goal.loop-one-preserved
loop-one-preserved g c =
    let at = c.loop-one.one-index in
    let past = c.args.past.now in
    ap (λ (n : ℕ). readers_with n (drop (at + 1) past)) (c.saturating_add-sum.ensures ∙ ap (sum c.loop-one.sum) c.connections.ensures)
    ∙ sym (fold_next (λ (readers : ℕ) (one : Past _). sum readers (slab_len one.station.clients.slots)) c.loop-one.sum past at c.one-item.result c.loop-one-test.true c.one-item.is)
    ∙ c.loop-one.invariant

pub returns : goal.returns
returns g c =
    sym (fold_end (λ (readers : ℕ) (one : Past _). sum readers (slab_len one.station.clients.slots)) c.loop-one.sum c.args.past.now c.loop-one.one-index
    (omega (arith, c.loop-one-test.false)))
    ∙ c.loop-one.invariant
