use Rattle.std.proofs.Common.{ℕ, ◌+◌, drop, sym, ◌∙◌, ap, arith}
use Rattle.serve_clients.specs.Kinds.{sum}
use Rattle.station_files.specs.Places.{turns_with}
use Rattle.station_files.specs.declared.seats.Past.{Past}
use Rattle.station_files.proofs.Placed.{fold_end, fold_next}
use Rattle.station_files.proofs.seats.turns_with.Goals as goal

pub loop-one-preserved : goal.loop-one-preserved
loop-one-preserved g c =
    let at = c.loop-one.one-index in
    let past = c.args.past.now in
    ap (λ (n : ℕ). turns_with n (drop (at + 1) past)) (c.saturating_add-sum.ensures ∙ ap (sum c.loop-one.sum) c.turns.ensures)
    ∙ sym (fold_next (λ (turns : ℕ) (one : Past _). sum turns one.station.clients.turns.len) c.loop-one.sum past at c.one-item.result c.loop-one-test.true c.one-item.is)
    ∙ c.loop-one.invariant

pub returns : goal.returns
returns g c =
    sym (fold_end (λ (turns : ℕ) (one : Past _). sum turns one.station.clients.turns.len) c.loop-one.sum c.args.past.now c.loop-one.one-index
    (omega (arith, c.loop-one-test.false)))
    ∙ c.loop-one.invariant
