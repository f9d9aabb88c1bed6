use Rattle.std.proofs.Common.{◌+◌, drop, sym, ◌∙◌, ap, arith}
use Rattle.serve_clients.specs.Kinds.{both, kinds_in}
use Rattle.serve_clients.specs.declared.kinds.Kinds.{Kinds}
use Rattle.station_files.specs.Places.{kinds_with}
use Rattle.station_files.specs.declared.seats.Past.{Past}
use Rattle.station_files.proofs.Placed.{fold_end, fold_next}
use Rattle.station_files.proofs.seats.kinds_in.Goals as goal

pub loop-one-preserved : goal.loop-one-preserved
loop-one-preserved g c =
    let at = c.loop-one.one-index in
    let past = c.args.past.now in
    ap (λ (n : Kinds). kinds_with n (drop (at + 1) past)) (c.and-kinds.ensures ∙ ap (both c.loop-one.kinds) c.kinds.ensures)
    ∙ sym (fold_next (λ (kinds : Kinds) (one : Past _). both kinds (kinds_in one.station.clients.slots)) c.loop-one.kinds past at c.one-item.result c.loop-one-test.true c.one-item.is)
    ∙ c.loop-one.invariant

pub returns : goal.returns
returns g c =
    sym (fold_end (λ (kinds : Kinds) (one : Past _). both kinds (kinds_in one.station.clients.slots)) c.loop-one.kinds c.args.past.now c.loop-one.one-index
    (omega (arith, c.loop-one-test.false)))
    ∙ c.loop-one.invariant
