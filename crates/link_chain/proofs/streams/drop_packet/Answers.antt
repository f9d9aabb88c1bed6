use Rattle.std.proofs.Common.{◌<◌, ℕ, List, length, get_or, ◌∙◌, ap, arith}
use Rattle.std.specs.Prelude.{slice_set}
use Rattle.std.proofs.lemmas.List.{get_or_default}
use Rattle.std.proofs.lemmas.List.Edits.{map_over_more}
use Rattle.link_chain.specs.declared.stream_state.StreamState.{StreamState}
use Rattle.link_chain.specs.Progress.{change_at, left_whole}
use Rattle.link_chain.proofs.Progress.{nobody}
use Rattle.link_chain.proofs.streams.drop_packet.Goals as goal

pub loop-stream-preserved : goal.loop-stream-preserved
loop-stream-preserved c =
    let now : List StreamState = c.loop-stream.streams in
    let i : ℕ = c.loop-stream.stream-index in
    let inside : i < length now = omega (arith, c.loop-stream.auto.streams, c.loop-stream-test.true) in
    let was : StreamState = get_or now i nobody in
    ap (slice_set now i) c.whole.ensures
    ∙ map_over_more (change_at c.args.serial left_whole) c.args.streams.now now i was c.loop-stream-test.true c.loop-stream.invariant
    (get_or_default now i nobody was inside)
