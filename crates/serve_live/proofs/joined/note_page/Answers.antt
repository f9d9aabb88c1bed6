use Rattle.std.proofs.Common.{◌<◌, ℕ, List, length, get_or, ◌∙◌, ap, arith}
use Rattle.std.specs.Prelude.{slice_set, false}
use Rattle.std.proofs.lemmas.List.{get_or_default}
use Rattle.std.proofs.lemmas.List.Edits.{map_over_more}
use Rattle.serve_live.specs.declared.joined.JoinedStream.{JoinedStream}
use Rattle.serve_live.specs.Noting.{stream_with}
use Rattle.serve_live.proofs.joined.note_page.Goals as goal

-- what is read past the end of a list of streams
abbrev nobody : JoinedStream
nobody = record { serial = 0; begun_next = 0; begun_ended = false; next = 0; position = 0; ended = false }

pub loop-stream-preserved : goal.loop-stream-preserved
loop-stream-preserved c =
    let now : List JoinedStream = c.loop-stream.streams in
    let i : ℕ = c.loop-stream.stream-index in
    let inside : i < length now = omega (arith, c.loop-stream.auto.streams, c.loop-stream-test.true) in
    let was : JoinedStream = get_or now i nobody in
    ap (slice_set now i) c.stream_with.ensures
    ∙ map_over_more (stream_with c.args.part c.args.page.now) c.args.streams.now now i was c.loop-stream-test.true c.loop-stream.invariant
    (get_or_default now i nobody was inside)
