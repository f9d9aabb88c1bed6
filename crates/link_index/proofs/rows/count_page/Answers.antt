use Rattle.std.proofs.Common.{◌<◌, ℕ, List, length, get_or, ◌∙◌, ap, arith}
use Rattle.std.specs.Prelude.{slice_set, false}
use Rattle.std.proofs.lemmas.List.{get_or_default}
use Rattle.std.proofs.lemmas.List.Edits.{map_over_more}
use Rattle.link_index.specs.declared.info.StreamInfo.{StreamInfo}
use Rattle.link_index.specs.Growth.{counted}
use Rattle.link_index.proofs.rows.count_page.Goals as goal

-- what is read past the end of a list of streams
abbrev nobody : StreamInfo
nobody = record { serial = 0; bytes = 0; pages = 0; ended = false }

pub loop-stream-preserved : goal.loop-stream-preserved
loop-stream-preserved c =
    let now : List StreamInfo = c.loop-stream.streams in
    let i : ℕ = c.loop-stream.stream-index in
    let inside : i < length now = omega (arith, c.loop-stream.auto.streams, c.loop-stream-test.true) in
    let was : StreamInfo = get_or now i nobody in
    ap (slice_set now i) c.counted.ensures
    ∙ map_over_more (counted c.args.page.now) c.args.streams.now now i was c.loop-stream-test.true c.loop-stream.invariant
    (get_or_default now i nobody was inside)
