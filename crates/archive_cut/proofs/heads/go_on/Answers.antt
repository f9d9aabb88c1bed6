use Rattle.std.proofs.Common.{◌<◌, ℕ, List, length, get_or, ◌∙◌, ap, arith}
use Rattle.std.specs.Prelude.{slice_set, false}
use Rattle.std.proofs.lemmas.List.{get_or_default}
use Rattle.std.proofs.lemmas.List.Edits.{map_over_more}
use Rattle.link_chain.specs.declared.stream_state.StreamState.{StreamState}
use Rattle.link_chain.specs.Progress.{change_at}
use Rattle.archive_cut.specs.Heads.{followed_by}
use Rattle.archive_cut.proofs.heads.go_on.Goals as goal

-- what is read past the end of a list of streams
abbrev nobody : StreamState
nobody = record { serial = 0; next_sequence = 0; last_position = 0; ended = false; finished = false }

pub loop-stream-preserved : goal.loop-stream-preserved
loop-stream-preserved c =
    let now : List StreamState = c.loop-stream.streams in
    let i : ℕ = c.loop-stream.stream-index in
    let inside : i < length now = omega (arith, c.loop-stream.auto.streams, c.loop-stream-test.true) in
    let was : StreamState = get_or now i nobody in
    ap (slice_set now i) c.with_page.ensures
    ∙ map_over_more (change_at c.args.said.now.serial (followed_by c.args.said.now)) c.args.streams.now now i was c.loop-stream-test.true c.loop-stream.invariant
    (get_or_default now i nobody was inside)
