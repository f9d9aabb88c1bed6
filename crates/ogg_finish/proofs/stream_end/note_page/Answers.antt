use Rattle.std.proofs.Common.{◌<◌, ℕ, None, List, length, get_or, ◌∙◌, ap, arith}
use Rattle.std.specs.Prelude.{slice_set, false}
use Rattle.std.proofs.lemmas.List.{get_or_default}
use Rattle.std.proofs.lemmas.List.Edits.{map_over_more}
use Rattle.ogg_finish.specs.declared.stream_end.StreamEnd.{StreamEnd}
use Rattle.ogg_finish.specs.Ends.{after_page}
use Rattle.ogg_finish.proofs.stream_end.note_page.Goals as goal

-- what is read past the end of a list of streams
abbrev nobody : StreamEnd
nobody = record { serial = 0; ended = false; mark = None }

pub loop-end-preserved : goal.loop-end-preserved
loop-end-preserved c =
    let now : List StreamEnd = c.loop-end.ends in
    let i : ℕ = c.loop-end.end-index in
    let inside : i < length now = omega (arith, c.loop-end.auto.ends, c.loop-end-test.true) in
    let was : StreamEnd = get_or now i nobody in
    ap (slice_set now i) c.after_page.ensures
    ∙ map_over_more (after_page c.args.page.now) c.args.ends.now now i was c.loop-end-test.true c.loop-end.invariant
    (get_or_default now i nobody was inside)
