use Rattle.std.proofs.Common.{◌≡◌, ◌<◌, ℕ, List, length, get_or, ◌∙◌, ap, arith}
use Rattle.std.specs.Prelude.{slice_set}
use Rattle.std.proofs.lemmas.List.{get_or_default}
use Rattle.std.proofs.lemmas.List.Edits.{map_over_more}
use Rattle.ogg_command.specs.declared.command.NewStream.{NewStream}
use Rattle.import_changes.specs.Naming.{stream_named}
use Rattle.import_changes.proofs.renaming.take_names.Goals as goal

pub loop-stream-preserved : goal.loop-stream-preserved
loop-stream-preserved c =
    let streams : List NewStream = c.args.streams.now in
    let now : List NewStream = c.loop-stream.streams in
    let i : ℕ = c.loop-stream.stream-index in
    let stream : NewStream = get_or now i c.stream-item.result in
    let inside : i < length streams = c.loop-stream-test.true in
    let own : stream ≡ get_or now i stream = get_or_default now i c.stream-item.result stream (omega (arith, c.loop-stream.auto.streams, inside)) in
    ap (slice_set now i) c.take_name.ensures
    ∙ map_over_more (stream_named c.args.names.now) streams now i stream inside c.loop-stream.invariant own
