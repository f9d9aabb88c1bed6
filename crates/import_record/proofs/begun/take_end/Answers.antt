use Rattle.std.proofs.Common.{◌≡◌, ◌<◌, ℕ, List, length, get_or, ◌∙◌, ap, arith}
use Rattle.std.specs.Prelude.{slice_set}
use Rattle.std.proofs.lemmas.List.{get_or_default}
use Rattle.std.proofs.lemmas.List.Edits.{map_over_more}
use Rattle.import_record.specs.Begun.{with_end}
use Rattle.import_record.specs.declared.begun.BegunStream.{BegunStream}
use Rattle.import_record.proofs.begun.take_end.Goals as goal

pub loop-stream-preserved : goal.loop-stream-preserved
loop-stream-preserved c =
    let streams : List BegunStream = c.args.streams.now in
    let now : List BegunStream = c.loop-stream.streams in
    let i : ℕ = c.loop-stream.stream-index in
    let stream : BegunStream = get_or now i c.stream-item.result in
    let inside : i < length streams = c.loop-stream-test.true in
    let own : stream ≡ get_or now i stream = get_or_default now i c.stream-item.result stream (omega (arith, c.loop-stream.auto.streams, inside)) in
    ap (slice_set now i) c.take_end.ensures
    ∙ map_over_more (with_end c.args.serial) streams now i stream inside c.loop-stream.invariant own
