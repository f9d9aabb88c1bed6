use Rattle.std.proofs.Common.{arith}
use Rattle.feed_records.specs.Record.{stream_bytes}
use Rattle.feed_records.proofs.SizeFacts.{length-flat_map-more, length-flat_map-item}
use Rattle.feed_records.proofs.size.streams_size.Goals as goal

pub stream_size-size-requires : goal.stream_size-size-requires
stream_size-size-requires c =
    let fits = length-flat_map-item (stream_bytes c.args.version) c.args.streams.now c.loop-stream.stream-index c.stream-item.result c.loop-stream-test.true c.stream-item.is in
    omega (arith, c.requires, fits)

pub overflow_add-size : goal.overflow_add-size
overflow_add-size c =
    let fits = length-flat_map-item (stream_bytes c.args.version) c.args.streams.now c.loop-stream.stream-index c.stream-item.result c.loop-stream-test.true c.stream-item.is in
    omega (arith, c.requires, fits, c.stream_size-size.ensures, c.loop-stream.invariant)

pub loop-stream-preserved : goal.loop-stream-preserved
loop-stream-preserved c =
    let more = length-flat_map-more (stream_bytes c.args.version) c.args.streams.now c.loop-stream.stream-index c.stream-item.result c.loop-stream-test.true c.stream-item.is in
    omega (arith, more, c.stream_size-size.ensures, c.loop-stream.invariant)
