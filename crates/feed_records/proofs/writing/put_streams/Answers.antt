use Rattle.std.proofs.Common.{refl, sym, arith}
use Rattle.feed_records.specs.Record.{stream_bytes, FitsStream}
use Rattle.feed_records.proofs.SizeFacts.{length-flat_map-item, length-stream_bytes}
use Rattle.feed_records.proofs.WritingFacts.{has, grows_item, grows_as}
use Rattle.feed_records.proofs.writing.put_streams.Goals as goal

pub put_stream-requires-clause-fields : goal.put_stream-requires-clause-fields
put_stream-requires-clause-fields c =
    has (FitsStream c.args.version) c.args.streams.now c.loop-stream.stream-index c.stream-item.result c.requires.fields c.loop-stream-test.true c.stream-item.is

pub put_stream-requires-clause-room : goal.put_stream-requires-clause-room
put_stream-requires-clause-room c =
    let fits = length-flat_map-item (stream_bytes c.args.version) c.args.streams.now c.loop-stream.stream-index c.stream-item.result c.loop-stream-test.true c.stream-item.is in
    omega (arith, fits, c.requires.room, c.loop-stream.invariant.len, c.loop-stream.invariant.room, length-stream_bytes c.args.version c.stream-item.result)

pub loop-stream-preserved : goal.loop-stream-preserved
loop-stream-preserved c =
    grows_item (stream_bytes c.args.version) c.args.streams.now c.loop-stream.stream-index c.stream-item.result c.args.out.now c.loop-stream.out c.put_stream.new.out c.loop-stream-test.true c.stream-item.is
    c.loop-stream.invariant
    (grows_as c.loop-stream.out c.put_stream.new.out _ _ _ _ refl (sym (length-stream_bytes c.args.version c.stream-item.result)) c.put_stream.ensures)
