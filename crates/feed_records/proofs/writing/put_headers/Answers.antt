use Rattle.std.proofs.Common.{ℕ, List, ap, length, arith}
use Rattle.feed_records.specs.Record.{packet_bytes, FitsHeader}
use Rattle.feed_records.proofs.SizeFacts.{length-flat_map-item, length-packet_bytes}
use Rattle.feed_records.proofs.WritingFacts.{has, grows_item, grows_as}
use Rattle.feed_records.proofs.writing.put_headers.Goals as goal

pub put_packet-requires-clause-fields : goal.put_packet-requires-clause-fields
put_packet-requires-clause-fields c =
    let fits = has FitsHeader c.args.headers.now c.loop-header.header-index c.header-item.result c.requires.fields c.loop-header-test.true c.header-item.is in
    omega (arith, fits, ap length c.as_slice.ensures)

pub put_packet-requires-clause-room : goal.put_packet-requires-clause-room
put_packet-requires-clause-room c =
    let fits = length-flat_map-item packet_bytes c.args.headers.now c.loop-header.header-index c.header-item.result c.loop-header-test.true c.header-item.is in
    omega (arith, fits, c.requires.room, c.loop-header.invariant.len, c.loop-header.invariant.room, length-packet_bytes c.header-item.result, ap length c.as_slice.ensures)

pub loop-header-preserved : goal.loop-header-preserved
loop-header-preserved c =
    let header : List ℕ = c.header-item.result in
    let copied = c.as_slice.ensures in
    grows_item packet_bytes c.args.headers.now c.loop-header.header-index header c.args.out.now c.loop-header.out c.put_packet.new.out c.loop-header-test.true c.header-item.is
    c.loop-header.invariant
    (grows_as c.loop-header.out c.put_packet.new.out _ (packet_bytes header) _ _ (ap packet_bytes copied)
    (omega (arith, length-packet_bytes header, ap length copied)) c.put_packet.ensures)
