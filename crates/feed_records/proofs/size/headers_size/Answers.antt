use Rattle.std.proofs.Common.{arith}
use Rattle.feed_records.specs.Record.{packet_bytes}
use Rattle.feed_records.proofs.SizeFacts.{length-flat_map-more, length-flat_map-item, length-packet_bytes}
use Rattle.feed_records.proofs.size.headers_size.Goals as goal

pub overflow_add-size : goal.overflow_add-size
overflow_add-size c =
    let fits = length-flat_map-item packet_bytes c.args.headers.now c.loop-header.header-index c.header-item.result c.loop-header-test.true c.header-item.is in
    omega (arith, c.requires, fits, length-packet_bytes c.header-item.result, c.len.ensures)

pub overflow_add-size-in-loop-header : goal.overflow_add-size-in-loop-header
overflow_add-size-in-loop-header c =
    let fits = length-flat_map-item packet_bytes c.args.headers.now c.loop-header.header-index c.header-item.result c.loop-header-test.true c.header-item.is in
    omega (arith, c.requires, fits, length-packet_bytes c.header-item.result, c.len.ensures, c.loop-header.invariant)

pub loop-header-preserved : goal.loop-header-preserved
loop-header-preserved c =
    let more = length-flat_map-more packet_bytes c.args.headers.now c.loop-header.header-index c.header-item.result c.loop-header-test.true c.header-item.is in
    omega (arith, more, length-packet_bytes c.header-item.result, c.len.ensures, c.loop-header.invariant)
