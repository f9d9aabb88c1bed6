use Rattle.std.proofs.Common.{arith}
use Rattle.feed_records.specs.Record.{packet_bytes}
use Rattle.feed_records.proofs.SizeFacts.{length-flat_map-more}
use Rattle.feed_records.proofs.SizeFacts.{length-packet_bytes}
use Rattle.feed_records.proofs.fits.headers_size.Goals as goal

pub loop-header-preserved : goal.loop-header-preserved
loop-header-preserved c =
    let more = length-flat_map-more packet_bytes c.args.headers.now c.loop-header.header-index c.header-item.result c.loop-header-test.true c.header-item.is in
    omega (arith, more, c.loop-header.invariant, length-packet_bytes c.header-item.result, c.saturating_add.ensures, c.len.ensures, c.saturating_add-size.ensures)
