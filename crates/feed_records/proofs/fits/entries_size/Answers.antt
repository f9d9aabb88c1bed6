use Rattle.std.proofs.Common.{arith}
use Rattle.feed_records.specs.Record.{entry_bytes}
use Rattle.feed_records.proofs.SizeFacts.{length-flat_map-more}
use Rattle.feed_records.proofs.SizeFacts.{length-entry_bytes}
use Rattle.feed_records.proofs.fits.entries_size.Goals as goal

pub loop-entry-preserved : goal.loop-entry-preserved
loop-entry-preserved c =
    let more = length-flat_map-more entry_bytes c.args.entries.now c.loop-entry.entry-index c.entry-item.result c.loop-entry-test.true c.entry-item.is in
    omega (arith, more, c.loop-entry.invariant, length-entry_bytes c.entry-item.result, c.saturating_add.ensures, c.len.ensures, c.saturating_add-size.ensures)
