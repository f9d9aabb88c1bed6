use Rattle.std.proofs.Common.{arith}
use Rattle.feed_records.specs.Record.{entry_bytes}
use Rattle.feed_records.proofs.SizeFacts.{length-flat_map-more, length-flat_map-item, length-entry_bytes}
use Rattle.feed_records.proofs.size.entries_size.Goals as goal

pub overflow_add-size : goal.overflow_add-size
overflow_add-size c =
    let fits = length-flat_map-item entry_bytes c.args.entries.now c.loop-entry.entry-index c.entry-item.result c.loop-entry-test.true c.entry-item.is in
    omega (arith, c.requires, fits, length-entry_bytes c.entry-item.result, c.len.ensures)

pub overflow_add-size-in-loop-entry : goal.overflow_add-size-in-loop-entry
overflow_add-size-in-loop-entry c =
    let fits = length-flat_map-item entry_bytes c.args.entries.now c.loop-entry.entry-index c.entry-item.result c.loop-entry-test.true c.entry-item.is in
    omega (arith, c.requires, fits, length-entry_bytes c.entry-item.result, c.len.ensures, c.loop-entry.invariant)

pub loop-entry-preserved : goal.loop-entry-preserved
loop-entry-preserved c =
    let more = length-flat_map-more entry_bytes c.args.entries.now c.loop-entry.entry-index c.entry-item.result c.loop-entry-test.true c.entry-item.is in
    omega (arith, more, length-entry_bytes c.entry-item.result, c.len.ensures, c.loop-entry.invariant)
