use Rattle.std.proofs.Common.{refl, sym, arith}
use Rattle.feed_records.specs.Record.{entry_bytes, FitsEntry}
use Rattle.feed_records.proofs.SizeFacts.{length-flat_map-item, length-entry_bytes}
use Rattle.feed_records.proofs.WritingFacts.{has, grows_item, grows_as}
use Rattle.feed_records.proofs.writing.put_entries.Goals as goal

pub put_entry-requires-clause-fields : goal.put_entry-requires-clause-fields
put_entry-requires-clause-fields c =
    has FitsEntry c.args.entries.now c.loop-entry.entry-index c.entry-item.result c.requires.fields c.loop-entry-test.true c.entry-item.is

pub put_entry-requires-clause-room : goal.put_entry-requires-clause-room
put_entry-requires-clause-room c =
    let fits = length-flat_map-item entry_bytes c.args.entries.now c.loop-entry.entry-index c.entry-item.result c.loop-entry-test.true c.entry-item.is in
    omega (arith, fits, c.requires.room, c.loop-entry.invariant.len, c.loop-entry.invariant.room, length-entry_bytes c.entry-item.result)

pub loop-entry-preserved : goal.loop-entry-preserved
loop-entry-preserved c =
    grows_item entry_bytes c.args.entries.now c.loop-entry.entry-index c.entry-item.result c.args.out.now c.loop-entry.out c.put_entry.new.out c.loop-entry-test.true c.entry-item.is
    c.loop-entry.invariant
    (grows_as c.loop-entry.out c.put_entry.new.out _ _ _ _ refl (sym (length-entry_bytes c.entry-item.result)) c.put_entry.ensures)
