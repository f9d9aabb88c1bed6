use Rattle.std.proofs.Common.{refl, sym, arith}
use Rattle.feed_records.specs.Record.{field_bytes, FitsField}
use Rattle.feed_records.proofs.SizeFacts.{length-flat_map-item, length-field_bytes}
use Rattle.feed_records.proofs.WritingFacts.{has, grows_item, grows_as}
use Rattle.feed_records.proofs.writing.put_each_field.Goals as goal

pub put_field-requires-clause-fields : goal.put_field-requires-clause-fields
put_field-requires-clause-fields c =
    has FitsField c.args.fields.now c.loop-field.field-index c.field-item.result c.requires.fields c.loop-field-test.true c.field-item.is

pub put_field-requires-clause-room : goal.put_field-requires-clause-room
put_field-requires-clause-room c =
    let fits = length-flat_map-item field_bytes c.args.fields.now c.loop-field.field-index c.field-item.result c.loop-field-test.true c.field-item.is in
    omega (arith, fits, c.requires.room, c.loop-field.invariant.len, c.loop-field.invariant.room, length-field_bytes c.field-item.result)

pub loop-field-preserved : goal.loop-field-preserved
loop-field-preserved c =
    grows_item field_bytes c.args.fields.now c.loop-field.field-index c.field-item.result c.args.out.now c.loop-field.out c.put_field.new.out c.loop-field-test.true c.field-item.is
    c.loop-field.invariant
    (grows_as c.loop-field.out c.put_field.new.out _ _ _ _ refl (sym (length-field_bytes c.field-item.result)) c.put_field.ensures)
