use Rattle.std.proofs.Common.{arith}
use Rattle.feed_records.specs.Record.{field_bytes}
use Rattle.feed_records.proofs.SizeFacts.{length-flat_map-more, length-flat_map-item}
use Rattle.feed_records.proofs.size.each_field_size.Goals as goal

pub field_size-size-requires : goal.field_size-size-requires
field_size-size-requires c =
    let fits = length-flat_map-item field_bytes c.args.fields.now c.loop-field.field-index c.field-item.result c.loop-field-test.true c.field-item.is in
    omega (arith, c.requires, fits)

pub overflow_add-size : goal.overflow_add-size
overflow_add-size c =
    let fits = length-flat_map-item field_bytes c.args.fields.now c.loop-field.field-index c.field-item.result c.loop-field-test.true c.field-item.is in
    omega (arith, c.requires, fits, c.field_size-size.ensures, c.loop-field.invariant)

pub loop-field-preserved : goal.loop-field-preserved
loop-field-preserved c =
    let more = length-flat_map-more field_bytes c.args.fields.now c.loop-field.field-index c.field-item.result c.loop-field-test.true c.field-item.is in
    omega (arith, more, c.field_size-size.ensures, c.loop-field.invariant)
