use Rattle.std.proofs.Common.{arith, ap, length}
use Rattle.feed_records.specs.Record.{field_bytes}
use Rattle.feed_records.proofs.SizeFacts.{length-flat_map-more}
use Rattle.feed_records.proofs.SizeFacts.{length-field_bytes}
use Rattle.feed_records.proofs.fits.fields_size.Goals as goal

pub loop-field-preserved : goal.loop-field-preserved
loop-field-preserved c =
    let more = length-flat_map-more field_bytes c.args.fields.now c.loop-field.field-index c.field-item.result c.loop-field-test.true c.field-item.is in
    omega (arith, more, c.loop-field.invariant, length-field_bytes c.field-item.result, c.saturating_add.ensures, ap length c.name.ensures, c.saturating_add-in-loop-field.ensures, ap length c.value.ensures, c.saturating_add-size.ensures)
