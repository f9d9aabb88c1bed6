use Rattle.std.proofs.Common.{length, ap, arith}
use Rattle.feed_records.proofs.SizeFacts.{length-field_bytes}
use Rattle.feed_records.proofs.size.field_size.Goals as goal

pub returns : goal.returns
returns c = omega (arith, length-field_bytes c.args.field.now, ap length c.name.ensures, ap length c.value.ensures)
