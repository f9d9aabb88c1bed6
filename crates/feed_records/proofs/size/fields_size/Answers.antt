use Rattle.std.proofs.Common.{length, ap, arith}
use Rattle.feed_records.specs.Record.{fields_bytes}
use Rattle.feed_records.proofs.SizeFacts.{length-fields_bytes}
use Rattle.feed_records.proofs.size.fields_size.Goals as goal

pub each_field_size-requires : goal.each_field_size-requires
each_field_size-requires c =
    omega (arith, c.requires, ap (λ v. length (fields_bytes v c.args.fields.now)) c.in-Two.is, length-fields_bytes c.args.fields.now)

pub returns-in-Two : goal.returns-in-Two
returns-in-Two c =
    omega (arith, ap (λ v. length (fields_bytes v c.args.fields.now)) c.in-Two.is, length-fields_bytes c.args.fields.now, c.each_field_size.ensures)
