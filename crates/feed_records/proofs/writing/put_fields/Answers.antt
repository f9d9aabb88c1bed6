use Rattle.std.proofs.Common.{length, ap, arith}
use Rattle.feed_records.specs.Record.{fields_bytes}
use Rattle.feed_records.proofs.SizeFacts.{length-fields_bytes}
use Rattle.feed_records.proofs.writing.put_fields.Goals as goal

pub put_u16-requires : goal.put_u16-requires
put_u16-requires c =
    omega (arith, c.requires.room, ap (λ v. length (fields_bytes v c.args.fields.now)) c.in-Two.is, length-fields_bytes c.args.fields.now)
