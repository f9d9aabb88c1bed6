use Rattle.std.proofs.Common.{arith, ap, length}
use Rattle.std.specs.List.{flat_map}
use Rattle.feed_records.specs.Record.{field_bytes, packet_bytes}
use Rattle.feed_records.specs.declared.version.Version.TheVariants.{Two}
use Rattle.feed_records.proofs.SizeFacts.{length-fields_bytes, length-stream_bytes}
use Rattle.feed_records.proofs.fits.stream_size.Goals as goal

pub returns : goal.returns
returns c =
    omega (
      arith,
      length-stream_bytes Two c.args.stream.now,
      length-fields_bytes c.args.stream.now.fields,
      ap (λ l. length (flat_map packet_bytes l)) c.as_slice.ensures,
      ap (λ l. length (flat_map field_bytes l)) c.as_slice-2.ensures,
      c.headers_size-headers.ensures,
      c.fields_size-fields.ensures,
      c.saturating_add.ensures,
      c.len.ensures,
      c.saturating_add-2.ensures,
      c.saturating_add-3.ensures,
    )
