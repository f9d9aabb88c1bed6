use Rattle.std.proofs.Common.{◌++◌, ap, length, length-append, arith}
use Rattle.std.specs.List.{flat_map}
use Rattle.ogg_page.specs.Numbers.{u16_bytes}
use Rattle.feed_records.specs.Record.{payload_of, skeleton_bytes, stream_bytes, entry_bytes}
use Rattle.ogg_page.specs.Laws.NumberBytes.{length-u16_bytes, length-u32_bytes}
use Rattle.feed_records.proofs.size.payload_size.Goals as goal

pub returns-in-Begin : goal.returns-in-Begin
returns-in-Begin c =
    let streams = c.in-Begin.begin.streams in
    let whole = ap (λ command. length (payload_of c.args.version command)) c.in-Begin.is in
    let same = ap (λ l. length (flat_map (stream_bytes c.args.version) l)) c.as_slice.ensures in
    omega (
      arith,
      whole,
      same,
      c.skeleton_size.ensures,
      c.streams_size.ensures,
      length-u16_bytes (length streams),
      length-append (skeleton_bytes c.in-Begin.begin.skeleton) (u16_bytes (length streams) ++ flat_map (stream_bytes c.args.version) streams),
      length-append (u16_bytes (length streams)) (flat_map (stream_bytes c.args.version) streams),
    )

pub returns-in-Put : goal.returns-in-Put
returns-in-Put c =
    let entries = c.in-Put.put.entries in
    let whole = ap (λ command. length (payload_of c.args.version command)) c.in-Put.is in
    let same = ap (λ l. length (flat_map entry_bytes l)) c.as_slice-in-Put.ensures in
    omega (arith, whole, same, c.entries_size.ensures, length-u16_bytes (length entries), length-append (u16_bytes (length entries)) (flat_map entry_bytes entries))

pub returns-in-End : goal.returns-in-End
returns-in-End c =
    let whole = ap (λ command. length (payload_of c.args.version command)) c.in-End.is in
    omega (arith, whole, length-u32_bytes c.in-End.field-0)
