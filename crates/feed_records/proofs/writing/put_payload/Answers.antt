use Rattle.std.proofs.Common.{ap, length, arith}
use Rattle.feed_records.specs.Record.{payload_of}
use Rattle.ogg_page.specs.Laws.NumberBytes.{length-u32_bytes}
use Rattle.feed_records.proofs.SizeFacts.{length-begin, length-put}
use Rattle.feed_records.proofs.writing.put_payload.Goals as goal

pub put_skeleton-requires : goal.put_skeleton-requires
put_skeleton-requires c =
    let whole = ap (λ command. length (payload_of c.args.version command)) c.in-Begin.is in
    omega (arith, whole, c.requires.room, length-begin c.args.version c.in-Begin.begin)

pub put_u16-requires : goal.put_u16-requires
put_u16-requires c =
    let whole = ap (λ command. length (payload_of c.args.version command)) c.in-Begin.is in
    omega (arith, whole, c.requires.room, length-begin c.args.version c.in-Begin.begin, c.put_skeleton.ensures.len, c.put_skeleton.ensures.room)

pub put_u16-requires-in-Put : goal.put_u16-requires-in-Put
put_u16-requires-in-Put c =
    let whole = ap (λ command. length (payload_of c.args.version command)) c.in-Put.is in
    omega (arith, whole, c.requires.room, length-put c.args.version c.in-Put.put)

pub put_u32-requires : goal.put_u32-requires
put_u32-requires c =
    let whole = ap (λ command. length (payload_of c.args.version command)) c.in-End.is in
    omega (arith, whole, c.requires.room, length-u32_bytes c.in-End.serial)
