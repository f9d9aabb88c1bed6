use Rattle.std.proofs.Common.{ap, length, arith}
use Rattle.feed_records.specs.Record.{skeleton_bytes}
use Rattle.feed_records.proofs.SizeFacts.{length-skeleton_bytes}
use Rattle.feed_records.proofs.writing.put_skeleton.Goals as goal

pub put_u32-requires : goal.put_u32-requires
put_u32-requires c =
    let whole = ap (λ s. length (skeleton_bytes s)) c.in-Some.is in
    omega (arith, c.requires, whole, length-skeleton_bytes c.in-Some.head, c.put_bytes-in-Some.ensures.len, c.put_bytes-in-Some.ensures.room)

pub put_fraction-requires : goal.put_fraction-requires
put_fraction-requires c =
    let whole = ap (λ s. length (skeleton_bytes s)) c.in-Some.is in
    omega (
      arith,
      c.requires,
      whole,
      length-skeleton_bytes c.in-Some.head,
      c.put_bytes-in-Some.ensures.len,
      c.put_bytes-in-Some.ensures.room,
      c.put_u32.ensures.len,
      c.put_u32.ensures.room,
    )

pub put_fraction-requires-in-Some : goal.put_fraction-requires-in-Some
put_fraction-requires-in-Some c =
    let whole = ap (λ s. length (skeleton_bytes s)) c.in-Some.is in
    omega (
      arith,
      c.requires,
      whole,
      length-skeleton_bytes c.in-Some.head,
      c.put_bytes-in-Some.ensures.len,
      c.put_bytes-in-Some.ensures.room,
      c.put_u32.ensures.len,
      c.put_u32.ensures.room,
      c.put_fraction.ensures.len,
      c.put_fraction.ensures.room,
    )
