use Rattle.std.proofs.Common.{ap, length, arith}
use Rattle.feed_records.specs.Record.{skeleton_bytes}
use Rattle.feed_records.proofs.SizeFacts.{length-skeleton_bytes}
use Rattle.feed_records.proofs.size.skeleton_size.Goals as goal

pub returns-in-Some : goal.returns-in-Some
returns-in-Some c =
    let whole = ap (λ s. length (skeleton_bytes s)) c.in-Some.is in
    let utc = ap length c.as_slice.ensures in
    omega (arith, whole, utc, length-skeleton_bytes c.in-Some.head)
