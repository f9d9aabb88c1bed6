use Rattle.std.proofs.Common.{arith}
use Rattle.feed_codec.proofs.Lists.{are_bytes}
use Rattle.feed_codec.proofs.PayloadFacts.{media_short, media_split}
use Rattle.feed_codec.proofs.payload.split_media.Goals as goal

pub returns-then-bytes-lt-COUNT : goal.returns-then-bytes-lt-COUNT
returns-then-bytes-lt-COUNT c = media_short c.args.bytes.now c.if-bytes-lt-COUNT.true

pub returns : goal.returns
returns c =
    media_split c.split_at_checked.result c.args.bytes.now c.take_u16-length.result.1.now c.take_u16-length.result.0 c.take_u16-length.ensures.fits
    (are_bytes c.args.bytes.now (λ i. omega (arith, c.type_inv.bytes i))) c.take_u16-length.ensures.value c.split_at_checked.ensures.cases
