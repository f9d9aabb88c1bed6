use Rattle.feed_codec.proofs.HeadFacts.{head_is_long}
use Rattle.feed_codec.proofs.head.head_of.Goals as goal

pub returns-in-Some : goal.returns-in-Some
returns-in-Some c =
    head_is_long c.args.first c.args.bytes.now c.take_u8-number.result.1.now c.take_u32-length.result.1.now c.in-Some.field-0 c.take_u8-number.result.0 c.take_u32-length.result.0
    c.take_u32-length.ensures.fits c.if-length-gt-MOST_PAYLOAD.true c.in-Some.ensures.0 c.in-Some.ensures.1 c.take_u8-number.ensures.value c.take_u32-length.ensures.value
