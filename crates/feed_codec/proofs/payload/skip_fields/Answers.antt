use Rattle.feed_codec.proofs.PayloadFacts.{fields_short, fields_split}
use Rattle.feed_codec.proofs.payload.skip_fields.Goals as goal

pub returns-then-bytes-lt-COUNT : goal.returns-then-bytes-lt-COUNT
returns-then-bytes-lt-COUNT c = rw c.in-Two.is (fields_short c.args.bytes.now c.if-bytes-lt-COUNT.true)

pub returns-else-bytes-lt-COUNT : goal.returns-else-bytes-lt-COUNT
returns-else-bytes-lt-COUNT c =
    rw c.in-Two.is
    (fields_split c.skip_each_field.result c.args.bytes.now c.take_u16-count.result.1.now c.take_u16-count.result.0 c.take_u16-count.ensures.fits c.take_u16-count.ensures.value
    c.skip_each_field.ensures)
