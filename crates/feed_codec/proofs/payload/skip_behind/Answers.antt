use Rattle.feed_codec.specs.PayloadParts.{tail_of}
use Rattle.feed_codec.proofs.PayloadFacts.{behind_split}
use Rattle.feed_codec.proofs.payload.skip_behind.Goals as goal

pub returns : goal.returns
returns c =
    behind_split c.args.version c.skip_fields.result c.args.bytes.now c.in_ok-rest.rest.now (tail_of c.in_ok-rest.field-0-0) c.in_ok-rest.ensures.0 c.in_ok-rest.ensures.1 c.skip_fields.ensures
