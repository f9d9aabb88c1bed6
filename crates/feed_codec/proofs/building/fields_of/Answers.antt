use Rattle.std.proofs.Common.{List, ℕ, subst}
use Rattle.feed_records.specs.Record.{fields_bytes}
use Rattle.feed_codec.specs.Payload.{Begins, AreFields}
use Rattle.feed_codec.proofs.PayloadFacts.{fields_long, fields_stand}
use Rattle.feed_codec.proofs.building.fields_of.Goals as goal

pub take_u16-count-requires : goal.take_u16-count-requires
take_u16-count-requires c =
    fields_long c.args.bytes.now (subst (λ v. (rest : List ℕ) × Begins (AreFields v) (fields_bytes v) c.args.bytes.now rest) c.in-Two.is c.requires)

pub each_field_of-requires : goal.each_field_of-requires
each_field_of-requires c =
    fields_stand c.args.bytes.now c.take_u16-count.result.1.now c.take_u16-count.result.0 c.take_u16-count.ensures.fits c.take_u16-count.ensures.value
    (subst (λ v. (rest : List ℕ) × Begins (AreFields v) (fields_bytes v) c.args.bytes.now rest) c.in-Two.is c.requires)
