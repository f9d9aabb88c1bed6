use Rattle.std.proofs.Common.{rules}
use Rattle.feed_records.specs.Record.{field_bytes}
use Rattle.feed_codec.specs.Payload.{IsFieldOfFeed}
use Rattle.feed_codec.proofs.Spellings.{same_field}
use Rattle.feed_codec.proofs.Skipping.{skipped}
use Rattle.feed_codec.proofs.payload.skip_each_field.Goals as goal

pub returns : goal.returns
returns c =
    skipped _ IsFieldOfFeed field_bytes same_field _ _ (λ f bytes n r k. search rules)
    _ _ _ _ c.try_fold.ensures.ran
