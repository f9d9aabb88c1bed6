use Rattle.std.proofs.Common.{rules}
use Rattle.feed_records.specs.Record.{entry_bytes}
use Rattle.feed_codec.specs.Payload.{IsEntryOfFeed}
use Rattle.feed_codec.proofs.Spellings.{same_entry}
use Rattle.feed_codec.proofs.Skipping.{skipped}
use Rattle.feed_codec.proofs.payload.skip_entries.Goals as goal

pub returns : goal.returns
returns c =
    skipped _ IsEntryOfFeed entry_bytes same_entry _ _ (λ f bytes n r k. search rules)
    _ _ _ _ c.try_fold.ensures.ran
