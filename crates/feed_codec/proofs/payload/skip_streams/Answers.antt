use Rattle.std.proofs.Common.{rules}
use Rattle.feed_records.specs.Record.{stream_bytes}
use Rattle.feed_codec.specs.Payload.{IsStreamOfFeed}
use Rattle.feed_codec.proofs.Spellings.{same_stream}
use Rattle.feed_codec.proofs.Skipping.{skipped}
use Rattle.feed_codec.proofs.payload.skip_streams.Goals as goal

pub returns : goal.returns
returns c =
    skipped _ (IsStreamOfFeed c.args.version) (stream_bytes c.args.version) (same_stream c.args.version) _ _ (λ f bytes n r k. search rules)
    _ _ _ _ c.try_fold.ensures.ran
