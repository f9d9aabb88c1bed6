use Rattle.std.proofs.Common.{rules}
use Rattle.feed_records.specs.Record.{packet_bytes}
use Rattle.feed_codec.specs.Payload.{IsPacket}
use Rattle.feed_codec.proofs.Spellings.{same_packet}
use Rattle.feed_codec.proofs.Skipping.{skipped}
use Rattle.feed_codec.proofs.payload.skip_headers.Goals as goal

pub returns : goal.returns
returns c =
    skipped _ IsPacket packet_bytes same_packet _ _ (λ f bytes n r k. search rules)
    _ _ _ _ c.try_fold.ensures.ran
