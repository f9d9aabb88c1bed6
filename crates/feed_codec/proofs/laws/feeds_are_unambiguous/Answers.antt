use Rattle.feed_codec.proofs.Spellings.{one_feed}
use Rattle.feed_codec.proofs.laws.feeds_are_unambiguous.Goals as goal

pub returns : goal.returns
returns c = one_feed
