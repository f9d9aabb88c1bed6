use Rattle.std.proofs.Common.{true}
use Rattle.feed_codec.proofs.Spellings.{same_item}
use Rattle.feed_codec.proofs.laws.records_are_prefix_free.Goals as goal

pub returns : goal.returns
returns c = same_item true
