use Rattle.std.proofs.Common.{refl, sym}
use Rattle.feed_records.specs.declared.item.Record.TheVariants.{Flush}
use Rattle.feed_records.specs.declared.item.Item.TheVariants.{Record as RecordItem}
use Rattle.feed_codec.proofs.PayloadFacts.{flush_behind, is_nothing, nothing_is}
use Rattle.feed_codec.proofs.payload.is_flush.Goals as goal

pub returns : goal.returns
returns c = (
  λ t. (RecordItem Flush, tt, refl, sym (is_nothing c.args.payload.now c.is_empty.result c.is_empty.ensures t)),
  λ p. nothing_is c.args.payload.now c.is_empty.result c.is_empty.ensures (flush_behind c.args._version c.args.payload.now p),
)
