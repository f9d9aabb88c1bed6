use Rattle.std.proofs.Common.{refl, sym}
use Rattle.feed_records.specs.Record.{item_bytes}
use Rattle.feed_records.specs.declared.item.Item.TheVariants.{Record as RecordItem}
use Rattle.feed_codec.proofs.Spellings.{same_record}
use Rattle.feed_codec.proofs.laws.records_are_read_back.Goals as goal

pub returns-clause-not_the_end : goal.returns-clause-not_the_end
unfolding item_bytes
returns-clause-not_the_end c = λ version given rest e. cc e

pub returns-clause-no_fault : goal.returns-clause-no_fault
returns-clause-no_fault c = λ version given rest fault h found. found.1 (RecordItem given) rest h refl

pub returns-clause-same : goal.returns-clause-same
returns-clause-same c = λ version given other rest new h k taken. same_record version other given new rest k h (sym taken)
