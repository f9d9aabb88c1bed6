-- Somebody who answers every record, and of whose answers nothing is asked: for proofs alone. Ours.
use Rattle.std.specs.Prelude.{ℕ, List}
use Rattle.feed_records.specs.declared.item.Record.{Record}
use Rattle.feed_replies.specs.declared.reply.Reply.{Reply}

abbrev pub Answers : Unit {0} → Record → Reply → List ℕ → Unit {0} → Type 0
Answers before given reply own after = Unit {0}
