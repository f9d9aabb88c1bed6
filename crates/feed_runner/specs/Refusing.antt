-- Replies that refuse a command. Ours.
use Rattle.std.specs.Prelude.{Bool, true, false}
use Rattle.feed_replies.specs.declared.reply.Reply.{Reply}
use Rattle.feed_replies.specs.declared.reply.Reply.TheVariants.{Held, Kept, Refused}

abbrev pub refuses : Reply → Bool
refuses (Held count) = false
refuses (Kept kept) = false
refuses (Refused refusal) = true
