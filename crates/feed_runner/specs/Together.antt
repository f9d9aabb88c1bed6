-- Which lines of replies may wait for others. Ours.
use Rattle.std.specs.Prelude.{Bool, true, false}
use Rattle.feed_replies.specs.declared.reply.Reply.{Reply}
use Rattle.feed_replies.specs.declared.reply.Reply.TheVariants.{Held, Kept, Refused}
use Rattle.feed_runner.specs.declared.batched.Together.{Together}
use Rattle.feed_runner.specs.declared.batched.Together.TheVariants.{Groups, Ahead}

abbrev pub may_wait : Together → Reply → Bool
may_wait Groups (Held count) = true
may_wait Groups (Kept kept) = false
may_wait Groups (Refused refusal) = false
may_wait Ahead reply = true
