-- What holds of all commands of a run holds of those that were kept.
use Rattle.std.specs.Prelude.{List, [], ◌∷◌, ◌++◌}
use Rattle.std.specs.List.{AllByRecursion}
use Rattle.ogg_command.specs.declared.command.Command.{Command}
use Rattle.ogg_command.specs.declared.refusal.Refusal.{Refusal}
use Rattle.ogg_command.specs.declared.refusal.Refusal.TheVariants.{Failed, Disk}
use Rattle.feed_replies.specs.declared.reply.Reply.{Reply}
use Rattle.feed_replies.specs.declared.reply.Reply.TheVariants.{Held, Kept as KeptOf, Refused}
use Rattle.feed_records.specs.declared.item.Record.{Record}
use Rattle.feed_records.specs.declared.item.Record.TheVariants.{Command as CommandOf, Flush}
use Rattle.feed_runner.specs.Counting.{commands_in, kept_after, kept_by, kept_of, left_by, waiting_after}

module _ (P : Command → Type 0) where
  both : (xs ys : List Command) → AllByRecursion P xs → AllByRecursion P ys → AllByRecursion P (xs ++ ys)
  both [] ys all more = more
  both (x ∷ xs) ys (first, rest) more = (first, both xs ys rest more)

  each_left : (refusal : Refusal) (waiting : List Command) → AllByRecursion P waiting → AllByRecursion P (left_by refusal [] waiting)
  each_left Failed waiting all = tt
  each_left Disk waiting all = tt
  each_left refusal waiting all = all

  each_waits : (waiting : List Command) (given : Record) (reply : Reply) → AllByRecursion P waiting → AllByRecursion P (commands_in (given ∷ []))
      → AllByRecursion P (waiting_after waiting given reply)
  each_waits waiting (CommandOf command) (KeptOf kept) all own = tt
  each_waits waiting (CommandOf command) (Held count) all own = both waiting (command ∷ []) all own
  each_waits waiting (CommandOf command) (Refused refusal) all own = each_left refusal waiting all
  each_waits waiting Flush (KeptOf kept) all own = tt
  each_waits waiting Flush (Held count) all own = all
  each_waits waiting Flush (Refused refusal) all own = each_left refusal waiting all

  each_by : (waiting : List Command) (given : Record) (reply : Reply) → AllByRecursion P waiting → AllByRecursion P (commands_in (given ∷ []))
      → AllByRecursion P (kept_by waiting given reply)
  each_by waiting (CommandOf command) (KeptOf kept) all own = both waiting (command ∷ []) all own
  each_by waiting (CommandOf command) (Held count) all own = tt
  each_by waiting (CommandOf command) (Refused refusal) all own = tt
  each_by waiting Flush (KeptOf kept) all own = all
  each_by waiting Flush (Held count) all own = tt
  each_by waiting Flush (Refused refusal) all own = tt

  each_after : (waiting : List Command) (records : List Record) (replies : List Reply) → AllByRecursion P waiting → AllByRecursion P (commands_in records)
      → AllByRecursion P (kept_after waiting records replies)
  each_after waiting [] replies all rest = tt
  each_after waiting (given ∷ records) [] all rest = tt
  each_after waiting (CommandOf command ∷ records) (reply ∷ replies) all rest =
      let own : AllByRecursion P (command ∷ []) = (rest.0, tt) in
      both (kept_by waiting (CommandOf command) reply) (kept_after (waiting_after waiting (CommandOf command) reply) records replies)
      (each_by waiting (CommandOf command) reply all own)
      (each_after (waiting_after waiting (CommandOf command) reply) records replies (each_waits waiting (CommandOf command) reply all own) rest.1)
  each_after waiting (Flush ∷ records) (reply ∷ replies) all rest =
      both (kept_by waiting Flush reply) (kept_after (waiting_after waiting Flush reply) records replies)
      (each_by waiting Flush reply all tt)
      (each_after (waiting_after waiting Flush reply) records replies (each_waits waiting Flush reply all tt) rest)

  pub each_kept : (records : List Record) (replies : List Reply) → AllByRecursion P (commands_in records) → AllByRecursion P (kept_of records replies)
  each_kept records replies all = each_after [] records replies tt all
