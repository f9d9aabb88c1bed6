-- Which commands of a run were kept, and the counts of them. Ours.
use Rattle.std.specs.Prelude.{◌≡◌, ℕ, ◌+◌, List, [], ◌∷◌, ◌++◌, length}
use Rattle.ogg_command.specs.declared.command.Command.{Command}
use Rattle.ogg_command.specs.declared.refusal.Refusal.{Refusal}
use Rattle.ogg_command.specs.declared.refusal.Refusal.TheVariants.{Failed, Disk}
use Rattle.feed_replies.specs.declared.reply.Reply.{Reply}
use Rattle.feed_replies.specs.declared.reply.Reply.TheVariants.{Held, Kept as KeptOf, Refused}
use Rattle.feed_records.specs.declared.item.Record.{Record}
use Rattle.feed_records.specs.declared.item.Record.TheVariants.{Command as CommandOf, Flush}
use Rattle.feed_replies.specs.declared.tally.Tally.{Tally}
use Rattle.feed_runner.specs.declared.counting.Counts.{Counts}

-- the commands among records, in order
abbrev pub commands_in : List Record → List Command
commands_in [] = []
commands_in (CommandOf command ∷ records) = command ∷ commands_in records
commands_in (Flush ∷ records) = commands_in records

-- What still waits after a refusal: nothing if the disk failed, or had failed before.
abbrev pub left_by : {A : Type 0} → Refusal → A → A → A
left_by Failed none waiting = none
left_by Disk none waiting = none
left_by refusal none waiting = waiting

-- the commands that wait after a record's reply, of those that waited before it
abbrev pub waiting_after : List Command → Record → Reply → List Command
waiting_after waiting given (KeptOf kept) = []
waiting_after waiting (CommandOf command) (Held count) = waiting ++ command ∷ []
waiting_after waiting Flush (Held count) = waiting
waiting_after waiting given (Refused refusal) = left_by refusal [] waiting

-- the commands that a record's reply says are kept: all that waited, and its own
abbrev pub kept_by : List Command → Record → Reply → List Command
kept_by waiting (CommandOf command) (KeptOf kept) = waiting ++ command ∷ []
kept_by waiting Flush (KeptOf kept) = waiting
kept_by waiting given reply = []

-- the commands that were kept, in order, if these waited before
abbrev pub kept_after : List Command → List Record → List Reply → List Command
kept_after waiting [] replies = []
kept_after waiting (given ∷ records) [] = []
kept_after waiting (given ∷ records) (reply ∷ replies) =
    kept_by waiting given reply ++ kept_after (waiting_after waiting given reply) records replies

-- the commands that wait in the end
abbrev pub left_after : List Command → List Record → List Reply → List Command
left_after waiting [] replies = waiting
left_after waiting (given ∷ records) [] = waiting
left_after waiting (given ∷ records) (reply ∷ replies) = left_after (waiting_after waiting given reply) records replies

-- the commands of these records that their replies say are kept, in order
abbrev pub kept_of : List Record → List Reply → List Command
kept_of records replies = kept_after [] records replies

-- the counts with one more record
abbrev pub counts_with : Counts → Record → Reply → Counts
counts_with counts (CommandOf command) (KeptOf kept) =
    record { commands = counts.commands + 1; kept = counts.kept + counts.waiting + 1; waiting = 0 }
counts_with counts (CommandOf command) (Held count) =
    record { commands = counts.commands + 1; kept = counts.kept; waiting = counts.waiting + 1 }
counts_with counts (CommandOf command) (Refused refusal) =
    record { commands = counts.commands + 1; kept = counts.kept; waiting = left_by refusal 0 counts.waiting }
counts_with counts Flush (KeptOf kept) =
    record { commands = counts.commands; kept = counts.kept + counts.waiting; waiting = 0 }
counts_with counts Flush (Held count) = counts
counts_with counts Flush (Refused refusal) =
    record { commands = counts.commands; kept = counts.kept; waiting = left_by refusal 0 counts.waiting }

-- the counts are those of these records and replies
pub record Counted (counts : Counts) (records : List Record) (replies : List Reply) : Type 0 where
  pub commands : counts.commands ≡ length (commands_in records)
  pub kept : counts.kept ≡ length (kept_of records replies)
  pub waiting : counts.waiting ≡ length (left_after [] records replies)

-- The result of a run. The commands that weren't kept are counted as refused, also those that were held and lost.
pub record IsTally (tally : Tally) (records : List Record) (replies : List Reply) (length_of : ℕ) : Type 0 where
  pub commands : tally.commands ≡ length (commands_in records)
  pub kept : tally.kept ≡ length (kept_of records replies)
  pub refused : tally.kept + tally.refused ≡ tally.commands
  pub end : tally.end ≡ length_of
