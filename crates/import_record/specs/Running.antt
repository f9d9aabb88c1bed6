-- Commands that are run in turn, and what became of them. Ours.
use Rattle.std.specs.Prelude.{◌≡◌, ℕ, ◌+◌, ◌-◌, ◌^◌, min, Option, Some, None, List, [], ◌∷◌, ◌++◌, length, map}
use Rattle.std.specs.Io.KnownBytes.{Appends}
use Rattle.ogg_page.specs.Output.{WritesPart}
use Rattle.ogg_command.specs.declared.command.Command.{Command}
use Rattle.ogg_command.specs.declared.command.Command.TheVariants.{Begin, Put, End}
use Rattle.ogg_command.specs.declared.refusal.Refusal.{Refusal}
use Rattle.feed_records.specs.declared.item.Record.{Record}
use Rattle.feed_records.specs.declared.item.Record.TheVariants.{Command as CommandOf}
use Rattle.feed_replies.specs.declared.reply.Reply.{Reply}
use Rattle.feed_replies.specs.declared.reply.Reply.TheVariants.{Held, Kept, Refused}
use Rattle.feed_runner.specs.Answering.{AnswersAll}
use Rattle.import_record.specs.declared.answering.Answered.{Answered}

-- ---- what became of them
abbrev pub nothing : Answered
nothing = record { refused = None; links = 0; packets = 0 }

-- a count, as far as it goes
abbrev pub plus : ℕ → ℕ → ℕ
plus count more = min (count + more) (2 ^ 64 - 1)

-- a command that was taken: a link that was begun, or packets that were put
abbrev pub with_taken : Answered → Command → Answered
with_taken was (Begin begin) = record was { links = plus was.links 1 }
with_taken was (Put put) = record was { packets = plus was.packets (length put.entries) }
with_taken was (End serial) = was

-- the first refusal is told
abbrev pub first_of : Option Refusal → Refusal → Option Refusal
first_of None refusal = Some refusal
first_of (Some first) refusal = Some first

abbrev pub answered_with : Answered → Command → Reply → Answered
answered_with was command (Held count) = with_taken was command
answered_with was command (Kept kept) = with_taken was command
answered_with was command (Refused refusal) = record was { refused = first_of was.refused refusal }

abbrev pub answered_by : Answered → List Command → List Reply → Answered
answered_by was [] replies = was
answered_by was (command ∷ commands) [] = was
answered_by was (command ∷ commands) (reply ∷ replies) = answered_by (answered_with was command reply) commands replies

-- ---- the run
abbrev pub records_of : List Command → List Record
records_of commands = map CommandOf commands

module _ {S : Type 0} (answers : S → Record → Reply → List ℕ → S → Type 0) where
  -- these commands were run in turn, with these replies, and their pages were written
  pub record RunsAll (commands : List Command) (replies : List Reply) (before after : S) (old new : Option (List ℕ)) : Type 0 where
    pub bytes : List ℕ
    pub answered : AnswersAll answers before (records_of commands) replies bytes after
    pub written : Appends old new bytes

  -- these commands were run in turn, and the result says what became of them
  pub record HasRun (commands : List Command) (result : Answered) (before after : S) (old new : Option (List ℕ)) : Type 0 where
    pub replies : List Reply
    pub runs : RunsAll commands replies before after old new
    pub result_is : result ≡ answered_by nothing commands replies

  -- A prefix of the commands was run, and of the next one the writer took only a part of the pages.
  pub record StopsAt (commands : List Command) (before after : S) (old new : Option (List ℕ)) : Type 0 where
    pub front : List Command
    pub command : Command
    pub back : List Command
    pub commands_are : commands ≡ front ++ command ∷ back
    pub replies : List Reply
    pub mid : Option (List ℕ)
    pub runs : RunsAll front replies before after old mid
    pub reply : Reply
    pub own : List ℕ
    pub reached : S
    pub next : answers after (CommandOf command) reply own reached
    pub part : WritesPart mid new own
