-- How far a run over a feed has come, and how a command is answered there. Ours.
use Rattle.std.specs.Prelude.{◌≡◌, ◌⊎◌, ℕ, ◌+◌, Result, Ok, Err, List, []}
use Rattle.ogg_page.specs.Page.{Page}
use Rattle.link_chain.specs.ChainState.{chain_state_of}
use Rattle.chain_rules.specs.Encoding.{command_bytes, links_after}
use Rattle.chain_rules.specs.Decision.{decision}
use Rattle.ogg_command.specs.declared.command.Command.{Command}
use Rattle.ogg_command.specs.declared.refusal.Refusal.{Refusal}
use Rattle.ogg_command.specs.declared.refusal.Refusal.TheVariants.{Memory}
use Rattle.feed_replies.specs.declared.reply.Reply.{Reply}
use Rattle.feed_replies.specs.declared.reply.Reply.TheVariants.{Kept as KeptOf, Refused}
use Rattle.feed_records.specs.declared.item.Record.{Record}
use Rattle.feed_records.specs.declared.item.Record.TheVariants.{Command as CommandOf, Flush}

-- the links so far, and how many commands were kept
pub record Progress : Type 0 where
  pub links : List (List Page)
  pub kept : ℕ

-- no links yet
abbrev pub at_start : Progress
at_start = record { links = []; kept = 0 }

-- how long the file is
abbrev pub end_of : Progress → ℕ
end_of progress = (chain_state_of progress.links).length_of

-- the progress after a command that was kept
abbrev pub with_command : Progress → Command → Progress
with_command progress command = record { links = links_after progress.links command; kept = progress.kept + 1 }

-- A command with this decision gets this reply, these bytes are its pages, and this is the progress after it. A
-- command that isn't refused by a rule is kept, or refused for lack of memory. A refusal writes no page and changes
-- nothing.
-- nothing.
abbrev pub AnsweredBy : Result ℕ Refusal → Progress → Command → Reply → List ℕ → Progress → Type 0
AnsweredBy (Err refusal) before command reply bytes behind = (reply ≡ Refused refusal) × (bytes ≡ []) × (behind ≡ before)
AnsweredBy (Ok size) before command reply bytes behind =
    ((reply ≡ KeptOf (record { count = before.kept + 1; end = end_of before + size }))
    × (bytes ≡ command_bytes (chain_state_of before.links) command) × (behind ≡ with_command before command))
    ⊎ ((reply ≡ Refused Memory) × (bytes ≡ []) × (behind ≡ before))

-- the command is answered by the decision on it
abbrev pub Answers : Progress → Command → Reply → List ℕ → Progress → Type 0
Answers before command reply bytes behind = AnsweredBy (decision (chain_state_of before.links) command) before command reply bytes behind

-- The progress of the run answers a flush, since nothing waits here. A flush writes no page and changes nothing.
abbrev pub AnswersFlush : Progress → Reply → List ℕ → Progress → Type 0
AnswersFlush before reply bytes behind =
    (reply ≡ KeptOf (record { count = before.kept; end = end_of before })) × (bytes ≡ []) × (behind ≡ before)

-- the record is answered
abbrev pub AnswersRecord : Progress → Record → Reply → List ℕ → Progress → Type 0
AnswersRecord before (CommandOf command) reply bytes behind = Answers before command reply bytes behind
AnswersRecord before Flush reply bytes behind = AnswersFlush before reply bytes behind

-- nothing waits here
abbrev pub nothing_held : Progress → ℕ
nothing_held progress = 0
