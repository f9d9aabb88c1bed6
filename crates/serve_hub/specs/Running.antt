-- How a hub answers the records of a feed. Ours.
use Rattle.std.specs.Prelude.{◌≡◌, ◌≢◌, ℕ, IfErr, Option, None, Some, Result, List, [], length}
use Rattle.disk_model.specs.declared.disk.Disk.{Ghosts as DiskModel}
use Rattle.feed_records.specs.declared.item.Record.{Record}
use Rattle.feed_records.specs.declared.item.Record.TheVariants.{Command as CommandOf, Flush}
use Rattle.feed_replies.specs.declared.reply.Kept.{Kept}
use Rattle.feed_replies.specs.declared.reply.Reply.{Reply}
use Rattle.feed_replies.specs.declared.reply.Reply.TheVariants.{Refused}
use Rattle.ogg_command.specs.declared.command.Command.{Command}
use Rattle.ogg_command.specs.declared.refusal.Refusal.{Refusal}
use Rattle.ogg_command.specs.declared.refusal.Refusal.TheVariants.{Disk, Failed}
use Rattle.file_recorder.specs.Recorder.{RecorderState}
use Rattle.file_recorder.specs.Running.{Replies, reply_of, reply_of_flush}
use Rattle.file_recorder.specs.Taking.{IsWholeChain}
use Rattle.feed_replies.specs.declared.outcome.Outcome.{Outcome}
use Rattle.serve_machine.specs.Hub.{HubState, command_step, flush_step}
use Rattle.serve_hub.specs.Images.{IfFile, Records, Flushes}
use Rattle.serve_hub.specs.Parts.{HubParts, OnlyFile}
use Rattle.serve_hub.specs.Showing.{Shows}

-- a hub, and the machine that it is seen as
pub record Progress (D : Type 0) : Type 0 where
  pub now : HubParts D
  pub machine : HubState

-- how many commands wait
abbrev pub waiting_in : {D : Type 0} → Progress D → ℕ
waiting_in before = before.machine.waiting

-- how many bytes are committed
abbrev pub end_in : {D : Type 0} → Progress D → ℕ
end_in before = length before.machine.committed

-- The recorder of the file replies so, whether its disk is honest or not. Its chain is that of links that hold a
-- recording. Without a file all is refused as `Failed`.
abbrev pub RepliesIn : {D : Type 0} → Option (RecorderState D) → Record → Reply → Option (RecorderState D) → Type 0
RepliesIn None given reply new = (reply ≡ Refused Failed) × (new ≡ None)
RepliesIn (Some old) given reply None = ⊥
RepliesIn (Some old) given reply (Some new) = IsWholeChain old.chain × Replies old given reply new

module _ {D : Type 0} (model : DiskModel D) where
  -- the hub is this one, and is seen as this machine
  abbrev pub IsIn : Progress D → HubParts D → Type 0
  IsIn before hub = (before.now ≡ hub) × Shows model hub before.machine

module _ {D : Type 0} (model : DiskModel D) where
  -- a command got this reply, as the recorder replies: it was a step of the machine, and of the history of the file; a
  -- refusal other than `Disk` changes nothing
  pub record CommandAnswered (before after : Progress D) (command : Command) (reply : Reply) : Type 0 where
    pub answer : Result Outcome Refusal
    pub told : reply ≡ reply_of answer
    pub replied : RepliesIn before.now.file (CommandOf command) reply after.now.file
    pub step : command_step before.machine command answer after.machine
    pub disk : IfFile (Records model command answer) before.now.file after.now.file
    pub only : OnlyFile before.now after.now
    pub same : IfErr answer (λ refusal. refusal ≢ Disk → after.now ≡ before.now)

  -- the same of a flush
  pub record FlushAnswered (before after : Progress D) (reply : Reply) : Type 0 where
    pub answer : Result Kept Refusal
    pub told : reply ≡ reply_of_flush answer
    pub replied : RepliesIn before.now.file Flush reply after.now.file
    pub step : flush_step before.machine answer after.machine
    pub disk : IfFile (Flushes model answer) before.now.file after.now.file
    pub only : OnlyFile before.now after.now
    pub same : IfErr answer (λ refusal. refusal ≢ Disk → after.now ≡ before.now)

  abbrev pub RecordAnswered : Progress D → Record → Reply → Progress D → Type 0
  RecordAnswered before (CommandOf command) reply after = CommandAnswered before after command reply
  RecordAnswered before Flush reply after = FlushAnswered before after reply

  -- The record gets this reply. The record has no pages of its own in the output: its pages go to the disk.
  abbrev pub Answers : Progress D → Record → Reply → List ℕ → Progress D → Type 0
  Answers before given reply own after = (own ≡ []) × RecordAnswered before given reply after
