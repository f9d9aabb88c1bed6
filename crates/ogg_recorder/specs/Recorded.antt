-- What a run over a feed has recorded, at each moment and at its end. Ours.
use Rattle.std.specs.Prelude.{◌≡◌, ℕ, false, Option, List, [], ◌∷◌, ◌++◌, Bool}
use Rattle.std.proofs.Common.{inl, inr}
use Rattle.disk_model.specs.declared.disk.Disk.{Ghosts as DiskModel}
use Rattle.disk_model.specs.Leaving.{LeavesOnly}
use Rattle.feed_records.specs.declared.item.Record.{Record}
use Rattle.feed_replies.specs.declared.fault.RunFault.{RunFault}
use Rattle.feed_replies.specs.declared.fault.RunFault.TheVariants.{Feed, Write, TooMany}
use Rattle.feed_replies.specs.declared.reply.Reply.{Reply}
use Rattle.feed_runner.specs.Counting.{kept_after}
use Rattle.feed_run.specs.Run.{Streams, Outcome, RunsTo, StopsWriting, StopsAt, EndsBy}
use Rattle.chain_rules.specs.Commands.{bytes_of_commands}
use Rattle.chain_rules.specs.Recording.{add}
use Rattle.ogg_command.specs.declared.command.Command.{Command}
use Rattle.history.specs.History.{StandsIn}
use Rattle.history.specs.Runs.{ShowsSome}
use Rattle.file_recorder.specs.Recovery.{Links, Shows}
use Rattle.file_recorder.specs.Recorder.{committed}
use Rattle.file_recorder.specs.Running.{Progress}
use Rattle.file_recorder.specs.Steps.{HasWaiting, Stands, accepted_of}

-- ---- which records were answered
-- records, and the reply to each
pub record Answered : Type 0 where
  pub records : List Record
  pub replies : List Reply

abbrev pub answered : List Record → List Reply → Answered
answered records replies = record { records = records; replies = replies }

-- A writer failed over this record: it counts as answered if it has been run.
abbrev pub answered_with : {S : Type 0} → List Record → List Reply → Record
    → (waits : Bool) (pages new_pages lines new_lines : Option (List ℕ)) (own : List ℕ) (reply : Reply) (before reached after : S)
    → StopsAt waits pages new_pages lines new_lines own reply before reached after → Answered
answered_with records replies given waits pages new_pages lines new_lines own reply before reached after (inl none) = answered records replies
answered_with records replies given waits pages new_pages lines new_lines own reply before reached after (inr whole) =
    answered (records ++ given ∷ []) (replies ++ reply ∷ [])

module _ {S : Type 0} (answers : S → Record → Reply → List ℕ → S → Type 0) (held : S → ℕ) where
  -- the records of a run that was ended by the feed, and the flush after them
  abbrev pub answered_to : (outcome : Outcome) (start now : Streams) (before after : S)
      → RunsTo answers held outcome start now before after → Answered
  answered_to outcome start now before after whole = answered (whole.records ++ whole.closing) (whole.replies ++ whole.last)

  -- the records of a run that a writer stopped
  abbrev pub answered_until : (start now : Streams) (before after : S) → StopsWriting answers held start now before after → Answered
  answered_until start now before after stopped =
      answered_with stopped.records stopped.replies stopped.stop.given now.waits stopped.at.pages now.pages stopped.at.lines now.lines
      stopped.stop.own stopped.stop.reply stopped.mid stopped.stop.reached after stopped.stop.written

  -- the records of a run that a fault has ended
  abbrev pub answered_by : (fault : RunFault) (start now : Streams) (before after : S)
      → EndsBy answers held fault start now before after → Answered
  answered_by (Feed fault) start now before after ended = answered (ended.records ++ ended.closing) (ended.replies ++ ended.last)
  answered_by TooMany start now before after ended = answered (ended.records ++ ended.closing) (ended.replies ++ ended.last)
  answered_by Write start now before after ended = answered_until start now before after ended

-- ---- what they have recorded
module _ {D : Type 0} (model : DiskModel D) where
  -- What a run has recorded.
  pub record HasRecorded (before after : Progress D) (all : Answered) : Type 0 where
    -- the committed bytes grow by exactly those of the kept commands
    pub grows : model.is_honest before.now.file.disk → (links : Links) (waiting : List Command) → HasWaiting model.state links waiting before.now
        → committed model.state after.now ≡ committed model.state before.now ++ bytes_of_commands links (kept_after waiting all.records all.replies)
    pub same : after.first ≡ before.first
    -- the kept commands are acknowledged, after those that were
    pub keeps : after.world.acknowledged ≡ before.world.acknowledged ++ kept_after before.world.held all.records all.replies
    pub stands : Stands model before → Stands model after
    -- at each moment each image shows a prefix of the accepted commands
    pub any_moment : Stands model before → before.now.file.failed ≡ false
        → LeavesOnly model before.now.file.disk after.now.file.disk
        (ShowsSome Shows add before.first (before.world.acknowledged ++ before.world.held ++ accepted_of all.records all.replies))
    -- at the end each image shows every acknowledged command, without the group in doubt or with it
    pub at_end : Stands model before → before.now.file.failed ≡ false → StandsIn Shows add after.first after.world (model.state after.now.file.disk)
