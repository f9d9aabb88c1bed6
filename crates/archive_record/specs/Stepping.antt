-- What a call takes of an input, and how the newest file of an archive answers it. Ours.
use Rattle.std.specs.Prelude.{◌≡◌, None, Option, List, []}
use Rattle.disk_model.specs.declared.disk.Disk.{Ghosts as DiskModel}
use Rattle.feed_records.specs.declared.item.Record.TheVariants.{Flush}
use Rattle.feed_replies.specs.declared.reply.Reply.{Reply}
use Rattle.import_record.specs.Pushing.{InputState, IsStepped}
use Rattle.import_record.specs.Running.{HasRun}
use Rattle.import_record.specs.Steps.{Ends, StopsBy, state_of}
use Rattle.import_record.specs.declared.answering.Answered.{Answered}
use Rattle.import_record.specs.declared.fault.RecordFault.{RecordFault}
use Rattle.import_record.specs.declared.intake.Taken.{Taken}
use Rattle.import_record.specs.declared.reading.ImportRun.{ImportRun}
use Rattle.import_record.specs.declared.reading.Step.{Step}
use Rattle.ogg_command.specs.declared.command.Command.{Command}
use Rattle.archive_record.specs.Writing.{AnswersIn, IsNow, Writing}
use Rattle.archive_record.specs.declared.archive.ArchiveFault.{ArchiveFault}
use Rattle.archive_record.specs.declared.archive.ArchiveFault.TheVariants.{Input}
use Rattle.archive_record.specs.declared.newest.Newest.{Newest}

-- what the next steps of an input depend on
abbrev pub input_of : ImportRun → InputState
input_of run = record { pages = run.input.pages; intake = state_of run }

module _ {D : Type 0} (model : DiskModel D) where
  -- A step was taken of the input, as far as its bytes had come, and the newest file answered the records that it ran.
  pub record HasStepped (step : Step) (old new : ImportRun) (before : Writing D) (now : Option (Newest D)) : Type 0 where
    pub after : Writing D
    pub reached : IsNow after now
    pub stepped : IsStepped (AnswersIn model) [] step new.input.pages.lent (input_of old) (input_of new) before after

  -- The newest file answered a flush.
  pub record HasFlushed (before : Writing D) (now : Option (Newest D)) : Type 0 where
    pub reply : Reply
    pub after : Writing D
    pub reached : IsNow after now
    pub answered : AnswersIn model before Flush reply [] after

  -- These commands were run in the newest file, in turn, and that was flushed with what waited.
  pub record HasRunAgain (again : List Command) (answered : Answered) (before : Writing D) (now : Option (Newest D)) : Type 0 where
    pub begun : Writing D
    pub ran : HasRun (AnswersIn model) again answered before begun None None
    pub flushed : HasFlushed begun now

  -- What was open of the input was ended at its end, and that was flushed with what waited.
  pub record HasFinished (taken : Taken) (old new : ImportRun) (before : Writing D) (now : Option (Newest D)) : Type 0 where
    pub ended : Writing D
    pub ends : Ends (AnswersIn model) old.input.pages.offset (state_of old) (state_of new) taken before ended None None
    pub flushed : HasFlushed ended now

  -- The input wasn't recorded further, for this reason: nothing of it was run, or a prefix of its commands.
  pub record HasStopped (fault : ArchiveFault) (before : Writing D) (now : Option (Newest D)) : Type 0 where
    pub cause : RecordFault
    pub is : fault ≡ Input cause
    pub after : Writing D
    pub reached : IsNow after now
    pub stops : StopsBy (AnswersIn model) cause before after None None
