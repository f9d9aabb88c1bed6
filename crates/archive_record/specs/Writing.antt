-- The file of an archive that is recorded into, and how far its recorder has come. Ours.
use Rattle.std.specs.Prelude.{◌≡◌, ℕ, Option, Some, None, List, []}
use Rattle.disk_model.specs.declared.disk.Disk.{Ghosts as DiskModel}
use Rattle.archive_folder.specs.declared.names.FileName.{FileName}
use Rattle.feed_records.specs.declared.item.Record.{Record}
use Rattle.feed_replies.specs.declared.reply.Reply.{Reply}
use Rattle.feed_runner.specs.Answering.{AnswersAll}
use Rattle.file_recorder.specs.Recorder.{IsIn, RecorderState}
use Rattle.file_recorder.specs.Running.{Answers, Progress, progress, end_in as recorder_end_in, waiting_in as recorder_waiting_in}
use Rattle.history.specs.World.{World}
use Rattle.ogg_command.specs.declared.command.Command.{Command}
use Rattle.archive_record.specs.declared.newest.Newest.{Newest}

pub record Writing (D : Type 0) : Type 0 where
  pub name : FileName
  pub progress : Progress D

abbrev pub writing : {D : Type 0} → FileName → Progress D → Writing D
writing name progress = record { name = name; progress = progress }

-- how many commands wait
abbrev pub waiting_in : {D : Type 0} → Writing D → ℕ
waiting_in before = recorder_waiting_in before.progress

-- the length of what was kept
abbrev pub end_in : {D : Type 0} → Writing D → ℕ
end_in before = recorder_end_in before.progress

-- it is this file, and its recorder has come so far
abbrev pub IsWriting : {D : Type 0} → Writing D → Newest D → Type 0
IsWriting before newest = (before.name ≡ newest.name) × (before.progress.now ≡ newest.recorder)

-- there is a newest file, and it is this one
abbrev pub IsNow : {D : Type 0} → Writing D → Option (Newest D) → Type 0
IsNow before None = ⊥
IsNow before (Some newest) = IsWriting before newest

-- Records were answered in turn, whichever.
pub record HasDone {S : Type 0} (answers : S → Record → Reply → List ℕ → S → Type 0) (before after : S) : Type 0 where
  pub records : List Record
  pub replies : List Reply
  pub bytes : List ℕ
  pub all : AnswersAll answers before records replies bytes after

module _ {D : Type 0} (model : DiskModel D) where
  -- The recorder of the file answers the record so, and the file stays the one that is recorded into.
  pub record AnswersIn (before : Writing D) (given : Record) (reply : Reply) (own : List ℕ) (after : Writing D) : Type 0 where
    pub answered : Answers model before.progress given reply own after.progress
    pub same : after.name ≡ before.name

  -- A recorder may have been told first how many commands wait, and has answered records then, whichever.
  abbrev pub HasGoneOn : World Command → RecorderState D → RecorderState D → Type 0
  HasGoneOn world old new =
      IsIn model [] world old → (told : RecorderState D) × (told.file ≡ old.file) × IsIn model [] world told
      × (after : Progress D) × (after.now ≡ new) × HasDone (Answers model) (progress [] world told) after
