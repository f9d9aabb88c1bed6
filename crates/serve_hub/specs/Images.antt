-- What each image of a hub's disk shows at each moment of a call, and which step of its file's history the call is.
-- Ours.
use Rattle.std.specs.Prelude.{◌≡◌, ◌⊎◌, ◌↔◌, ℕ, ◌-◌, ◌^◌, ◌<◌, ◌≤◌, Bool, true, false, IfOk, IfErr, Option, None, Some, Result, Err, List, ◌++◌, ⊤}
use Rattle.disk_model.specs.declared.disk.Disk.{Ghosts as DiskModel}
use Rattle.disk_model.specs.Image.{DiskState}
use Rattle.disk_model.specs.Leaving.{LeavesOnly}
use Rattle.disk_model.specs.Frame.{Frame}
use Rattle.gate_file.specs.Commit.{CommitsTo, CommitsToEither}
use Rattle.gate_file.specs.Reading.{OnlyReads}
use Rattle.gate_file.specs.declared.fault.OpenFault.{OpenFault}
use Rattle.gate_file.specs.declared.fault.OpenFault.TheVariants.{Disk as DiskOf, Memory as MemoryOf}
use Rattle.link_chain.specs.Recording.{Recording}
use Rattle.chain_rules.specs.Encoding.{command_bytes}
use Rattle.chain_rules.specs.Recording.{add}
use Rattle.feed_replies.specs.declared.reply.Kept.{Kept}
use Rattle.history.specs.Showing.{IsAsBefore}
use Rattle.history.specs.World.{World, Opening, Opened, Looked, Faulted, happens}
use Rattle.history.specs.History.{StandsIn}
use Rattle.ogg_command.specs.declared.command.Command.{Command}
use Rattle.ogg_command.specs.declared.refusal.Refusal.{Refusal}
use Rattle.ogg_command.specs.declared.refusal.Refusal.TheVariants.{Disk}
use Rattle.file_recorder.specs.Answer.{call_of, command_step, flush_step}
use Rattle.file_recorder.specs.Recorder.{RecorderState, IsIn, over_disk, committed, staged, IsRecorderStep}
use Rattle.file_recorder.specs.Recovery.{Commits, Shows}
use Rattle.feed_replies.specs.declared.outcome.Outcome.{Outcome}
use Rattle.feed_replies.specs.declared.outcome.Outcome.TheVariants.{Held as WasHeld}
use Rattle.serve_sending.specs.Sending.{HasFailed}
use Rattle.serve_hub.specs.declared.opening.Lost.{Lost}
use Rattle.serve_hub.specs.Parts.{HubParts}

-- the disk of a hub
abbrev pub disk_in : {D : Type 0} → Option (RecorderState D) → Option (Lost D) → Option D
disk_in (Some recorder) lost = Some recorder.file.disk
disk_in None (Some lost) = Some lost.disk
disk_in None None = None

-- how often it has failed
abbrev pub failures_of : {D : Type 0} → (D → ℕ) → Option (RecorderState D) → Option (Lost D) → ℕ
failures_of failures (Some recorder) lost = failures recorder.file.disk
failures_of failures None (Some lost) = failures lost.disk
failures_of failures None None = 0

abbrev pub failures_in : {D : Type 0} → (D → ℕ) → HubParts D → ℕ
failures_in failures hub = failures_of failures hub.file hub.lost

-- P holds of the recorder before and after a call, if there is a file; else there is none after it
abbrev pub IfFile : {R : Type 0} → (R → R → Type 0) → Option R → Option R → Type 0
IfFile P None new = new ≡ None
IfFile P (Some old) None = ⊥
IfFile P (Some old) (Some new) = P old new

module _ {D : Type 0} (model : DiskModel D) where
  -- What a command leaves of the file, with its answer: each image since the call began commits to what was
  -- committed, without the group or with all of it, and without it while the command waits. The command is a step
  -- of each history in which the recorder stands.
  pub record Records (command : Command) (result : Result Outcome Refusal) (old new : RecorderState D) : Type 0 where
    pub any_moment : model.is_honest old.file.disk → old.file.failed ≡ false
        → LeavesOnly model old.file.disk new.file.disk
        (CommitsToEither (committed model.state old) (staged model.state old ++ command_bytes old.chain command))
    pub waits : model.is_honest old.file.disk → IfOk result (λ outcome. (count : ℕ) → outcome ≡ WasHeld count
        → LeavesOnly model old.file.disk new.file.disk (CommitsTo (committed model.state old)))
    pub step : (first : Recording) (w : World Command) → IsIn model first w old → model.is_honest old.file.disk
        → IsRecorderStep model first w
        (command_step result (call_of old.most w command) command) old.file.disk new.file.disk
        × IsIn model first (happens w (command_step result (call_of old.most w command) command)) new
    pub frame : Frame model old.file.disk new.file.disk (result ≡ Err Disk)

  -- The same of a flush.
  pub record Flushes (result : Result Kept Refusal) (old new : RecorderState D) : Type 0 where
    pub any_moment : model.is_honest old.file.disk → old.file.failed ≡ false
        → LeavesOnly model old.file.disk new.file.disk (CommitsToEither (committed model.state old) (staged model.state old))
    pub step : (first : Recording) (w : World Command) → IsIn model first w old → w.is_open ≡ true → model.is_honest old.file.disk
        → IsRecorderStep model first w (flush_step result) old.file.disk new.file.disk
        × IsIn model first (happens w (flush_step result)) new
    pub frame : Frame model old.file.disk new.file.disk (result ≡ Err Disk)

  -- What a call of a session leaves of the file: it is only read, so each image shows the same.
  pub record Reads (old new : RecorderState D) : Type 0 where
    pub only : OnlyReads model old.file.disk new.file.disk
    pub same : new ≡ over_disk new.file.disk old
    pub step : (first : Recording) (w : World Command) → IsIn model first w old → model.is_honest old.file.disk
        → IsRecorderStep model first w Looked old.file.disk new.file.disk
        × IsIn model first w new
    pub later : model.failures old.file.disk ≤ model.failures new.file.disk

  -- a failure of its disk was counted
  abbrev pub Fails : RecorderState D → RecorderState D → Type 0
  Fails old new = HasFailed (model.failures old.file.disk) (model.failures new.file.disk)

  -- which step of a history a reopening is
  abbrev pub OpensIn : Recording → World Command → D → D → Option (RecorderState D) → Type 0
  OpensIn first w old new (Some recorder) =
      (found : Bool) × IsRecorderStep model first w (Opened found) old new
      × IsIn model first (happens w (Opened found)) recorder
  OpensIn first w old new None = IsRecorderStep model first w (Faulted Opening) old new

  -- What a reopening leaves of the disk, with its answer, and the recorder that it opened: each image since the call
  -- began commits to what an image at its start commits to. A file that was ours, whatever happened to it, is refused
  -- only for want of memory, or by the disk.
  pub record Reopens (result : Result ⊤ OpenFault) (file : Option (RecorderState D)) (old new : D) : Type 0 where
    pub any_moment : model.is_honest old → LeavesOnly model old new (IsAsBefore Commits (model.state old))
    pub step : (first : Recording) (w : World Command) → StandsIn Shows add first w (model.state old) → w.is_open ≡ false → model.is_honest old
        → OpensIn first w old new file
    pub refused : (first : Recording) (w : World Command) → StandsIn Shows add first w (model.state old) → model.is_honest old
        → IfErr result (λ fault. (fault ≡ DiskOf) ⊎ (fault ≡ MemoryOf))
    pub frame : Frame model old new (result ≡ Err DiskOf)
