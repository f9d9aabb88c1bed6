-- The source that gets the air, and how it goes on in a file that was opened again. Ours.
use Rattle.std.specs.Prelude.{◌≡◌, ⊤, ℕ, true, List, Option, Some, None}
use Rattle.disk_model.specs.declared.disk.Disk.{Ghosts as DiskModel}
use Rattle.import_changes.specs.declared.options.ChangeOptions.{ChangeOptions}
use Rattle.import_changes.specs.declared.options.Skeletons.{Skeletons}
use Rattle.import_record.specs.declared.answering.Answered.{Answered}
use Rattle.import_record.specs.declared.reading.ImportRun.{ImportRun}
use Rattle.serve_hub.specs.Parts.{serials_in, streams_in}
use Rattle.serve_hub.specs.Running.{Answers, IsIn, Progress}
use Rattle.serve_machine.specs.Hub.{HubState, reopen_step}
use Rattle.station_hub.specs.declared.live_hub.LiveHub.{LiveHub}
use Rattle.station_sources.specs.Beginning.{HasResumed, IsNew}
use Rattle.station_sources.specs.declared.air.OnAir.{OnAir}

-- ---- a source that gets the air
-- the stream of the source that has the air, if one has it
abbrev pub run_in : Option OnAir → Option ImportRun
run_in None = None
run_in (Some air) = Some air.import

-- streams are begun under serials that are free in the file
abbrev pub options_for : Skeletons → ChangeOptions
options_for skeletons = record { renumber = true; skeletons = skeletons }

-- If there is such a stream, nothing of it was read. What it begins gets serials that are none of these.
abbrev pub BeginsBeside : List ℕ → Skeletons → Option ImportRun → Type 0
BeginsBeside serials skeletons None = ⊤
BeginsBeside serials skeletons (Some run) = IsNew (options_for skeletons) serials run

-- ---- a file that was opened again
module _ {D : Type 0} (model : DiskModel D) where
  -- Beside the streams that the file has then, the source goes on, and that something of it may be lost is noted. What
  -- became of the commands that this took is told.
  pub record GoesOnAgain (answered : Answered) (air : OnAir) (now : Option OnAir) (new : LiveHub D) (before : Progress D) : Type 0 where
    pub source : OnAir
    pub after : Progress D
    pub on_air : now ≡ Some source
    pub resumed :
        HasResumed (Answers model) (streams_in before.now.file) (serials_in before.now.file) (record air { lost = true }) source before after
    pub reached : IsIn model after new.hub
    pub told : resumed.answered ≡ answered

  -- The file was opened again, and in it the source goes on.
  pub record HasReopened (answered : Answered) (air : OnAir) (now : Option OnAir) (new : LiveHub D) (machine : HubState) : Type 0 where
    pub opened : Progress D
    pub found : reopen_step machine (Some opened.machine.committed) opened.machine
    pub goes_on : GoesOnAgain answered air now new opened
