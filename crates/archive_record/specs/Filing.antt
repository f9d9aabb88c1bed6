-- What is done with the files of an archive. Ours.
use Rattle.std.specs.Prelude.{◌≡◌, ℕ, List, []}
use Rattle.disk_model.specs.declared.disk.Disk.{Ghosts as DiskModel}
use Rattle.disk_model.specs.Image.{IsSettled}
use Rattle.archive_folder.specs.Names.{Place, Kept}
use Rattle.file_recorder.specs.Recorder.{IsIn, RecorderState}
use Rattle.history.specs.World.{World, committed, start}
use Rattle.ogg_command.specs.declared.command.Command.{Command}

-- The file under this number is with the folder, and every stop leaves it exactly these bytes.
abbrev pub HasExactly : {D : Type 0} → DiskModel D → (ℕ → Place D) → ℕ → List ℕ → Type 0
HasExactly {D} model file n bytes = (disk : D) × (file n ≡ Kept disk) × IsSettled (model.state disk) × ((model.state disk).contents ≡ bytes)

-- a file that was begun, before anything is recorded into it
abbrev pub unwritten : World Command
unwritten = committed start []

-- Nothing is kept in the file, and the recorder stands at the beginning of its history.
pub record IsNew {D : Type 0} (model : DiskModel D) (recorder : RecorderState D) : Type 0 where
  pub end : recorder.file.end ≡ 0
  pub stands : model.is_honest recorder.file.disk → IsIn model [] unwritten recorder
