-- What archive_history says of calls of an archive's folder and files: events of its law lead on. Ours.
use Rattle.std.specs.Prelude.{◌≡◌, ℕ, List, [], Some}
use Rattle.disk_model.specs.declared.disk.Disk.{Ghosts as DiskModel}
use Rattle.disk_model.specs.Image.{DiskState, IsImage, IsSettled}
use Rattle.archive_folder.specs.declared.names.Name.{Name}
use Rattle.archive_history.specs.Archive.{Newest, Archive, names, recorded, ended_with, set_aside}
use Rattle.archive_history.specs.History.{with_disk, IsAnswer, IsOnly, IsSafe, Resumes}
use Rattle.chain_rules.specs.Recording.{add}
use Rattle.file_recorder.specs.Recovery.{Accepts, Shows}
use Rattle.history.specs.History.{IsStep}
use Rattle.history.specs.World.{Step, World, happens}
use Rattle.ogg_command.specs.declared.command.Command.{Command}
use Rattle.archive_record.specs.Account.{LeadsTo, Stands}

-- a step of a recording's history
abbrev pub StepIs : {D : Type 0} → DiskModel D → World Command → Step Command → D → D → Type 0
StepIs model w step old new = IsStep model Shows Accepts add [] w step old new

module _ {F D : Type 0} (names_in : F → List Name) (moment : F → ℕ) (left_since : F → ℕ → List ℕ → Type 0) (model : DiskModel D) where
  abbrev Leads : Archive Command → F → (ℕ → D) → Archive Command → F → (ℕ → D) → Type 0
  Leads a old disks b new after = LeadsTo names_in moment left_since model a old disks b new after

  pub record CallsLeadOn : Type 0 where
    pub nothing : (a : Archive Command) (folder : F) (disks : ℕ → D) → Leads a folder disks a folder disks
    pub both : (a b c : Archive Command) (old mid new : F) (disks between after : ℕ → D) → Leads a old disks b mid between → Leads b mid between c new after
        → Leads a old disks c new after
    pub stands : (a b : Archive Command) (old new : F) (disks after : ℕ → D) → Stands names_in model a old disks → Leads a old disks b new after → Stands names_in model b new after
    pub step : (a : Archive Command) (file : Newest Command) (disks : ℕ → D) (folder : F) (step : Step Command) (disk : D) → a.newest ≡ Some file
        → names_in folder ≡ names a → IsAnswer step → IsSafe file.name.fate (happens file.world step)
        → StepIs model file.world step (disks file.name.number) disk
        → Leads a folder disks (recorded a step) folder (with_disk file.name.number disk disks)
    pub ending : (a : Archive Command) (file : Newest Command) (disks : ℕ → D) (folder : F) (bytes : List ℕ) → a.newest ≡ Some file → names_in folder ≡ names a
        → file.world.in_doubt ≡ [] → IsOnly bytes (model.state (disks file.name.number)) → Leads a folder disks (ended_with a bytes) folder disks
    pub setting_aside : (a : Archive Command) (file : Newest Command) (folder : F) (disks : ℕ → D) → a.newest ≡ Some file → names_in folder ≡ names a
        → Leads a folder disks (set_aside a) folder disks
    pub resuming : (a b : Archive Command) (folder : F) (disks : ℕ → D) → Resumes a b → names_in folder ≡ names a → Leads a folder disks b folder disks
    pub recorded_names : (a : Archive Command) (step : Step Command) → names (recorded a step) ≡ names a
    pub ended_names : (a : Archive Command) (bytes : List ℕ) → names (ended_with a bytes) ≡ names a
    pub aside_names : (a : Archive Command) → names (set_aside a) ≡ names a
    pub resumed_names : (a b : Archive Command) → Resumes a b → names b ≡ names a
    -- a disk that is settled may be ended, and an empty one shows nothing
    pub only : (disk : DiskState) → IsSettled disk → IsImage disk disk.contents → IsOnly disk.contents disk
    pub empty : Shows [] []
