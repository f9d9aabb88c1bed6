-- The accounts that the files of a folder stand at while one program writes them. Ours.
use Rattle.std.specs.Prelude.{◌≡◌, ◌⊎◌, ℕ, Bool, true, false, List, [], ◌∷◌, ◌++◌, Option, None, Some}
use Rattle.disk_model.specs.declared.disk.Disk.{Ghosts as DiskModel}
use Rattle.archive_folder.specs.declared.names.Name.{Name}
use Rattle.archive_folder.specs.declared.names.Fate.TheVariants.{Stays}
use Rattle.archive_folder.specs.Names.{Place, Kept, listed}
use Rattle.archive_history.specs.Archive.{There, Content, Whole, Known, Newest, Archive, Resolves, archive, names}
use Rattle.archive_history.specs.History.{Resumes}
use Rattle.archive_history.specs.Starting.{AllStay}
use Rattle.file_recorder.specs.Recorder.{IsIn, RecorderState}
use Rattle.history.specs.World.{World, closed, start}
use Rattle.ogg_command.specs.declared.command.Command.{Command}
use Rattle.archive_record.specs.Account.{LeadsTo, NewestIsLast, Stands}
use Rattle.archive_record.specs.FilesState.{FilesState}
use Rattle.archive_record.specs.declared.newest.Newest.{Newest as NewestFile}

-- ---- accounts
-- The folder stands as this account says, and the file that is written, if one is, is the last that is known.
pub record AreAt {F D : Type 0} (names_in : F → List Name) (model : DiskModel D) (files : FilesState F) (a : Archive Command) (disks : ℕ → D) : Type 0 where
  pub stands : Stands names_in model a files.folder disks
  pub last : NewestIsLast files.files a

-- This recorder writes the account's newest file, which has this number. No stop loses the file's name.
pub record IsWritten {D : Type 0} (model : DiskModel D) (a : Archive Command) (file : Newest Command) (n : ℕ) (recorder : RecorderState D) (disks : ℕ → D) : Type 0 where
  pub newest : a.newest ≡ Some file
  pub number_is : file.name.number ≡ n
  pub stays : file.name.fate ≡ Stays
  pub stands : IsIn model [] file.world recorder
  pub here : disks n ≡ recorder.file.disk
  pub honest : model.is_honest recorder.file.disk

-- The account's newest file, which has this number, was made, and this is its disk. No stop loses its name, and nothing was
-- done in it.
pub record IsBegun {D : Type 0} (model : DiskModel D) (a : Archive Command) (file : Newest Command) (n : ℕ) (disk : D) (disks : ℕ → D) : Type 0 where
  pub newest : a.newest ≡ Some file
  pub number_is : file.name.number ≡ n
  pub stays : file.name.fate ≡ Stays
  pub unopened : file.world ≡ start
  pub here : disks n ≡ disk
  pub honest : model.is_honest disk

-- The account's newest file isn't open, and no stop loses its name. If it is with the folder, it has the account's disk,
-- which is honest.
pub record IsAtHand {F D : Type 0} (file_in : F → ℕ → Place D) (model : DiskModel D) (folder : F) (a : Archive Command) (file : Newest Command) (disks : ℕ → D) : Type 0 where
  pub newest : a.newest ≡ Some file
  pub stays : file.name.fate ≡ Stays
  pub closed : file.world.is_open ≡ false
  pub there : (disk : D) → file_in folder file.name.number ≡ Kept disk → (disks file.name.number ≡ disk) × model.is_honest disk

-- the same account, with this newest file
abbrev pub with_newest : Archive Command → Newest Command → Archive Command
with_newest a file = archive a.ended (Some file)

-- this file is written no more, and none is
abbrev pub with_file : Archive Command → Name → Content Command → Archive Command
with_file a name content = archive (a.ended ++ There false name content ∷ []) None

-- what is known of a file that is written no more: it has ended with all that was acknowledged, or was set aside as it is
abbrev pub IsLetGo : Bool → World Command → Content Command → Type 0
IsLetGo true world content = (bytes : List ℕ) × (content ≡ Whole bytes world.acknowledged)
IsLetGo false world content = content ≡ Known (closed world world.in_doubt)

-- the same file, which has come to this world
abbrev pub in_world : Newest Command → World Command → Newest Command
in_world file world = record { name = file.name; world = world }

-- ---- what events lead to
-- Events of the law lead from the one account to the other, and the folder has its names.
abbrev pub Reaches : {F D : Type 0} → (F → List Name) → (F → ℕ) → (F → ℕ → List ℕ → Type 0) → DiskModel D → Archive Command → F → (ℕ → D) → Archive Command → F → (ℕ → D) → Type 0
Reaches names_in moment left_since model a old disks b new after =
    (names_in new ≡ names b) × LeadsTo names_in moment left_since model a old disks b new after

module _ {F D : Type 0} (names_in : F → List Name) (moment : F → ℕ) (left_since : F → ℕ → List ℕ → Type 0) (model : DiskModel D) where
  -- Events of the law lead from the one account to the other, and the files stand at that.
  abbrev pub Comes : FilesState F → Archive Command → (ℕ → D) → FilesState F → Archive Command → (ℕ → D) → Type 0
  Comes old a disks new b after = AreAt names_in model new b after × LeadsTo names_in moment left_since model a old.folder disks b new.folder after

  -- They lead to an account in which no file is written.
  abbrev pub ComesFree : FilesState F → Archive Command → (ℕ → D) → FilesState F → Type 0
  ComesFree old a disks new = (b : Archive Command) × (after : ℕ → D) × (b.newest ≡ None) × Comes old a disks new b after

  -- They lead to an account in which this recorder writes the file with this number, which is handed out.
  abbrev pub ComesWritten : FilesState F → Archive Command → (ℕ → D) → ℕ → RecorderState D → FilesState F → Type 0
  ComesWritten old a disks n recorder new =
      (b : Archive Command) × (file : Newest Command) × (after : ℕ → D) × IsWritten model b file n recorder after × (new.out ≡ Some n)
      × Comes old a disks new b after

  -- They lead to an account in which the file with this number is written, and may be opened again.
  abbrev pub ComesBack : (F → ℕ → Place D) → FilesState F → Archive Command → (ℕ → D) → ℕ → FilesState F → Type 0
  ComesBack file_in old a disks n new =
      (b : Archive Command) × (file : Newest Command) × (after : ℕ → D) × (file.name.number ≡ n) × IsAtHand file_in model new.folder b file after
      × Comes old a disks new b after

-- ---- an archive
-- this is the file that is written, and it is handed out; or none is
abbrev pub WritesIt : {F D : Type 0} → DiskModel D → FilesState F → Option (NewestFile D) → Archive Command → (ℕ → D) → Type 0
WritesIt model files None a disks = a.newest ≡ None
WritesIt model files (Some newest) a disks =
    (file : Newest Command) × IsWritten model a file newest.name.number newest.recorder disks × (files.out ≡ Some newest.name.number)

-- Whatever account an archive stands at, of these files and this one that is written, events of the law lead to another, at
-- which it stands then. An honest folder stays so.
abbrev pub GoesBy : {F D : Type 0} → (F → List Name) → (F → ℕ) → (F → ℕ → List ℕ → Type 0) → (F → Type 0) → DiskModel D → FilesState F → Option (NewestFile D) → FilesState F → Option (NewestFile D) → Type 0
GoesBy {F} {D} names_in moment left_since is_honest model old was new now =
    is_honest old.folder → is_honest new.folder
    × ((a : Archive Command) (disks : ℕ → D) → AreAt names_in model old a disks → WritesIt model old was a disks
    → (b : Archive Command) × (after : ℕ → D) × WritesIt model new now b after × Comes names_in moment left_since model old a disks new b after)

-- The same, from each account in which the file with this number is written, and isn't open.
abbrev pub GoesOnFrom : {F D : Type 0} → (F → List Name) → (F → ℕ) → (F → ℕ → List ℕ → Type 0) → (F → Type 0) → DiskModel D → (F → ℕ → Place D) → FilesState F → ℕ → FilesState F → Option (NewestFile D) → Type 0
GoesOnFrom {F} {D} names_in moment left_since is_honest model file_in old n new now =
    is_honest old.folder → is_honest new.folder
    × ((a : Archive Command) (file : Newest Command) (disks : ℕ → D) → AreAt names_in model old a disks → file.name.number ≡ n
    → IsAtHand file_in model old.folder a file disks
    → (b : Archive Command) × (after : ℕ → D) × WritesIt model new now b after × Comes names_in moment left_since model old a disks new b after)

-- ---- a start
-- The last file of this account has this number, is ours, and may be written: it is the newest, or may be it again. It isn't
-- open, and no stop loses its name.
abbrev pub MayBeWritten : Archive Command → ℕ → Type 0
MayBeWritten b n =
    (c : Archive Command) × (file : Newest Command) × ((c ≡ b) ⊎ Resumes b c) × (c.newest ≡ Some file) × (file.name.number ≡ n)
    × (file.name.fate ≡ Stays) × (file.world.is_open ≡ false)

-- A program may start on a folder that stands at this account: each file that is with it has the account's disk, which is
-- honest, and whatever a sync of the folder makes of the account, its last file may be written, if there is one.
pub record MayStart {F D : Type 0} (file_in : F → ℕ → Place D) (model : DiskModel D) (folder : F) (a : Archive Command) (disks : ℕ → D) : Type 0 where
  pub kept : (n : ℕ) (disk : D) → file_in folder n ≡ Kept disk → (disks n ≡ disk) × model.is_honest disk
  pub last : (b : Archive Command) (front : List ℕ) (n : ℕ) → Resolves a b → AllStay (names b) → listed (names b) ≡ front ++ n ∷ [] → MayBeWritten b n
  pub none : (b : Archive Command) → Resolves a b → AllStay (names b) → listed (names b) ≡ [] → b.newest ≡ None

-- No file is known, and none is written; or the last may be opened.
abbrev pub IsWaiting : {F D : Type 0} → (F → ℕ → Place D) → DiskModel D → FilesState F → Archive Command → (ℕ → D) → Type 0
IsWaiting file_in model files a disks =
    ((a.newest ≡ None) × (files.files ≡ [])) ⊎ ((file : Newest Command) × IsAtHand file_in model files.folder a file disks)
