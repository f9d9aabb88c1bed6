-- A folder of recordings, and the account that it stands as. Ours.
use Rattle.std.specs.Prelude.{◌≡◌, ℕ, List, [], ◌∷◌, ◌++◌, None, Some, IfSome}
use Rattle.disk_model.specs.declared.disk.Disk.{Ghosts as DiskModel}
use Rattle.archive_folder.specs.declared.names.FileName.{FileName}
use Rattle.archive_folder.specs.declared.names.Fate.TheVariants.{Stays}
use Rattle.archive_folder.specs.declared.names.Name.{Name}
use Rattle.archive_folder.specs.Names.{name}
use Rattle.history.specs.World.{start}
use Rattle.ogg_command.specs.declared.command.Command.{Command}
use Rattle.chain_rules.specs.Recording.{add}
use Rattle.file_recorder.specs.Recovery.{Shows, Accepts}
use Rattle.archive_history.specs.Archive.{Archive, Newest, names}
use Rattle.archive_history.specs.Accounted.{StandsAs}
use Rattle.archive_history.specs.History.{point}
use Rattle.archive_history.specs.Leading.{Leads}

-- The folder has the account's names, and under each number stands a disk whose images are as the account says.
abbrev pub Stands : {F D : Type 0} → (F → List Name) → DiskModel D → Archive Command → F → (ℕ → D) → Type 0
Stands names_in model a folder disks = StandsAs names_in model Shows add [] a (point folder disks)

-- Events of the law lead from this account of the folder and its files to the other one.
abbrev pub LeadsTo : {F D : Type 0} → (F → List Name) → (F → ℕ) → (F → ℕ → List ℕ → Type 0) → DiskModel D → Archive Command → F → (ℕ → D) → Archive Command → F → (ℕ → D) → Type 0
LeadsTo names_in moment left_since model a old disks b new after =
    Leads names_in moment left_since model Shows Accepts add [] a (point old disks) b (point new after)

-- the last of these files has this number
abbrev pub IsLastOf : ℕ → List FileName → Type 0
IsLastOf n files = (front : List FileName) × (last : FileName) × (files ≡ front ++ last ∷ []) × (last.number ≡ n)

-- the file that is written, if one is, is the last of these
abbrev pub NewestIsLast : List FileName → Archive Command → Type 0
NewestIsLast files a = IfSome a.newest (λ (file : Newest Command). IsLastOf file.name.number files)

-- Events of the law lead to an account in which the same file is written, or none is. The files' disks are the same.
abbrev pub StaysWritten : {F D : Type 0} → (F → List Name) → (F → ℕ) → (F → ℕ → List ℕ → Type 0) → DiskModel D → Archive Command → F → (ℕ → D) → F → Type 0
StaysWritten names_in moment left_since model a old disks new =
    (b : Archive Command) × (b.newest ≡ a.newest) × (names_in new ≡ names b) × LeadsTo names_in moment left_since model a old disks b new disks

-- Events of the law lead to an account in which no file is written.
abbrev pub WritesNone : {F D : Type 0} → (F → List Name) → (F → ℕ) → (F → ℕ → List ℕ → Type 0) → DiskModel D → Archive Command → F → (ℕ → D) → F → Type 0
WritesNone {F} {D} names_in moment left_since model a old disks new =
    (b : Archive Command) × (after : ℕ → D) × (b.newest ≡ None) × (names_in new ≡ names b) × LeadsTo names_in moment left_since model a old disks b new after

-- Events of the law lead to an account whose newest file is this one, on this disk: nothing was recorded into it yet, and no
-- stop takes away its name.
abbrev pub WritesNew : {F D : Type 0} → (F → List Name) → (F → ℕ) → (F → ℕ → List ℕ → Type 0) → DiskModel D → Archive Command → F → (ℕ → D) → ℕ → D → F → Type 0
WritesNew {F} {D} names_in moment left_since model a old disks number disk new =
    (b : Archive Command) × (after : ℕ → D) × (b.newest ≡ Some (record { name = name number Stays; world = start })) × (after number ≡ disk)
    × (names_in new ≡ names b) × LeadsTo names_in moment left_since model a old disks b new after
