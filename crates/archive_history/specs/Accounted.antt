-- When a folder stands as its account says. Ours.
use Rattle.std.specs.Prelude.{◌≡◌, ◌⊎◌, ℕ, true, List, [], ◌∷◌, Option, None, Some, ⊤}
use Rattle.disk_model.specs.declared.disk.Disk.{Ghosts as DiskModel}
use Rattle.disk_model.specs.Image.{IsImage}
use Rattle.archive_folder.specs.declared.names.Name.{Name}
use Rattle.archive_folder.specs.declared.names.Fate.TheVariants.{Stays}
use Rattle.archive_folder.specs.Names.{AreBelow}
use Rattle.history.specs.History.{ShowsWorld}
use Rattle.archive_history.specs.Archive.{File, There, Gone, Newest, Archive, commands_in, names_of, names}
use Rattle.archive_history.specs.Showing.{ShowsContent}
use Rattle.archive_history.specs.History.{Point, IsSafe}

-- the bytes that a stop may leave under each number
abbrev pub Bytes : Type 1
Bytes = ℕ → List ℕ → Type 0

-- what can be lost with a file's name was thrown away, or is nothing
abbrev pub AreSafe : {C : Type 0} → List (File C) → Type 0
AreSafe [] = ⊤
AreSafe (There is_thrown name content ∷ files) = ((is_thrown ≡ true) ⊎ ((name.fate ≡ Stays) ⊎ (commands_in content ≡ []))) × AreSafe files
AreSafe (Gone commands ∷ files) = AreSafe files

abbrev pub NewestSafe : {C : Type 0} → Option (Newest C) → Type 0
NewestSafe None = ⊤
NewestSafe (Some file) = IsSafe file.name.fate file.world

-- the newest file's number is above the others
abbrev pub NewestAbove : {C : Type 0} → List (File C) → Option (Newest C) → Type 0
NewestAbove files None = ⊤
NewestAbove files (Some file) = AreBelow file.name.number (names_of files)

module _ {S C : Type 0} (shows : List ℕ → S → Type 0) (next : S → C → S) (first : S) where
  -- each file that has ended has its bytes as its only image, and they show its commands
  abbrev pub FilesStand : Bytes → List (File C) → Type 0
  FilesStand of [] = ⊤
  FilesStand of (There is_thrown name content ∷ files) = ((b : List ℕ) → of name.number b → ShowsContent shows next first content b) × FilesStand of files
  FilesStand of (Gone commands ∷ files) = FilesStand of files

  abbrev pub NewestStands : Bytes → Option (Newest C) → Type 0
  NewestStands of None = ⊤
  NewestStands of (Some file) = (b : List ℕ) → of file.name.number b → ShowsWorld shows next first file.world b

  -- The files are as the account says, by the bytes that a stop may leave of each. No file's name can take with it what
  -- was acknowledged, unless the file was thrown away.
  pub record Stands (of : Bytes) (a : Archive C) : Type 0 where
    pub files : FilesStand of a.ended
    pub newest : NewestStands of a.newest
    pub safe : AreSafe a.ended
    pub newest_safe : NewestSafe a.newest
    pub above : NewestAbove a.ended a.newest

-- the bytes that a stop now may leave of each file
abbrev pub Now : {F D : Type 0} → DiskModel D → Point F D → Bytes
Now model point n b = IsImage (model.state (point.disk n)) b

-- the folder has the account's names, and its files are as the account says
pub record StandsAs {F D S C : Type 0} (names_in : F → List Name) (model : DiskModel D) (shows : List ℕ → S → Type 0) (next : S → C → S) (first : S) (a : Archive C) (point : Point F D) : Type 0 where
  pub names_are : names_in point.folder ≡ names a
  pub stands : Stands shows next first (Now model point) a
