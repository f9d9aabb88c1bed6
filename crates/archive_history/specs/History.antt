-- What calls leave of an archive's folder and files, and histories of calls, answers and stops. Ours.
use Rattle.std.specs.Prelude.{◌≡◌, ◌≢◌, ◌⊎◌, ℕ, ◌≤◌, ◌==◌, if◌then◌else◌, List, [], ◌∷◌, ◌++◌, Option, None, Some, ⊤}
use Rattle.std.specs.List.{AllByRecursion}
use Rattle.disk_model.specs.declared.disk.Disk.{Ghosts as DiskModel}
use Rattle.disk_model.specs.Image.{DiskState, IsImage, settled}
use Rattle.archive_folder.specs.declared.names.Name.{Name}
use Rattle.archive_folder.specs.declared.names.Fate.{Fate}
use Rattle.archive_folder.specs.declared.names.Fate.TheVariants.{Stays}
use Rattle.archive_folder.specs.Names.{Place, Kept, IsLeft, AreBelow, restarted}
use Rattle.archive_folder.specs.Clock.{MayHaveMade}
use Rattle.history.specs.Showing.{StartsFrom}
use Rattle.history.specs.World.{World, Step, Stopped, StoppedIn, happens, acknowledged_by}
use Rattle.history.specs.History.{MayBegin, Leaves, IsStep}
use Rattle.archive_history.specs.Archive.{File, There, Gone, Whole, Known, Foreign, Newest, Archive, archive, nothing, names_of, names, commands_of, world_of, set_aside, Move, Making, Throwing, Syncing, Asking, Recording, begun_by, recorded, ended_with, shut, Resolves}
use Rattle.archive_history.specs.Showing.{numbers}

-- The folder, and the disk under each number, wherever it is: with the folder, or with a recorder.
pub record Point (F D : Type 0) : Type 0 where
  pub folder : F
  pub disk : ℕ → D

abbrev pub point : {F D : Type 0} → F → (ℕ → D) → Point F D
point folder disk = record { folder = folder; disk = disk }

-- the disks, with this one under this number
abbrev pub with_disk : {D : Type 0} → ℕ → D → (ℕ → D) → ℕ → D
with_disk n disk disks m = if m == n then disk else disks m

-- a call with its answer, or a stop
pub data Event (C : Type 0) : Type 0 where
  -- a call of the folder, whatever it answers
  Called : (move : Move C) → Event C
  -- a call of the newest file's recorder, and its answer
  Recorded : (step : Step C) → Event C
  -- the newest file is whole: these bytes are its only image, and nothing writes it again
  Ended : (bytes : List ℕ) → Event C
  -- the newest file is left exactly as it is, damaged or not, and nothing writes it again
  SetAside : Event C
  -- the last file is the newest again: whoever starts takes it for that
  Resumed : Event C
  -- a stop between two calls
  Halted : Event C
  HaltedIn : (move : Move C) → Event C

-- there is a newest file, and this holds of it
abbrev pub IfNewest : {C : Type 0} → Option (Newest C) → (Newest C → Type 0) → Type 0
IfNewest None P = ⊥
IfNewest (Some newest) P = P newest

-- the newest file has another number
abbrev pub IsNotNewest : {C : Type 0} → ℕ → Option (Newest C) → Type 0
IsNotNewest n None = ⊤
IsNotNewest n (Some newest) = newest.name.number ≢ n

-- the disk has these bytes as its only image
pub record IsOnly (bytes : List ℕ) (disk : DiskState) : Type 0 where
  pub is_image : IsImage disk bytes
  pub only : (image : List ℕ) → IsImage disk image → image ≡ bytes

-- if a stop may lose the file's name, nothing in it is acknowledged
abbrev pub IsSafe : {C : Type 0} → Fate → World C → Type 0
IsSafe fate world = (fate ≡ Stays) ⊎ (world.acknowledged ≡ [])

-- What the newest is, if a file that had ended or was set aside is written again.
abbrev pub MayResume : {C : Type 0} → File C → Newest C → Type 0
MayResume (There is_thrown name (Whole bytes commands)) newest = (newest.name ≡ name) × (newest.world ≡ world_of commands)
MayResume (There is_thrown name (Known world)) newest = (newest.name ≡ name) × (newest.world ≡ world)
MayResume (There is_thrown name (Foreign bytes)) newest = ⊥
MayResume (Gone commands) newest = ⊥

-- The last file that is there is the newest from now on. What came after it is gone, and held nothing.
pub record Resumes {C : Type 0} (a b : Archive C) : Type 0 where
  pub files : List (File C)
  pub file : File C
  pub gone : List (File C)
  pub newest : Newest C
  pub ended : a.ended ≡ files ++ file ∷ gone
  pub none : a.newest ≡ None
  pub may : MayResume file newest
  pub no_names : names_of gone ≡ []
  pub no_commands : commands_of gone ≡ []
  pub above : AreBelow newest.name.number (names_of files)
  -- no stop loses its name
  pub stays : newest.name.fate ≡ Stays
  pub is : b ≡ archive files (Some newest)

-- a call of the folder
abbrev pub IsOfFolder : {C : Type 0} → Move C → Type 0
IsOfFolder (Recording call) = ⊥
IsOfFolder move = ⊤

-- a call that ended with an answer, or with a fault
abbrev pub IsAnswer : {C : Type 0} → Step C → Type 0
IsAnswer Stopped = ⊥
IsAnswer (StoppedIn call) = ⊥
IsAnswer step = ⊤

-- Every stop since the old folder has left names that the bound allows.
pub record LeavesNames {F : Type 0} (moment : F → ℕ) (left_since : F → ℕ → List ℕ → Type 0) (bound : List Name) (old new : F) : Type 0 where
  pub later : moment old ≤ moment new
  pub each : (left : List ℕ) → left_since new (moment old) left → IsLeft bound left

-- After a beginning that failed the names are as they were, or the new one is in doubt, and its empty file is with the
-- folder.
abbrev pub MayHaveBegun : {D : Type 0} → DiskModel D → ℕ → List Name → List Name → (ℕ → Place D) → Type 0
MayHaveBegun {D} model n old new file = (new ≡ old)
    ⊎ (MayHaveMade n old new × ((disk : D) × (file n ≡ Kept disk) × model.is_honest disk × (model.state disk ≡ settled [])))

-- the account and the point that the events lead to
abbrev pub account_after : {F D C : Type 0} → Archive C → List (Event C × Archive C × Point F D) → Archive C
account_after a [] = a
account_after a ((event, b, new) ∷ events) = account_after b events

abbrev pub point_after : {F D C : Type 0} → Point F D → List (Event C × Archive C × Point F D) → Point F D
point_after old [] = old
point_after old ((event, b, new) ∷ events) = point_after new events

-- nothing is thrown away
abbrev pub ThrowsNothing : {F D C : Type 0} → List (Event C × Archive C × Point F D) → Type 0
ThrowsNothing [] = ⊤
ThrowsNothing ((Called (Throwing n), b, new) ∷ events) = ⊥
ThrowsNothing ((HaltedIn (Throwing n), b, new) ∷ events) = ⊥
ThrowsNothing ((event, b, new) ∷ events) = ThrowsNothing events

-- what the answers say is kept, in order
abbrev pub answered_by : {C : Type 0} → Option (Newest C) → Step C → List C
answered_by None step = []
answered_by (Some file) step = acknowledged_by file.world step

abbrev pub answered_one : {C : Type 0} → Option (Newest C) → Event C → List C
answered_one newest (Recorded step) = answered_by newest step
answered_one newest event = []

abbrev pub answered : {F D C : Type 0} → Archive C → List (Event C × Archive C × Point F D) → List C
answered a [] = []
answered a ((event, b, new) ∷ events) = answered_one a.newest event ++ answered b events

-- the names of the folder, and its clock: the ghost members of `Folder`
module _ {F D S C : Type 0} (names_in : F → List Name) (moment : F → ℕ) (left_since : F → ℕ → List ℕ → Type 0) (model : DiskModel D)
    (shows : List ℕ → S → Type 0) (accepts : S → C → Type 0) (next : S → C → S) (first : S) where
  -- a stop now may leave this image
  pub record IsImageOf (point : Point F D) (image : List (ℕ × List ℕ)) : Type 0 where
    pub left : IsLeft (names_in point.folder) (numbers image)
    pub files : AllByRecursion (λ (file : ℕ × List ℕ). IsImage (model.state (point.disk file.0)) file.1) image

  -- all other files are as they were
  abbrev pub AreSame : ℕ → Point F D → Point F D → Type 0
  AreSame n old new = (m : ℕ) → m ≢ n → new.disk m ≡ old.disk m

  -- A file is begun only if none is written: the one before has ended. The newest is never thrown away.
  abbrev pub MayMove : Archive C → Move C → Type 0
  MayMove a (Making n) = (a.newest ≡ None) × AreBelow n (names a)
  MayMove a (Throwing n) = IsNotNewest n a.newest
  MayMove a (Recording call) = IfNewest a.newest (λ (file : Newest C). MayBegin accepts next first file.world call)
  MayMove a move = ⊤

  -- what a call of the folder leaves at each moment
  abbrev pub LeavesFolder : Archive C → Move C → Point F D → Point F D → Type 0
  LeavesFolder a move old new = LeavesNames moment left_since (names (begun_by a move)) old.folder new.folder

  -- What a call leaves at each moment, whatever it answers.
  abbrev pub LeavesAll : Archive C → Move C → Point F D → Point F D → Type 0
  LeavesAll a (Making n) old new = LeavesFolder a (Making n) old new × AreSame n old new
  LeavesAll a (Throwing n) old new = LeavesFolder a (Throwing n) old new × (new.disk ≡ old.disk)
  LeavesAll a Syncing old new = LeavesFolder a Syncing old new × (new.disk ≡ old.disk)
  LeavesAll a Asking old new = LeavesFolder a Asking old new × (new.disk ≡ old.disk)
  LeavesAll a (Recording call) old new =
      IfNewest a.newest (λ (file : Newest C). Leaves model shows next first file.world call (old.disk file.name.number) (new.disk file.name.number) × AreSame file.name.number old new)
      × (new.folder ≡ old.folder)

  -- bytes that a stop may leave of a file while one is made under this number: that one is empty
  abbrev pub MadeBytes : ℕ → Point F D → ℕ → List ℕ → Type 0
  MadeBytes n old m bytes = ((m ≡ n) × (bytes ≡ [])) ⊎ ((m ≢ n) × IsImage (model.state (old.disk m)) bytes)

  -- bytes that a stop inside a call of the recorder may leave of a file
  abbrev pub WasBytes : Option (Newest C) → Point F D → Point F D → ℕ → List ℕ → Type 0
  WasBytes newest old new n bytes = IfNewest newest (λ (file : Newest C).
      ((n ≡ file.name.number) × model.images_since (new.disk file.name.number) (model.moment (old.disk file.name.number)) bytes) ⊎ ((n ≢ file.name.number) × IsImage (model.state (old.disk n)) bytes))

  -- A stop inside the call may leave this image.
  abbrev pub WasImage : Archive C → Move C → Point F D → Point F D → List (ℕ × List ℕ) → Type 0
  WasImage a (Recording call) old new image =
      IsLeft (names_in old.folder) (numbers image) × AllByRecursion (λ (file : ℕ × List ℕ). WasBytes a.newest old new file.0 file.1) image
  WasImage a (Making n) old new image =
      left_since new.folder (moment old.folder) (numbers image) × AllByRecursion (λ (file : ℕ × List ℕ). MadeBytes n old file.0 file.1) image
  WasImage a move old new image =
      left_since new.folder (moment old.folder) (numbers image) × AllByRecursion (λ (file : ℕ × List ℕ). IsImage (model.state (new.disk file.0)) file.1) image

  -- after a stop: the image is what there is, and the only image
  pub record RestartsFrom (image : List (ℕ × List ℕ)) (new : Point F D) : Type 0 where
    pub names_are : names_in new.folder ≡ restarted (numbers image)
    pub files : AllByRecursion (λ (file : ℕ × List ℕ). StartsFrom file.1 (model.state (new.disk file.0))) image

  -- a stop that left one of these images, after which the account is b
  abbrev pub Restarts : Archive C → (List (ℕ × List ℕ) → Type 0) → Archive C → Point F D → Type 0
  Restarts a may_be b new = (image : List (ℕ × List ℕ)) × may_be image × RestartsFrom image new × Resolves (shut a) b

  -- a file that was made is empty; none is there if the call failed
  abbrev pub IsEmptyAt : Option (Newest C) → DiskState → Type 0
  IsEmptyAt None disk = ⊤
  IsEmptyAt (Some file) disk = (image : List ℕ) → IsImage disk image → image ≡ []

  abbrev pub HasEmpty : Move C → Archive C → Point F D → Type 0
  HasEmpty (Making n) b new = IsEmptyAt b.newest (model.state (new.disk n))
  HasEmpty move b new = ⊤

  -- The event may come, and the account is b after it.
  abbrev pub IsEvent : Archive C → Event C → Archive C → Point F D → Point F D → Type 0
  IsEvent a (Called move) b old new = IsOfFolder move × MayMove a move × LeavesAll a move old new × Resolves (begun_by a move) b × HasEmpty move b new
  -- what could be lost with the file's name isn't acknowledged: the folder is synced first
  IsEvent a (Recorded step) b old new =
      IfNewest a.newest (λ (file : Newest C). IsAnswer step × IsStep model shows accepts next first file.world step (old.disk file.name.number) (new.disk file.name.number)
      × AreSame file.name.number old new × IsSafe file.name.fate (happens file.world step))
      × (new.folder ≡ old.folder) × (b ≡ recorded a step)
  IsEvent a (Ended bytes) b old new =
      IfNewest a.newest (λ (file : Newest C). IsOnly bytes (model.state (old.disk file.name.number)) × (file.world.in_doubt ≡ []))
      × (new ≡ old) × (b ≡ ended_with a bytes)
  IsEvent a SetAside b old new = IfNewest a.newest (λ (file : Newest C). ⊤) × (new ≡ old) × (b ≡ set_aside a)
  IsEvent a Resumed b old new = Resumes a b × (new ≡ old)
  IsEvent a Halted b old new = Restarts a (IsImageOf old) b new
  IsEvent a (HaltedIn move) b old new =
      (ended : Point F D) × MayMove a move × LeavesAll a move old ended × Restarts (begun_by a move) (WasImage a move old ended) b new

  -- each event after those before it; after each one the folder has the account's names
  abbrev pub AreEvents : Archive C → Point F D → List (Event C × Archive C × Point F D) → Type 0
  AreEvents a old [] = ⊤
  AreEvents a old ((event, b, new) ∷ events) = IsEvent a event b old new × (names_in new.folder ≡ names b) × AreEvents b new events

  -- At first the folder is empty. The events lead to this account, and to the point `now`.
  pub record IsArchiveHistory (start : Point F D) (events : List (Event C × Archive C × Point F D)) (a : Archive C) (now : Point F D) : Type 0 where
    pub begins : names_in start.folder ≡ []
    pub are : AreEvents nothing start events
    pub leads : account_after nothing events ≡ a
    pub ends : point_after start events ≡ now
