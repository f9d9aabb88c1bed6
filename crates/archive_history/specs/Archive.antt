-- What is known of an archive's files, and what calls and stops make of that. Nothing is said here of the folder and of
-- its disks. Ours.
use Rattle.std.specs.Prelude.{◌≡◌, ◌⊎◌, ◌==◌, ℕ, Bool, true, false, if◌then◌else◌, List, [], ◌∷◌, ◌++◌, Option, None, Some, ⊤}
use Rattle.archive_folder.specs.declared.names.Name.{Name}
use Rattle.archive_folder.specs.declared.names.Fate.{Fate}
use Rattle.archive_folder.specs.declared.names.Fate.TheVariants.{Stays, Comes, Goes}
use Rattle.archive_folder.specs.Names.{name, MayLack}
use Rattle.history.specs.World.{World, Call, Step, start, happens, begun, closed}

-- what is in a file that is written no more
pub data Content (C : Type 0) : Type 0 where
  -- it has ended: these bytes are its only image, and show these commands
  Whole : (bytes : List ℕ) → (commands : List C) → Content C
  -- It was set aside as it is: it shows what was acknowledged in it, and perhaps the group that was in doubt.
  Known : (world : World C) → Content C
  -- It isn't ours, or was damaged before this account: it has these bytes, and shows no commands.
  Foreign : (bytes : List ℕ) → Content C

-- what was acknowledged in it
abbrev pub commands_in : {C : Type 0} → Content C → List C
commands_in (Whole bytes commands) = commands
commands_in (Known world) = world.acknowledged
commands_in (Foreign bytes) = []

-- a file that is written no more
pub data File (C : Type 0) : Type 0 where
  There : (is_thrown : Bool) → (name : Name) → (content : Content C) → File C
  -- it is there no more, and no stop brings it back
  Gone : (commands : List C) → File C

-- the newest file, which its recorder writes
pub record Newest (C : Type 0) : Type 0 where
  pub name : Name
  pub world : World C

-- The account of an archive: every file that it ever had, the oldest first.
pub record Archive (C : Type 0) : Type 0 where
  pub ended : List (File C)
  -- none before the first file, and between two files
  pub newest : Option (Newest C)

abbrev pub archive : {C : Type 0} → List (File C) → Option (Newest C) → Archive C
archive ended newest = record { ended = ended; newest = newest }

-- an archive that was never written
abbrev pub nothing : {C : Type 0} → Archive C
nothing = record { ended = []; newest = None }

-- the names that the folder has
abbrev pub names_of : {C : Type 0} → List (File C) → List Name
names_of [] = []
names_of (There is_thrown name content ∷ files) = name ∷ names_of files
names_of (Gone commands ∷ files) = names_of files

abbrev pub newest_names : {C : Type 0} → Option (Newest C) → List Name
newest_names None = []
newest_names (Some file) = file.name ∷ []

abbrev pub names : {C : Type 0} → Archive C → List Name
names a = names_of a.ended ++ newest_names a.newest

-- a call of the folder, or of the newest file's recorder
pub data Move (C : Type 0) : Type 0 where
  -- an empty file is made under this number
  Making : (number : ℕ) → Move C
  -- the file with this number is removed
  Throwing : (number : ℕ) → Move C
  -- the folder is synced
  Syncing : Move C
  -- names are listed, a file is opened or given back
  Asking : Move C
  Recording : (call : Call C) → Move C

-- The file with this number is removed, so that an image may lack it. Of several that were removed since the last sync a
-- stop may bring back any: the numbers tell the gap.
abbrev pub thrown : {C : Type 0} → ℕ → List (File C) → List (File C)
thrown n [] = []
thrown n (There is_thrown first content ∷ files) =
    if first.number == n then There true (name first.number Goes) content ∷ files else There is_thrown first content ∷ thrown n files
thrown n (Gone commands ∷ files) = Gone commands ∷ thrown n files

abbrev pub with_world : {C : Type 0} → (World C → World C) → Option (Newest C) → Option (Newest C)
with_world change None = None
with_world change (Some file) = Some (record { name = file.name; world = change file.world })

-- the newest file is left exactly as it is, and written no more: what waits is lost
abbrev pub aside_file : {C : Type 0} → Option (Newest C) → List (File C)
aside_file None = []
aside_file (Some file) = There false file.name (Known (closed file.world file.world.in_doubt)) ∷ []

abbrev pub set_aside : {C : Type 0} → Archive C → Archive C
set_aside a = archive (a.ended ++ aside_file a.newest) None

-- A file that had ended is the newest again: nothing of it is in doubt.
abbrev pub world_of : {C : Type 0} → List C → World C
world_of commands = record { acknowledged = commands; in_doubt = []; held = []; is_open = false }

-- what is known while a call runs, and if it ends without its answer
abbrev pub begun_by : {C : Type 0} → Archive C → Move C → Archive C
begun_by a (Making n) = archive a.ended (Some (record { name = name n Comes; world = start }))
begun_by a (Throwing n) = archive (thrown n a.ended) a.newest
begun_by a Syncing = a
begun_by a Asking = a
begun_by a (Recording call) = archive a.ended (with_world (λ w. begun w call) a.newest)

-- after a call of the recorder and its answer
abbrev pub recorded : {C : Type 0} → Archive C → Step C → Archive C
recorded a step = archive a.ended (with_world (λ w. happens w step) a.newest)

-- the newest file is written no more
abbrev pub ended_file : {C : Type 0} → Option (Newest C) → List ℕ → List (File C)
ended_file None bytes = []
ended_file (Some file) bytes = There false file.name (Whole bytes file.world.acknowledged) ∷ []

abbrev pub ended_with : {C : Type 0} → Archive C → List ℕ → Archive C
ended_with a bytes = archive (a.ended ++ ended_file a.newest bytes) None

-- the machine has stopped: what waits is lost
abbrev pub shut : {C : Type 0} → Archive C → Archive C
shut a = archive a.ended (with_world (λ w. closed w w.in_doubt) a.newest)

-- what a fault, a sync or a stop may make of a fate: a name that stays stays
abbrev pub MayBecome : Fate → Fate → Type 0
MayBecome Stays Stays = ⊤
MayBecome Stays fate = ⊥
MayBecome fate other = ⊤

-- The same files, some fates of which are settled: a file that an image may lack is there, or gone.
abbrev pub FilesResolve : {C : Type 0} → List (File C) → List (File C) → Type 0
FilesResolve [] [] = ⊤
FilesResolve (There is_thrown name content ∷ files) (There was_thrown other content' ∷ others) =
    (was_thrown ≡ is_thrown) × (other.number ≡ name.number) × MayBecome name.fate other.fate × (content' ≡ content) × FilesResolve files others
FilesResolve (There is_thrown name content ∷ files) (Gone commands' ∷ others) = MayLack name.fate × (commands' ≡ commands_in content) × FilesResolve files others
FilesResolve (Gone commands ∷ files) (Gone commands' ∷ others) = (commands' ≡ commands) × FilesResolve files others
FilesResolve files others = ⊥

abbrev pub NewestResolves : {C : Type 0} → Option (Newest C) → Option (Newest C) → Type 0
NewestResolves None None = ⊤
NewestResolves None (Some other) = ⊥
NewestResolves (Some file) None = MayLack file.name.fate
NewestResolves (Some file) (Some other) = (other.name.number ≡ file.name.number) × MayBecome file.name.fate other.name.fate × (other.world ≡ file.world)

abbrev pub Resolves : {C : Type 0} → Archive C → Archive C → Type 0
Resolves a b = FilesResolve a.ended b.ended × NewestResolves a.newest b.newest

-- after a sync of the folder that succeeds
abbrev pub settled_file : {C : Type 0} → Bool → ℕ → Fate → Content C → File C
settled_file is_thrown n Goes content = Gone (commands_in content)
settled_file is_thrown n fate content = There is_thrown (name n Stays) content

abbrev pub settled_files : {C : Type 0} → List (File C) → List (File C)
settled_files [] = []
settled_files (There is_thrown name content ∷ files) = settled_file is_thrown name.number name.fate content ∷ settled_files files
settled_files (Gone commands ∷ files) = Gone commands ∷ settled_files files

-- a new file whose name no stop takes away, with nothing in it
abbrev pub with_new : {C : Type 0} → ℕ → Archive C → Archive C
with_new n a = archive (settled_files a.ended) (Some (record { name = name n Stays; world = start }))

-- every command that was acknowledged, in order, wherever its file is now
abbrev pub commands_of : {C : Type 0} → List (File C) → List C
commands_of [] = []
commands_of (There is_thrown name content ∷ files) = commands_in content ++ commands_of files
commands_of (Gone commands ∷ files) = commands ++ commands_of files

abbrev pub newest_commands : {C : Type 0} → Option (Newest C) → List C
newest_commands None = []
newest_commands (Some file) = file.world.acknowledged

abbrev pub all_acknowledged : {C : Type 0} → Archive C → List C
all_acknowledged a = commands_of a.ended ++ newest_commands a.newest

-- those of the files that weren't thrown away
abbrev pub kept_of : {C : Type 0} → List (File C) → List C
kept_of [] = []
kept_of (There is_thrown name content ∷ files) = (if is_thrown then [] else commands_in content) ++ kept_of files
kept_of (Gone commands ∷ files) = kept_of files

abbrev pub acknowledged : {C : Type 0} → Archive C → List C
acknowledged a = kept_of a.ended ++ newest_commands a.newest

-- what was acknowledged in a file, and perhaps the group that is in doubt after it
abbrev pub MayHold : {C : Type 0} → World C → List C → Type 0
MayHold world commands = (commands ≡ world.acknowledged) ⊎ (commands ≡ world.acknowledged ++ world.in_doubt)

abbrev pub MayBeIn : {C : Type 0} → Content C → List C → Type 0
MayBeIn (Whole bytes commands) shown = shown ≡ commands
MayBeIn (Known world) shown = MayHold world shown
MayBeIn (Foreign bytes) shown = shown ≡ []

-- What the files that weren't thrown away may hold, one after the other. Only in a file that was set aside and in the
-- newest may there be more than what was acknowledged.
abbrev pub MayHoldAll : {C : Type 0} → List (File C) → Option (Newest C) → List C → Type 0
MayHoldAll [] None all = all ≡ []
MayHoldAll [] (Some file) all = MayHold file.world all
MayHoldAll (There true name content ∷ files) newest all = MayHoldAll files newest all
MayHoldAll {C} (There false name content ∷ files) newest all =
    (commands : List C) × (rest : List C) × MayBeIn content commands × MayHoldAll files newest rest × (all ≡ commands ++ rest)
MayHoldAll (Gone commands ∷ files) newest all = MayHoldAll files newest all
