-- What came last in an archive is never lost: which events keep that. Ours.
use Rattle.std.specs.Prelude.{◌≡◌, ◌≢◌, ℕ, ◌==◌, if◌then◌else◌, List, [], ◌∷◌, ◌++◌, ⊤}
use Rattle.archive_folder.specs.declared.names.Name.{Name}
use Rattle.archive_folder.specs.declared.names.Fate.TheVariants.{Stays}
use Rattle.archive_history.specs.Archive.{File, Archive, Throwing, aside_file, names, names_of, commands_of}
use Rattle.archive_history.specs.History.{Event, Called, HaltedIn}

-- a stop may take away each of these names
abbrev pub NoneStays : List Name → Type 0
NoneStays [] = ⊤
NoneStays (first ∷ others) = (first.fate ≢ Stays) × NoneStays others

-- What came after the last file whose name stays held nothing: so no stop makes a file the last one while what was
-- recorded after it is gone.
abbrev pub EndsSafe : {C : Type 0} → List (File C) → Type 0
EndsSafe [] = ⊤
EndsSafe (file ∷ files) = (NoneStays (names_of files) → commands_of files ≡ []) × EndsSafe files

-- the same of all files, of which the newest is the last
abbrev pub EndIsSafe : {C : Type 0} → Archive C → Type 0
EndIsSafe a = EndsSafe (a.ended ++ aside_file a.newest)

-- what comes after the name with this number
abbrev pub after_name : ℕ → List Name → List Name
after_name n [] = []
after_name n (first ∷ others) = if first.number == n then others else after_name n others

-- one of these stays
abbrev pub IsFollowed : ℕ → List Name → Type 0
IsFollowed n all = NoneStays (after_name n all) → ⊥

-- the last file whose name stays isn't thrown away
abbrev pub KeepsLast : {C : Type 0} → Archive C → Event C → Type 0
KeepsLast a (Called (Throwing n)) = IsFollowed n (names a)
KeepsLast a (HaltedIn (Throwing n)) = IsFollowed n (names a)
KeepsLast a event = ⊤
