-- The names in a folder, as numbers, and what a stop may leave of them. The rules are ours.
-- What is assumed of a real folder stands in docs/ARCHITECTURE.md.
use Rattle.std.specs.Prelude.{◌≡◌, ◌⊎◌, ℕ, ◌<◌, ◌==◌, if◌then◌else◌, List, [], ◌∷◌, ◌++◌, map, ⊤}
pub use Rattle.archive_folder.specs.declared.names.Name.{Name}
pub use Rattle.archive_folder.specs.declared.names.FileName.{FileName}
pub use Rattle.archive_folder.specs.declared.names.Fate.{Fate}
pub use Rattle.archive_folder.specs.declared.names.Fate.TheVariants.{Stays, Comes, Goes}

abbrev pub numbers_of : List FileName → List ℕ
numbers_of files = map (λ (file : FileName). file.number) files

abbrev pub name : ℕ → Fate → Name
name number fate = record { number = number; fate = fate }

-- An image may lack a name of this fate. `Stays`: the name is there, and in every image. `Comes`: it is there, and a stop
-- may lose it. `Goes`: it isn't there, and a stop may bring it back.
abbrev pub MayLack : Fate → Type 0
MayLack Stays = ⊥
MayLack Comes = ⊤
MayLack Goes = ⊤

-- A stop may leave these numbers: those of the names that stay, and any of the others, in their order.
abbrev pub IsLeft : List Name → List ℕ → Type 0
IsLeft [] [] = ⊤
IsLeft [] (n ∷ left) = ⊥
IsLeft (first ∷ names) [] = MayLack first.fate × IsLeft names []
IsLeft (first ∷ names) (n ∷ left) = ((n ≡ first.number) × IsLeft names left) ⊎ (MayLack first.fate × IsLeft names (n ∷ left))

-- what a list gives
abbrev pub listed_one : ℕ → Fate → List ℕ
listed_one n Stays = n ∷ []
listed_one n Comes = n ∷ []
listed_one n Goes = []

abbrev pub listed : List Name → List ℕ
listed [] = []
listed (first ∷ names) = listed_one first.number first.fate ++ listed names

-- after a making of a file under a number above all others
abbrev pub made : ℕ → List Name → List Name
made n names = names ++ name n Comes ∷ []

-- the name with this number has another fate
abbrev pub with_fate : ℕ → Fate → List Name → List Name
with_fate n fate [] = []
with_fate n fate (first ∷ names) = if first.number == n then name first.number fate ∷ names else first ∷ with_fate n fate names

-- after a removal
abbrev pub removed : ℕ → List Name → List Name
removed n names = with_fate n Goes names

-- after a sync: what is there stays
abbrev pub synced_one : ℕ → Fate → List Name
synced_one n Stays = name n Stays ∷ []
synced_one n Comes = name n Stays ∷ []
synced_one n Goes = []

abbrev pub synced : List Name → List Name
synced [] = []
synced (first ∷ names) = synced_one first.number first.fate ++ synced names

-- after a stop that left these numbers
abbrev pub restarted : List ℕ → List Name
restarted [] = []
restarted (n ∷ left) = name n Stays ∷ restarted left

-- each number is above those before it
abbrev pub AreAbove : ℕ → List Name → Type 0
AreAbove n [] = ⊤
AreAbove n (first ∷ names) = (n < first.number) × AreAbove first.number names

-- every number is below this one
abbrev pub AreBelow : ℕ → List Name → Type 0
AreBelow n [] = ⊤
AreBelow n (first ∷ names) = (first.number < n) × AreBelow n names

-- the numbers rise
abbrev pub AreRising : List Name → Type 0
AreRising [] = ⊤
AreRising (first ∷ names) = AreAbove first.number names

-- where the file is that belongs to a number
pub data Place (D : Type 0) : Type 0 where
  -- there is none
  Nowhere : Place D
  -- it was handed out as a disk
  Out : Place D
  -- it is with the folder, as this disk
  Kept : (disk : D) → Place D

abbrev pub IsKept : {D : Type 0} → Place D → Type 0
IsKept Nowhere = ⊥
IsKept Out = ⊥
IsKept (Kept disk) = ⊤
