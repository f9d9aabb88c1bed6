-- What a writer of a folder knows of its files, beside the folder's own names. Ours.
use Rattle.std.specs.Prelude.{◌≡◌, ◌≢◌, ◌⊎◌, ◌==◌, Bool, not, ℕ, max, List, [], ◌∷◌, filter, Option, None, Some, ⊤}
use Rattle.archive_folder.specs.declared.names.FileName.{FileName}
use Rattle.archive_folder.specs.declared.names.Name.{Name}
use Rattle.archive_folder.specs.Names.{Place, Out, IsKept, listed, AreBelow}

-- the number is one of these
abbrev pub Has : List ℕ → ℕ → Type 0
Has [] n = ⊥
Has (m ∷ ms) n = (m ≡ n) ⊎ Has ms n

-- the highest of these numbers, or 0 if there is none
abbrev pub highest : List ℕ → ℕ
highest [] = 0
highest (m ∷ ms) = max m (highest ms)

abbrev pub NoneOrBelow : Option ℕ → List Name → Type 0
NoneOrBelow None names = ⊤
NoneOrBelow (Some next) names = AreBelow next names

-- What holds of a folder's names and files: `files` are numbers of files that are there, `next` is above all names, and
-- each file that is there is with the folder, but for the one with the number `out`, which is handed out.
pub record IsKnown {D : Type 0} (names : List Name) (file : ℕ → Place D) (files : List ℕ) (next out : Option ℕ) : Type 0 where
  pub below : NoneOrBelow next names
  pub there : (n : ℕ) → Has files n → Has (listed names) n
  pub kept : (n : ℕ) → Has (listed names) n → out ≢ Some n → IsKept (file n)
  pub held : (n : ℕ) → out ≡ Some n → file n ≡ Out

-- each file that is there is with the folder
abbrev pub AllKept : {D : Type 0} → List Name → (ℕ → Place D) → Type 0
AllKept names file = (n : ℕ) → Has (listed names) n → IsKept (file n)

abbrev pub is_other : ℕ → FileName → Bool
is_other n file = not (file.number == n)

-- without the files of this number
abbrev pub without : ℕ → List FileName → List FileName
without n files = filter (is_other n) files
