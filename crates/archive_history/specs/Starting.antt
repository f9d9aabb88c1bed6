-- What a program finds that starts on a folder: which file it takes for the newest. Ours.
use Rattle.std.specs.Prelude.{◌≡◌, ℕ, Bool, List, [], ◌∷◌, ◌++◌, None, Some, ⊤}
use Rattle.archive_folder.specs.declared.names.Name.{Name}
use Rattle.archive_folder.specs.declared.names.Fate.TheVariants.{Stays}
use Rattle.archive_history.specs.Archive.{File, There, Foreign, Newest, Archive, names_of, commands_of}
use Rattle.archive_history.specs.History.{Resumes}

-- no stop loses a name, and none brings one back: the folder was synced
abbrev pub AllStay : List Name → Type 0
AllStay [] = ⊤
AllStay (first ∷ names) = (first.fate ≡ Stays) × AllStay names

-- What came after the last file that is there held nothing: the last file that was recorded is never thrown away.
abbrev pub EndsEmpty : {C : Type 0} → List (File C) → Type 0
EndsEmpty [] = ⊤
EndsEmpty (file ∷ files) = (names_of files ≡ [] → commands_of files ≡ []) × EndsEmpty files

-- The last file that is there isn't ours, or was damaged before this account.
pub record EndsForeign {C : Type 0} (a : Archive C) (n : ℕ) : Type 0 where
  pub files : List (File C)
  pub name : Name
  pub is_thrown : Bool
  pub bytes : List ℕ
  pub gone : List (File C)
  pub is : a.ended ≡ files ++ There is_thrown name (Foreign bytes) ∷ gone
  pub none : a.newest ≡ None
  pub no_names : names_of gone ≡ []
  pub number_is : name.number ≡ n

-- the file with the highest number
pub data LastFile {C : Type 0} (a : Archive C) (n : ℕ) : Type 0 where
  -- it is the newest
  IsNewest : (file : Newest C) → a.newest ≡ Some file → file.name.number ≡ n → LastFile a n
  -- it had ended, or was set aside, and is the newest from now on
  MayBeNewest : (b : Archive C) → (is : Resumes a b) → is.newest.name.number ≡ n → LastFile a n
  IsForeign : EndsForeign a n → LastFile a n
