-- What is left of an archive's files when some are thrown away. Ours.
use Rattle.std.specs.Prelude.{◌≡◌, ◌≢◌, ◌≤◌, ◌==◌, ◌||◌, Bool, ℕ, List, [], ◌∷◌, ◌++◌, filter, count_by, is_some}
use Rattle.archive_folder.specs.declared.names.FileName.{FileName}
use Rattle.archive_names.specs.declared.plan.Keeping.{Keeping}

-- a file may have to be thrown away at all
abbrev pub throws : Keeping → Bool
throws keeping = is_some keeping.span || is_some keeping.bytes

abbrev pub has_number : ℕ → FileName → Bool
has_number n file = file.number == n

-- the files that have this number
abbrev pub numbered : ℕ → List FileName → List FileName
numbered n files = filter (has_number n) files

-- how many have it
abbrev pub how_many : ℕ → List FileName → ℕ
how_many n files = count_by (has_number n) files

-- The file with this number is the only one that has it, and isn't the newest, which is the last.
pub record MayGo (n : ℕ) (files : List FileName) : Type 0 where
  pub alone : how_many n files ≡ 1
  pub older : (front : List FileName) (last : FileName) → files ≡ front ++ last ∷ [] → last.number ≢ n

-- The newest, which is the last, is left, and so are all that share their number with another.
pub record IsLeftOf (before after : List FileName) : Type 0 where
  pub newest : (front : List FileName) (last : FileName) → before ≡ front ++ last ∷ [] → (rest : List FileName) × (after ≡ rest ++ last ∷ [])
  pub shared : (n : ℕ) → 2 ≤ how_many n before → numbered n after ≡ numbered n before
