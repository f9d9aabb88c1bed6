-- In every history the folder shows what the account says.
use Rattle.std.specs.Prelude.{ℕ, ◌<◌, ◌==◌, true, false, if◌then◌else◌, List, [], ◌∷◌, ◌++◌, Option, None, Some}
use Rattle.std.specs.List.{AllByRecursion}
use Rattle.std.proofs.Common.{inl, inr, ⊎_elim, subst}
use Rattle.archive_folder.specs.declared.names.Fate.TheVariants.{Goes}
use Rattle.archive_folder.specs.Names.{name, IsLeft, AreBelow}
use Rattle.archive_history.specs.Archive.{File, There, Gone, Newest, names_of, newest_names, thrown}
use Rattle.archive_history.specs.Showing.{numbers, ShowsNewest, ShowsFiles}
use Rattle.archive_history.specs.Accounted.{Bytes, FilesStand, NewestStands}

module _ {S C : Type 0} (shows : List ℕ → S → Type 0) (next : S → C → S) (first : S) where
  shows_newest : (of : Bytes) (newest : Option (Newest C)) (image : List (ℕ × List ℕ)) → NewestStands shows next first of newest
      → IsLeft (newest_names newest) (numbers image) → AllByRecursion (λ (file : ℕ × List ℕ). of file.0 file.1) image → ShowsNewest shows next first newest image
  shows_newest of None [] stands left each = tt
  shows_newest of None (file ∷ image) stands left each = absurd left
  shows_newest of (Some newest) [] stands left each = left.0
  shows_newest of (Some newest) (file ∷ []) stands left each =
      ⊎_elim (λ here. (here.0, stands file.1 (subst (λ (n : ℕ). of n file.1) here.0 each.0))) (λ later. absurd later.1) left
  shows_newest of (Some newest) (file ∷ other ∷ image) stands left each = ⊎_elim (λ here. absurd here.1) (λ later. absurd later.1) left

  pub shows_files : (of : Bytes) (files : List (File C)) (newest : Option (Newest C)) (image : List (ℕ × List ℕ)) → FilesStand shows next first of files → NewestStands shows next first of newest
      → IsLeft (names_of files ++ newest_names newest) (numbers image) → AllByRecursion (λ (file : ℕ × List ℕ). of file.0 file.1) image → ShowsFiles shows next first files newest image
  shows_files of [] newest image stand stands left each = shows_newest of newest image stands left each
  shows_files of (Gone commands ∷ files) newest image stand stands left each = shows_files of files newest image stand stands left each
  shows_files of (There is_thrown name content ∷ files) newest [] stand stands left each = (left.0, shows_files of files newest [] stand.1 stands left.1 each)
  shows_files of (There is_thrown name content ∷ files) newest (file ∷ image) stand stands left each =
      ⊎_elim
      (λ here. inl (here.0, stand.0 file.1 (subst (λ (n : ℕ). of n file.1) here.0 each.0), shows_files of files newest image stand.1 stands here.1 each.1))
      (λ later. inr (later.0, shows_files of files newest (file ∷ image) stand.1 stands later.1 each))
      left

  -- the files before a number stand if their bytes are those of before
  pub files_same : (of other : Bytes) (n : ℕ) (files : List (File C)) → FilesStand shows next first of files → AreBelow n (names_of files)
      → ((m : ℕ) (b : List ℕ) → m < n → other m b → of m b) → FilesStand shows next first other files
  files_same of other n [] stand below same = tt
  files_same of other n (Gone commands ∷ files) stand below same = files_same of other n files stand below same
  files_same of other n (There is_thrown name content ∷ files) stand below same =
      ((λ b is. stand.0 b (same name.number b below.0 is)), files_same of other n files stand.1 below.1 same)

  pub files_all : (of other : Bytes) (files : List (File C)) → FilesStand shows next first of files → ((m : ℕ) (b : List ℕ) → other m b → of m b) → FilesStand shows next first other files
  files_all of other [] stand same = tt
  files_all of other (Gone commands ∷ files) stand same = files_all of other files stand same
  files_all of other (There is_thrown name content ∷ files) stand same = ((λ b is. stand.0 b (same name.number b is)), files_all of other files stand.1 same)

  pub thrown_stand : (of : Bytes) (n : ℕ) (files : List (File C)) → FilesStand shows next first of files → FilesStand shows next first of (thrown n files)
  thrown_stand of n [] stand = tt
  thrown_stand of n (Gone commands ∷ files) stand = thrown_stand of n files stand
  thrown_stand of n (There is_thrown file content ∷ files) stand =
      elim (file.number == n) as (λ b. FilesStand shows next first of (if b then There true (name file.number Goes) content ∷ files else There is_thrown file content ∷ thrown n files)) [
        | true ↦ stand
        | false ↦ (stand.0, thrown_stand of n files stand.1)
      ]
