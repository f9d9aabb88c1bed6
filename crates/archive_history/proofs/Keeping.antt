-- If nothing is thrown away, every file is kept.
use Rattle.std.specs.Prelude.{◌≡◌, ◌⊎◌, ℕ, Bool, true, false, List, [], ◌∷◌, ◌++◌, Option, None, Some, refl, ⊤}
use Rattle.std.proofs.Common.{⊎_elim, sym, ◌∙◌, ap, subst}
use Rattle.archive_folder.specs.declared.names.Fate.{Fate}
use Rattle.archive_folder.specs.declared.names.Fate.TheVariants.{Stays}
use Rattle.archive_folder.specs.Names.{MayLack}
use Rattle.archive_history.specs.Archive.{File, There, Gone, commands_in, Newest, ended_file, aside_file, FilesResolve, commands_of, kept_of}
use Rattle.archive_history.specs.Accounted.{AreSafe}

-- no file was thrown away, and what is gone had no commands
abbrev pub AreKept : {C : Type 0} → List (File C) → Type 0
AreKept [] = ⊤
AreKept (There is_thrown name content ∷ files) = (is_thrown ≡ false) × AreKept files
AreKept (Gone commands ∷ files) = (commands ≡ []) × AreKept files

pub kept_is_all : {C : Type 0} (files : List (File C)) → AreKept files → kept_of files ≡ commands_of files
kept_is_all [] kept = refl
kept_is_all (There true name content ∷ files) kept = absurd (never kept.0)
  where
    never : true ≡ false → ⊥
    never is = cc
kept_is_all {C} (There false name content ∷ files) kept = ap (λ (l : List C). commands_in content ++ l) (kept_is_all files kept.1)
kept_is_all {C} (Gone commands ∷ files) kept = kept_is_all files kept.1 ∙ ap (λ (front : List C). front ++ commands_of files) (sym kept.0)

-- a file that isn't there had no commands
none_lost : {C : Type 0} (is_thrown : Bool) (fate : Fate) (commands : List C) → MayLack fate → (is_thrown ≡ true) ⊎ ((fate ≡ Stays) ⊎ (commands ≡ [])) → is_thrown ≡ false → commands ≡ []
none_lost is_thrown fate commands may safe kept = ⊎_elim (λ is. absurd (never is_thrown is kept)) (λ other. ⊎_elim (λ is. absurd (stays fate may is)) (λ none. none) other) safe
  where
    never : (b : Bool) → b ≡ true → b ≡ false → ⊥
    never b is_true is_false = cc

    stays : (fate : Fate) → MayLack fate → fate ≡ Stays → ⊥
    stays fate may is = subst MayLack is may

pub kept_resolved : {C : Type 0} (files others : List (File C)) → FilesResolve files others → AreSafe files → AreKept files → AreKept others
kept_resolved [] [] are safe kept = tt
kept_resolved [] (There is_thrown name content ∷ others) are safe kept = absurd are
kept_resolved [] (Gone commands ∷ others) are safe kept = absurd are
kept_resolved (There is_thrown name content ∷ files) [] are safe kept = absurd are
kept_resolved (There is_thrown name content ∷ files) (There was_thrown other content' ∷ others) are safe kept = (are.0 ∙ kept.0, kept_resolved files others are.4 safe.1 kept.1)
kept_resolved (There is_thrown name content ∷ files) (Gone commands' ∷ others) are safe kept =
    (are.1 ∙ none_lost is_thrown name.fate (commands_in content) are.0 safe.0 kept.0, kept_resolved files others are.2 safe.1 kept.1)
kept_resolved (Gone commands ∷ files) [] are safe kept = absurd are
kept_resolved (Gone commands ∷ files) (There was_thrown other content' ∷ others) are safe kept = absurd are
kept_resolved (Gone commands ∷ files) (Gone commands' ∷ others) are safe kept = (are.0 ∙ kept.0, kept_resolved files others are.1 safe kept.1)

pub kept_ended : {C : Type 0} (files : List (File C)) (newest : Option (Newest C)) (bytes : List ℕ) → AreKept files → AreKept (files ++ ended_file newest bytes)
kept_ended [] None bytes kept = tt
kept_ended [] (Some file) bytes kept = (refl, tt)
kept_ended (There is_thrown name content ∷ files) newest bytes kept = (kept.0, kept_ended files newest bytes kept.1)
kept_ended (Gone commands ∷ files) newest bytes kept = (kept.0, kept_ended files newest bytes kept.1)

pub kept_aside : {C : Type 0} (files : List (File C)) (newest : Option (Newest C)) → AreKept files → AreKept (files ++ aside_file newest)
kept_aside [] None kept = tt
kept_aside [] (Some file) kept = (refl, tt)
kept_aside (There is_thrown name content ∷ files) newest kept = (kept.0, kept_aside files newest kept.1)
kept_aside (Gone commands ∷ files) newest kept = (kept.0, kept_aside files newest kept.1)

-- the files in front
pub kept_front : {C : Type 0} (files more : List (File C)) → AreKept (files ++ more) → AreKept files
kept_front [] more kept = tt
kept_front (There is_thrown name content ∷ files) more kept = (kept.0, kept_front files more kept.1)
kept_front (Gone commands ∷ files) more kept = (kept.0, kept_front files more kept.1)
