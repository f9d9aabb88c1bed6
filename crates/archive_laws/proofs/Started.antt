-- The last file of an account of ours may be written.
use Rattle.std.specs.Prelude.{◌≡◌, ℕ, false, IfSome, Option, None, Some, List, [], ◌∷◌, ◌++◌, refl}
use Rattle.std.proofs.Common.{inl, inr, ap, sym, ◌∙◌, subst}
use Rattle.archive_folder.specs.declared.names.Fate.{Fate}
use Rattle.archive_folder.specs.declared.names.Fate.TheVariants.{Stays}
use Rattle.archive_folder.specs.declared.names.Name.{Name}
use Rattle.archive_folder.specs.Names.{listed, listed_one}
use Rattle.archive_history.specs.Archive.{Archive, File, Foreign, Gone, Known, Newest, There, Whole, names, names_of, newest_names}
use Rattle.archive_history.specs.History.{MayResume}
use Rattle.archive_history.specs.Starting.{AllStay, IsForeign, IsNewest, LastFile, MayBeNewest}
use Rattle.ogg_command.specs.declared.command.Command.{Command}
use Rattle.archive_record.specs.Reaching.{MayBeWritten}
use Rattle.archive_laws.specs.Starting.{AllOurs, AreOurs, IsOurs}

last_stays : (front : List Name) (last : Name) → AllStay (front ++ last ∷ []) → last.fate ≡ Stays
last_stays [] last all = all.0
last_stays (first ∷ front) last all = last_stays front last all.1

abbrev FileIsOurs : File Command → Type 0
FileIsOurs (There is_thrown name content) = IsOurs content
FileIsOurs (Gone commands) = Unit {0}

ours_at : (files : List (File Command)) (file : File Command) (after : List (File Command)) → AllOurs (files ++ file ∷ after) → FileIsOurs file
ours_at [] (There is_thrown name content) after all = all.0
ours_at [] (Gone commands) after all = tt
ours_at (There is_thrown name content ∷ files) file after all = ours_at files file after all.1
ours_at (Gone commands ∷ files) file after all = ours_at files file after all

resumed_closed : (file : File Command) (newest : Newest Command) → MayResume file newest → FileIsOurs file → newest.world.is_open ≡ false
resumed_closed (There is_thrown name (Whole bytes commands)) newest may ours = ap (λ w. w.is_open) may.1
resumed_closed (There is_thrown name (Known world)) newest may ours = ap (λ w. w.is_open) may.1 ∙ ours
resumed_closed (There is_thrown name (Foreign bytes)) newest may ours = absurd may
resumed_closed (Gone commands) newest may ours = absurd may

some_of : (found : Option (Newest Command)) (file : Newest Command) → found ≡ Some file → IfSome found (λ (one : Newest Command). one.world.is_open ≡ false)
    → file.world.is_open ≡ false
some_of found file is all = subst (λ (one : Option (Newest Command)). IfSome one (λ (file : Newest Command). file.world.is_open ≡ false)) is all

pub may_be_written : (a : Archive Command) (n : ℕ) → AllStay (names a) → AreOurs a → LastFile a n → MayBeWritten a n
may_be_written a n stay ours (IsNewest file is number) = (
  a,
  file,
  inl refl,
  is,
  number,
  last_stays (names_of a.ended) file.name (subst (λ (newest : Option (Newest Command)). AllStay (names_of a.ended ++ newest_names newest)) is stay),
  some_of a.newest file is ours.newest,
)
may_be_written a n stay ours (MayBeNewest b is number) = (
  b,
  is.newest,
  inr is,
  ap (λ (x : Archive Command). x.newest) is.is,
  number,
  is.stays,
  resumed_closed is.file is.newest is.may (ours_at is.files is.file is.gone (subst AllOurs is.ended ours.files)),
)
may_be_written a n stay ours (IsForeign foreign) =
    absurd (ours_at foreign.files (There foreign.is_thrown foreign.name (Foreign foreign.bytes)) foreign.gone (subst AllOurs foreign.is ours.files))

listed_last : (front : List Name) (last : Name) → last.fate ≡ Stays → listed (front ++ last ∷ []) ≡ [] → ⊥
listed_last [] last stays none = never last.number (sym (ap (λ (fate : Fate). listed_one last.number fate ++ []) stays) ∙ none)
  where
    never : (n : ℕ) → n ∷ [] ≡ [] → ⊥
    never n same = cc
listed_last (first ∷ front) last stays none = listed_last front last stays (back (listed_one first.number first.fate) (listed (front ++ last ∷ [])) none)
  where
    back : (xs ys : List ℕ) → xs ++ ys ≡ [] → ys ≡ []
    back [] ys is = is
    back (x ∷ xs) ys is = absurd cc

pub none_written : (a : Archive Command) → AllStay (names a) → listed (names a) ≡ [] → a.newest ≡ None
none_written a stay none = by a.newest stay none
  where
    by : (newest : Option (Newest Command)) → AllStay (names_of a.ended ++ newest_names newest) → listed (names_of a.ended ++ newest_names newest) ≡ [] → newest ≡ None
    by None stay none = refl
    by (Some file) stay none = absurd (listed_last (names_of a.ended) file.name (last_stays (names_of a.ended) file.name stay) none)
