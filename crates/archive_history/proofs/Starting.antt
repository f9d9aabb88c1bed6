-- The file with the highest number is the newest, or may be.
use Rattle.std.specs.Prelude.{◌≡◌, ◌⊎◌, ℕ, ◌<◌, List, [], ◌∷◌, ◌++◌, Option, None, Some, refl}
use Rattle.std.proofs.Common.{inl, inr, ⊎_elim, sym, ◌∙◌, ap, subst, arith, append_assoc}
use Rattle.std.proofs.lemmas.List.{append-nil}
use Rattle.archive_folder.specs.declared.names.Name.{Name}
use Rattle.archive_folder.specs.declared.names.Fate.{Fate}
use Rattle.archive_folder.specs.declared.names.Fate.TheVariants.{Stays}
use Rattle.archive_folder.specs.Names.{listed, listed_one, AreRising, AreAbove, AreBelow}
use Rattle.history.specs.World.{World, Step}
use Rattle.archive_history.specs.Archive.{File, There, Gone, Content, Whole, Known, Foreign, Newest, Archive, archive, names_of, newest_names, names, commands_of, world_of, set_aside, aside_file, ended_with, ended_file, recorded}
use Rattle.archive_history.specs.History.{MayResume, Resumes}
use Rattle.archive_history.specs.Starting.{AllStay, EndsEmpty, LastFile, IsNewest, MayBeNewest, IsForeign}
use Rattle.archive_history.proofs.Resolving.{same_head}

-- the last of a list
last_or : ℕ → List ℕ → ℕ
last_or n [] = n
last_or n (first ∷ numbers) = last_or first numbers

last_is : (n m : ℕ) (numbers : List ℕ) → last_or n (numbers ++ m ∷ []) ≡ m
unfolding last_or
last_is n m [] = refl
last_is n m (first ∷ numbers) = last_is first m numbers

same_last : (m n : ℕ) (front other : List ℕ) → front ++ m ∷ [] ≡ other ++ n ∷ [] → m ≡ n
same_last m n front other same = sym (last_is 0 m front) ∙ ap (last_or 0) same ∙ last_is 0 n other

listed-append : (front more : List Name) → listed (front ++ more) ≡ listed front ++ listed more
listed-append [] more = refl
listed-append (first ∷ front) more = ap (λ (l : List ℕ). listed_one first.number first.fate ++ l) (listed-append front more) ∙ sym (append_assoc (listed_one first.number first.fate) (listed front) (listed more))

stays_last : (front : List Name) (last : Name) → AllStay (front ++ last ∷ []) → last.fate ≡ Stays
stays_last [] last stay = stay.0
stays_last (first ∷ front) last stay = stays_last front last stay.1

listed_last : (front : List Name) (last : Name) → last.fate ≡ Stays → listed (front ++ last ∷ []) ≡ listed front ++ last.number ∷ []
listed_last front last stays = listed-append front (last ∷ []) ∙ ap (λ (fate : Fate). listed front ++ (listed_one last.number fate ++ [])) stays

above_last : (m : ℕ) (front : List Name) (last : Name) → AreAbove m (front ++ last ∷ []) → (m < last.number) × AreBelow last.number front
above_last m [] last above = (above.0, tt)
above_last m (first ∷ front) last above =
    let rest = above_last first.number front last above.1 in
    (omega (arith, above.0, rest.0), (rest.0, rest.1))

below_last : (front : List Name) (last : Name) → AreRising (front ++ last ∷ []) → AreBelow last.number front
below_last [] last rising = tt
below_last (first ∷ front) last rising = above_last first.number front last rising

names-append : {C : Type 0} (files more : List (File C)) → names_of (files ++ more) ≡ names_of files ++ names_of more
names-append [] more = refl
names-append (There is_thrown first content ∷ files) more = ap (λ (l : List Name). first ∷ l) (names-append files more)
names-append (Gone commands ∷ files) more = names-append files more

-- the last file that is there
record Split {C : Type 0} (ended : List (File C)) : Type 0 where
  files : List (File C)
  file : File C
  gone : List (File C)
  last : Name
  is : ended ≡ files ++ file ∷ gone
  no_names : names_of gone ≡ []
  named : (rest : List (File C)) → names_of (file ∷ rest) ≡ last ∷ names_of rest

one_more : {C : Type 0} (first : File C) (ended : List (File C)) → Split ended → Split (first ∷ ended)
one_more {C} first ended s = record {
  files = first ∷ s.files;
  file = s.file;
  gone = s.gone;
  last = s.last;
  is = ap (λ (l : List (File C)). first ∷ l) s.is;
  no_names = s.no_names;
  named = s.named;
}

split : {C : Type 0} (ended : List (File C)) → (names_of ended ≡ []) ⊎ Split ended
split [] = inl refl
split (Gone commands ∷ files) = ⊎_elim (λ none. inl none) (λ s. inr (one_more (Gone commands) files s)) (split files)
split (There is_thrown first content ∷ files) = inr (⊎_elim
    (λ none. record { files = []; file = There is_thrown first content; gone = files; last = first; is = refl; no_names = none; named = λ rest. refl })
    (λ s. one_more (There is_thrown first content) files s)
    (split files))

gone_empty : {C : Type 0} (files : List (File C)) (file : File C) (gone : List (File C)) → EndsEmpty (files ++ file ∷ gone) → names_of gone ≡ [] → commands_of gone ≡ []
gone_empty [] file gone ends none = ends.0 none
gone_empty (first ∷ files) file gone ends none = gone_empty files file gone ends.1 none

no_last : (front : List ℕ) (n : ℕ) → [] ≡ front ++ n ∷ [] → ⊥
no_last [] n same = cc
no_last (first ∷ front) n same = cc

module _ {C : Type 0} (ended : List (File C)) (n : ℕ) (s : Split ended) (number : s.last.number ≡ n) (stays : s.last.fate ≡ Stays)
    (below : AreBelow s.last.number (names_of s.files)) (nothing : commands_of s.gone ≡ []) where
  resume : (world : World C) → MayResume s.file (record { name = s.last; world = world }) → LastFile (archive ended None) n
  resume world may =
      let newest : Newest C = record { name = s.last; world = world } in
      MayBeNewest (archive s.files (Some newest)) (record {
        files = s.files;
        file = s.file;
        gone = s.gone;
        newest = newest;
        ended = s.is;
        none = refl;
        may = may;
        no_names = s.no_names;
        no_commands = nothing;
        above = below;
        stays = stays;
        is = refl;
      }) number

  of_file : (file : File C) → s.file ≡ file → LastFile (archive ended None) n
  of_file (There is_thrown first content) same = of_content content same
    where
      named : s.last ≡ first
      named = sym (same_head first s.last [] [] (subst (λ (file : File C). names_of (file ∷ []) ≡ s.last ∷ []) same (s.named [])))

      of_content : (content : Content C) → s.file ≡ There is_thrown first content → LastFile (archive ended None) n
      of_content (Whole bytes commands) same =
          resume (world_of commands) (subst (λ (file : File C). MayResume file (record { name = s.last; world = world_of commands })) (sym same) (named, refl))
      of_content (Known world) same = resume world (subst (λ (file : File C). MayResume file (record { name = s.last; world = world })) (sym same) (named, refl))
      of_content (Foreign bytes) same = IsForeign (record {
        files = s.files;
        name = first;
        is_thrown = is_thrown;
        bytes = bytes;
        gone = s.gone;
        is = s.is ∙ ap (λ (file : File C). s.files ++ file ∷ s.gone) same;
        none = refl;
        no_names = s.no_names;
        number_is = ap (λ (m : Name). m.number) (sym named) ∙ number;
      })
  of_file (Gone commands) same = absurd (never (subst (λ (file : File C). names_of (file ∷ []) ≡ s.last ∷ []) same (s.named [])))
    where
      never : [] ≡ s.last ∷ [] → ⊥
      never is = cc

last_ended : {C : Type 0} (ended : List (File C)) (n : ℕ) (front : List ℕ) → AreRising (names_of ended) → AllStay (names_of ended) → EndsEmpty ended → listed (names_of ended) ≡ front ++ n ∷ []
    → LastFile (archive ended None) n
last_ended {C} ended n front rising stay ends same = ⊎_elim
    (λ none. absurd (no_last front n (sym (ap listed none) ∙ same)))
    (λ s.
    let split_names : names_of ended ≡ names_of s.files ++ s.last ∷ [] =
    ap names_of s.is ∙ names-append s.files (s.file ∷ s.gone) ∙ ap (λ (l : List Name). names_of s.files ++ l) (s.named s.gone) ∙ ap (λ (l : List Name). names_of s.files ++ s.last ∷ l) s.no_names in
    let stays : s.last.fate ≡ Stays = stays_last (names_of s.files) s.last (subst AllStay split_names stay) in
    let number : s.last.number ≡ n = same_last s.last.number n (listed (names_of s.files)) front (sym (listed_last (names_of s.files) s.last stays) ∙ sym (ap listed split_names) ∙ same) in
    of_file ended n s number stays (below_last (names_of s.files) s.last (subst AreRising split_names rising)) (gone_empty s.files s.file s.gone (subst EndsEmpty s.is ends) s.no_names) s.file refl)
    (split ended)

pub last_of : {C : Type 0} (ended : List (File C)) (newest : Option (Newest C)) (n : ℕ) (front : List ℕ) → AreRising (names (archive ended newest)) → AllStay (names (archive ended newest)) → (newest ≡ None → EndsEmpty ended)
    → listed (names (archive ended newest)) ≡ front ++ n ∷ [] → LastFile (archive ended newest) n
last_of ended None n front rising stay ends same =
    let whole : names_of ended ++ [] ≡ names_of ended = append-nil (names_of ended) in
    last_ended ended n front (subst AreRising whole rising) (subst AllStay whole stay) (ends refl) (sym (ap listed whole) ∙ same)
last_of ended (Some file) n front rising stay ends same =
    let stays : file.name.fate ≡ Stays = stays_last (names_of ended) file.name stay in
    IsNewest file refl (same_last file.name.number n (listed (names_of ended)) front (sym (listed_last (names_of ended) file.name stays) ∙ same))

pub last_file : {C : Type 0} (a : Archive C) (n : ℕ) (front : List ℕ) → AreRising (names a) → AllStay (names a) → EndsEmpty a.ended → listed (names a) ≡ front ++ n ∷ [] → LastFile a n
last_file a n front rising stay ends same = last_of a.ended a.newest n front rising stay (λ none. ends) same

-- what changes no name
pub aside_names : {C : Type 0} (a : Archive C) → names (set_aside a) ≡ names a
aside_names a = one a.ended a.newest
  where
    one : {C : Type 0} (ended : List (File C)) (newest : Option (Newest C)) → names (set_aside (archive ended newest)) ≡ names (archive ended newest)
    one ended None = ap (λ (l : List Name). l ++ []) (names-append ended [] ∙ append-nil (names_of ended))
    one ended (Some file) = append-nil (names_of (ended ++ aside_file (Some file))) ∙ names-append ended (aside_file (Some file))

pub ended_names : {C : Type 0} (a : Archive C) (bytes : List ℕ) → names (ended_with a bytes) ≡ names a
ended_names a bytes = one a.ended a.newest
  where
    one : {C : Type 0} (ended : List (File C)) (newest : Option (Newest C)) → names (ended_with (archive ended newest) bytes) ≡ names (archive ended newest)
    one ended None = ap (λ (l : List Name). l ++ []) (names-append ended [] ∙ append-nil (names_of ended))
    one ended (Some file) = append-nil (names_of (ended ++ ended_file (Some file) bytes)) ∙ names-append ended (ended_file (Some file) bytes)

pub resumed_names : {C : Type 0} (a b : Archive C) → Resumes a b → names b ≡ names a
resumed_names {C} a b is =
    let last : names_of (is.file ∷ is.gone) ≡ is.newest.name ∷ [] = one is.file is.newest is.may ∙ ap (λ (l : List Name). is.newest.name ∷ l) is.no_names in
    let was : names a ≡ names_of a.ended = ap (λ (newest : Option (Newest C)). names_of a.ended ++ newest_names newest) is.none ∙ append-nil (names_of a.ended) in
    let split_names : names_of a.ended ≡ names_of is.files ++ is.newest.name ∷ [] = ap names_of is.ended ∙ names-append is.files (is.file ∷ is.gone) ∙ ap (λ (l : List Name). names_of is.files ++ l) last in
    ap names is.is ∙ sym split_names ∙ sym was
  where
    one : (file : File C) (newest : Newest C) → MayResume file newest → names_of (file ∷ is.gone) ≡ newest.name ∷ names_of is.gone
    one (There is_thrown first (Whole bytes commands)) newest may = ap (λ (m : Name). m ∷ names_of is.gone) (sym may.0)
    one (There is_thrown first (Known world)) newest may = ap (λ (m : Name). m ∷ names_of is.gone) (sym may.0)
    one (There is_thrown first (Foreign bytes)) newest may = absurd may
    one (Gone commands) newest may = absurd may

pub recorded_names : {C : Type 0} (a : Archive C) (step : Step C) → names (recorded a step) ≡ names a
recorded_names {C} a step = one a.ended a.newest
  where
    one : (ended : List (File C)) (newest : Option (Newest C)) → names (recorded (archive ended newest) step) ≡ names (archive ended newest)
    one ended None = refl
    one ended (Some file) = refl
