-- What stays known of a folder after each call.
use Rattle.std.specs.Prelude.{◌≡◌, ◌≢◌, ◌⊎◌, ◌+◌, ◌<◌, ◌^◌, SomeIff, Contains, Result, Ok, Err, OnOk, OnErr, length, ℕ, List, [], ◌∷◌, ◌++◌, Option, None, Some, refl}
use Rattle.std.proofs.Common.{inl, inr, ⊎_elim, arith, sym, ap, ◌∙◌, subst, get_or}
use Rattle.disk_model.specs.declared.disk.Disk.{Ghosts as DiskModel}
use Rattle.archive_folder.specs.declared.names.FileName.{FileName}
use Rattle.archive_folder.specs.declared.names.Name.{Name}
use Rattle.archive_folder.specs.declared.names.Fate.{Fate}
use Rattle.archive_folder.specs.declared.names.Fate.TheVariants.{Stays, Comes, Goes}
use Rattle.archive_folder.specs.Names.{Place, Out, Kept, IsKept, name, numbers_of, listed, made, listed_one, with_fate, removed, synced, AreBelow}
use Rattle.archive_folder.specs.Clock.{MayHaveMade, MayHaveRemoved}
use Rattle.archive_record.specs.Files.{Has, highest, NoneOrBelow, IsKnown, AllKept, without}
use Rattle.archive_history.specs.History.{MayHaveBegun}
use Rattle.archive_record.proofs.Numbers.{contains, has_index, has_one, either, has_left, has_right, has_either, below_next, below_later, below_synced, below_fate, below_listed, listed_below, listed_synced, listed_more, has_beside, had_beside, has_without, numbers_append}

-- a number or none
pub one_or_none : (found : Option ℕ) (P : Type 0) (n : ℕ) → SomeIff found P n → (found ≡ None) ⊎ (found ≡ Some n)
one_or_none None P n is = inl refl
one_or_none (Some m) P n is = inr (ap Some is.1)

pub no_number : (n : ℕ) → None ≢ Some n
no_number n = λ same. cc

is_kept : {D : Type 0} (place : Place D) (disk : D) → place ≡ Kept disk → IsKept place
is_kept place disk same = subst IsKept (sym same) tt

pub none_is_other : (out : Option ℕ) (n : ℕ) → out ≡ None → out ≢ Some n
none_is_other out n none = λ same. no_number n (sym none ∙ same)

-- a file that may have been begun is with the folder
pub may_be_kept : {D : Type 0} (model : DiskModel D) (n : ℕ) (old new : List Name) (file : ℕ → Place D) → MayHaveBegun model n old new file
    → (new ≡ old) ⊎ (MayHaveMade n old new × IsKept (file n))
may_be_kept model n old new file may = ⊎_elim (λ same. inl same) (λ made. inr (made.0, is_kept (file n) made.1.0 made.1.1)) may

may_be_removed : {T E : Type 0} (result : Result T E) (n : ℕ) (names new : List Name) (honest : Type 0)
    → OnOk result (honest → new ≡ removed n names) → OnErr result (honest → MayHaveRemoved n names new) → honest → MayHaveRemoved n names new
may_be_removed (Ok value) n names new honest on_ok on_err is = inr (inr (on_ok is))
may_be_removed (Err fault) n names new honest on_ok on_err is = on_err is

module _ {D : Type 0} where
  -- it was synced and listed
  pub known_listed : (names : List Name) (file : ℕ → Place D) (files : List ℕ) (next : Option ℕ)
      → files ≡ listed names → NoneOrBelow next names → AllKept names file → IsKnown names file files next None
  known_listed names file files next same below kept = record {
    below = below;
    there = λ n has. subst (λ (l : List ℕ). Has l n) same has;
    kept = λ n has other. kept n has;
    held = λ n is. absurd (no_number n is);
  }

  -- the same, with the next number as it is made
  pub known_at_first : (names new : List Name) (file now : ℕ → Place D) (files : List ℕ) (next : Option ℕ)
      → new ≡ synced names → files ≡ listed new → now ≡ file
      → SomeIff next (highest files + 1 < 2 ^ 64) (highest files + 1)
      → AllKept names file → IsKnown new now files next None
  known_at_first names new file now files next after same same_files is kept =
      known_listed new now files next same (subst (NoneOrBelow next) (sym after) (below next is)) (λ n has. subst (λ (f : ℕ → Place D). IsKept (f n)) (sym same_files) (kept n (subst (λ (l : List ℕ). Has l n) lists has)))
    where
      lists : listed new ≡ listed names
      lists = ap listed after ∙ listed_synced names

      below : (next : Option ℕ) → SomeIff next (highest files + 1 < 2 ^ 64) (highest files + 1) → NoneOrBelow next (synced names)
      below None is = tt
      below (Some n) is = let same_highest : highest files ≡ highest (listed names) = ap highest (same ∙ lists) in below_listed n names (omega (arith, same_highest, is.1))

  -- names that give the same list
  pub known_same : (old new : List Name) (file : ℕ → Place D) (files : List ℕ) (next out : Option ℕ)
      → listed new ≡ listed old → NoneOrBelow next new → IsKnown old file files next out → IsKnown new file files next out
  known_same old new file files next out same below known = record {
    below = below;
    there = λ n has. subst (λ (l : List ℕ). Has l n) (sym same) (known.there n has);
    kept = λ n has other. known.kept n (subst (λ (l : List ℕ). Has l n) same has) other;
    held = known.held;
  }

  -- a file is handed out
  pub known_out : (names : List Name) (before now : ℕ → Place D) (files : List ℕ) (next : Option ℕ) (n : ℕ)
      → IsKnown names before files next None
      → now n ≡ Out → ((m : ℕ) → m ≢ n → now m ≡ before m) → IsKnown names now files next (Some n)
  known_out names before now files next n known out others = record {
    below = known.below;
    there = known.there;
    kept = λ m has other. subst IsKept (sym (others m (λ same. other (ap Some (sym same))))) (known.kept m has (no_number m));
    held = λ m is. let same : n ≡ m = cc in subst (λ (k : ℕ). now k ≡ Out) same out;
  }

  -- it comes back
  pub known_back : (names : List Name) (before now : ℕ → Place D) (files : List ℕ) (next : Option ℕ) (n : ℕ) (disk : D)
      → IsKnown names before files next (Some n)
      → now n ≡ Kept disk → ((m : ℕ) → m ≢ n → now m ≡ before m) → IsKnown names now files next None
  known_back names before now files next n disk known back others = record {
    below = known.below;
    there = known.there;
    kept = λ m has other. by_number m has;
    held = λ m is. absurd (no_number m is);
  }
    where
      by_number : (m : ℕ) → Has (listed names) m → IsKept (now m)
      by_number m has = ⊎_elim
          (λ same. is_kept (now m) disk (subst (λ (k : ℕ). now k ≡ Kept disk) (sym same) back))
          (λ other. subst IsKept (sym (others m other)) (known.kept m has (λ is. let own : n ≡ m = cc in other (sym own))))
          (either m n)

  -- one is made, synced and handed out
  pub known_made : (names new : List Name) (before now : ℕ → Place D) (files after : List ℕ) (next : Option ℕ) (n : ℕ)
      → IsKnown names before files (Some n) None
      → new ≡ synced (made n names) → after ≡ files ++ n ∷ [] → (next ≡ None) ⊎ (next ≡ Some (n + 1))
      → now n ≡ Out → ((m : ℕ) → m ≢ n → now m ≡ before m) → IsKnown new now after next (Some n)
  known_made names new before now files after next n known made_now after_is next_is out others =
      subst (λ (l : List Name). IsKnown l now after next (Some n)) (sym made_now)
      (subst (λ (l : List ℕ). IsKnown (synced (made n names)) now l next (Some n)) (sym after_is) known_now)
    where
      lists : listed (synced (made n names)) ≡ listed names ++ n ∷ []
      lists = listed_synced (made n names) ∙ listed_more names n Comes

      below : (next : Option ℕ) → (next ≡ None) ⊎ (next ≡ Some (n + 1)) → NoneOrBelow next (synced (made n names))
      below next is = ⊎_elim
          (λ none. subst (λ (o : Option ℕ). NoneOrBelow o (synced (made n names))) (sym none) tt)
          (λ some. subst (λ (o : Option ℕ). NoneOrBelow o (synced (made n names))) (sym some)
          (below_synced (n + 1) (made n names) (below_next n Comes names known.below)))
          is

      there : (m : ℕ) → Has files m ⊎ Has (n ∷ []) m → Has (listed names ++ n ∷ []) m
      there m has = ⊎_elim (λ old. has_left (listed names) (n ∷ []) m (known.there m old)) (λ own. has_right (listed names) (n ∷ []) m own) has

      kept : (m : ℕ) → Some n ≢ Some m → Has (listed names) m ⊎ Has (n ∷ []) m → IsKept (now m)
      kept m other has = ⊎_elim
          (λ old. subst IsKept (sym (others m (λ same. other (ap Some (sym same))))) (known.kept m old (no_number m)))
          (λ own. ⊎_elim (λ same. absurd (other (ap Some same))) (λ none. absurd none) own)
          has

      known_now : IsKnown (synced (made n names)) now (files ++ n ∷ []) next (Some n)
      known_now = record {
        below = below next next_is;
        there = λ m has. subst (λ (l : List ℕ). Has l m) (sym lists) (there m (has_either files (n ∷ []) m has));
        kept = λ m has other. kept m other (has_either (listed names) (n ∷ []) m (subst (λ (l : List ℕ). Has l m) lists has));
        held = λ m is. let same : n ≡ m = cc in subst (λ (k : ℕ). now k ≡ Out) same out;
      }

  -- a making failed
  pub known_unmade : (names new : List Name) (before now : ℕ → Place D) (files : List ℕ) (next : Option ℕ) (n : ℕ)
      → IsKnown names before files (Some n) None
      → (new ≡ names) ⊎ (MayHaveMade n names new × IsKept (now n)) → (next ≡ None) ⊎ (next ≡ Some (n + 1))
      → ((m : ℕ) → m ≢ n → now m ≡ before m)
      → IsKnown new now files next None
  known_unmade names new before now files next n known made_may next_is others =
      ⊎_elim (λ same. rw same unmade) (λ may. ⊎_elim (λ comes. rw comes (may_be_there Comes may.1)) (λ goes. rw goes (may_be_there Goes may.1)) may.0) made_may
    where
      below : (some : List Name) → AreBelow (n + 1) some → NoneOrBelow next some
      below some is = ⊎_elim
          (λ none. subst (λ (o : Option ℕ). NoneOrBelow o some) (sym none) tt)
          (λ next_one. subst (λ (o : Option ℕ). NoneOrBelow o some) (sym next_one) is)
          next_is

      old : (m : ℕ) → m ≢ n → Has (listed names) m → IsKept (now m)
      old m other has = subst IsKept (sym (others m other)) (known.kept m has (no_number m))

      too_great : (m : ℕ) → m ≡ n → Has (listed names) m → ⊥
      too_great m same has = let less : m < n = listed_below n m names known.below has in omega (arith, less, same)

      unmade : IsKnown names now files next None
      unmade = record {
        below = below names (below_later n names known.below);
        there = known.there;
        kept = λ m has other. ⊎_elim (λ same. absurd (too_great m same has)) (λ another. old m another has) (either m n);
        held = λ m is. absurd (no_number m is);
      }

      may_be_there : (fate : Fate) → IsKept (now n) → IsKnown (names ++ name n fate ∷ []) now files next None
      may_be_there fate new_kept = record {
        below = below (names ++ name n fate ∷ []) (below_next n fate names known.below);
        there = λ m has. subst (λ (l : List ℕ). Has l m) (sym (listed_more names n fate)) (has_left (listed names) (listed_one n fate) m (known.there m has));
        kept = λ m has other. kept m (has_either (listed names) (listed_one n fate) m (subst (λ (l : List ℕ). Has l m) (listed_more names n fate) has)) (either m n);
        held = λ m is. absurd (no_number m is);
      }
        where
          alone : (m : ℕ) (own : Fate) → m ≢ n → Has (listed_one n own) m → ⊥
          alone m Stays another has = ⊎_elim (λ same. another (sym same)) (λ none. none) has
          alone m Comes another has = ⊎_elim (λ same. another (sym same)) (λ none. none) has
          alone m Goes another has = has

          kept : (m : ℕ) → Has (listed names) m ⊎ Has (listed_one n fate) m → (m ≡ n) ⊎ (m ≢ n) → IsKept (now m)
          kept m has number = ⊎_elim
              (λ same. subst (λ (k : ℕ). IsKept (now k)) (sym same) new_kept)
              (λ another. ⊎_elim (λ was. old m another was) (λ own. absurd (alone m fate another own)) has)
              number

  -- a name has another fate, and its number is forgotten
  pub known_removed : (names new : List Name) (file : ℕ → Place D) (files : List FileName) (next out : Option ℕ) (n : ℕ)
      → IsKnown names file (numbers_of files) next out
      → (new ≡ names) ⊎ ((new ≡ with_fate n Comes names) ⊎ (new ≡ with_fate n Goes names)) → IsKept (file n)
      → IsKnown new file (numbers_of (without n files)) next out
  known_removed names new file files next out n known may n_kept =
      ⊎_elim (λ same. rw same unchanged) (λ changed. ⊎_elim (λ comes. rw comes (with_it Comes)) (λ goes. rw goes (with_it Goes)) changed) may
    where
      unchanged : IsKnown names file (numbers_of (without n files)) next out
      unchanged = record {
        below = known.below;
        there = λ m has. known.there m (has_without n m files has).0;
        kept = known.kept;
        held = known.held;
      }

      with_it : (fate : Fate) → IsKnown (with_fate n fate names) file (numbers_of (without n files)) next out
      with_it fate = record {
        below = below next known.below;
        there = λ m has. let its : (Has (numbers_of files) m) × (m ≢ n) = has_without n m files has in
            has_beside names n m fate its.1 (known.there m its.0);
        kept = λ m has other. ⊎_elim
            (λ was. known.kept m was other)
            (λ same. subst (λ (k : ℕ). IsKept (file k)) (sym same) n_kept)
            (had_beside names n m fate has);
        held = known.held;
      }
        where
          below : (next : Option ℕ) → NoneOrBelow next names → NoneOrBelow next (with_fate n fate names)
          below None is = tt
          below (Some next) is = below_fate next n fate names is

  -- a folder is opened, by what is shown of the list
  pub known_shown : (names new : List Name) (file now : ℕ → Place D) (files shown : List FileName) (next : Option ℕ)
      → new ≡ synced names → numbers_of files ≡ listed new → now ≡ file → shown ≡ files
      → SomeIff next (highest (numbers_of shown) + 1 < 2 ^ 64) (highest (numbers_of shown) + 1)
      → AllKept names file → IsKnown new now (numbers_of files) next None
  known_shown names new file now files shown next after same same_files is_shown is kept =
      known_at_first names new file now (numbers_of files) next after same same_files
      (subst (λ (l : List FileName). SomeIff next (highest (numbers_of l) + 1 < 2 ^ 64) (highest (numbers_of l) + 1)) is_shown is) kept

  -- a file is begun, by what the fields are
  pub known_begun : (names new : List Name) (before now : ℕ → Place D) (files mid after : List FileName) (was next out : Option ℕ) (file : FileName)
      → IsKnown names before (numbers_of files) was out → was ≡ Some file.number → out ≡ None
      → new ≡ synced (made file.number names) → mid ≡ files → after ≡ mid ++ file ∷ []
      → SomeIff next (file.number + 1 < 2 ^ 64) (file.number + 1)
      → now file.number ≡ Out → ((m : ℕ) → m ≢ file.number → now m ≡ before m) → IsKnown new now (numbers_of after) next (Some file.number)
  known_begun names new before now files mid after was next out file known was_is none made_now same after_is next_is is_out others =
      known_made names new before now (numbers_of files) (numbers_of after) next file.number
      (subst (λ (o : Option ℕ). IsKnown names before (numbers_of files) (Some file.number) o) none
      (subst (λ (o : Option ℕ). IsKnown names before (numbers_of files) o out) was_is known)) made_now
      (ap numbers_of (after_is ∙ ap (λ (l : List FileName). l ++ file ∷ []) same) ∙ numbers_append files file)
      (one_or_none next _ _ next_is) is_out others

  -- none is begun
  pub known_unbegun : (model : DiskModel D) (names new : List Name) (before now : ℕ → Place D) (files after : List FileName) (was next out : Option ℕ) (n : ℕ)
      → IsKnown names before (numbers_of files) was out → was ≡ Some n → out ≡ None
      → MayHaveBegun model n names new now → after ≡ files
      → SomeIff next (n + 1 < 2 ^ 64) (n + 1)
      → ((m : ℕ) → m ≢ n → now m ≡ before m) → IsKnown new now (numbers_of after) next out
  known_unbegun model names new before now files after was next out n known was_is none may same next_is others =
      subst (λ (o : Option ℕ). IsKnown new now (numbers_of after) next o) (sym none)
      (subst (λ (l : List FileName). IsKnown new now (numbers_of l) next None) (sym same)
      (known_unmade names new before now (numbers_of files) next n
      (subst (λ (o : Option ℕ). IsKnown names before (numbers_of files) (Some n) o) none
      (subst (λ (o : Option ℕ). IsKnown names before (numbers_of files) o out) was_is known))
      (may_be_kept model n names new now may) (one_or_none next _ _ next_is) others))

  -- what is in the list, by its place, is there
  pub one_there : (names : List Name) (file : ℕ → Place D) (files shown : List FileName) (next out : Option ℕ) (i : ℕ) (d : FileName)
      → IsKnown names file (numbers_of files) next out → shown ≡ files → i < length shown → Contains (listed names) (get_or shown i d).number
  one_there names file files shown next out i d known same inside =
      contains (listed names) _ (known.there _ (subst (λ (l : List FileName). Has (numbers_of l) (get_or shown i d).number) same (has_index shown i d inside)))

  pub one_kept : (names : List Name) (file : ℕ → Place D) (files shown : List FileName) (next out : Option ℕ) (i : ℕ) (d : FileName)
      → IsKnown names file (numbers_of files) next out → out ≢ Some (get_or shown i d).number → shown ≡ files → i < length shown → IsKept (file (get_or shown i d).number)
  one_kept names file files shown next out i d known other same inside =
      known.kept _ (known.there _ (subst (λ (l : List FileName). Has (numbers_of l) (get_or shown i d).number) same (has_index shown i d inside))) other

  -- a file of the list is thrown away
  pub known_there : (names : List Name) (file : ℕ → Place D) (files : List FileName) (next out : Option ℕ) (one : FileName)
      → IsKnown names file (numbers_of files) next out → Contains files one → Contains (listed names) one.number
  known_there names file files next out one known among = contains (listed names) one.number (known.there one.number (has_one files one among))

  pub known_kept : (names : List Name) (file : ℕ → Place D) (files : List FileName) (next out : Option ℕ) (one : FileName)
      → IsKnown names file (numbers_of files) next out → Contains files one → out ≢ Some one.number → IsKept (file one.number)
  known_kept names file files next out one known among other = known.kept one.number (known.there one.number (has_one files one among)) other

  -- it is thrown away, or may be
  pub known_thrown : {T E : Type 0} (result : Result T E) (honest : Type 0) (names new : List Name) (file now : ℕ → Place D) (files : List FileName) (next out : Option ℕ)
      (one : FileName)
      → IsKnown names file (numbers_of files) next out → Contains files one → out ≢ Some one.number
      → OnOk result (honest → new ≡ removed one.number names) → OnErr result (honest → MayHaveRemoved one.number names new) → honest
      → now ≡ file → IsKnown new now (numbers_of (without one.number files)) next out
  known_thrown result honest names new file now files next out one known among other on_ok on_err is same =
      subst (λ (f : ℕ → Place D). IsKnown new f (numbers_of (without one.number files)) next out) (sym same)
      (known_removed names new file files next out one.number known (may_be_removed result one.number names new honest on_ok on_err is)
      (known_kept names file files next out one known among other))
