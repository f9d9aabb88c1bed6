-- What the folder's calls say of its names, as events.
use Rattle.std.specs.Prelude.{◌≡◌, ◌≢◌, ◌⊎◌, ℕ, ◌==◌, Bool, true, false, if◌then◌else◌, List, [], ◌∷◌, ◌++◌, Option, None, Some, refl}
use Rattle.std.proofs.Common.{⊎_elim, sym, ◌∙◌, ap, subst, arith}
use Rattle.std.proofs.lemmas.List.{append-nil}
use Rattle.std.proofs.lemmas.Bool.Decides.{nat_tests}
use Rattle.archive_folder.specs.declared.names.Name.{Name}
use Rattle.archive_folder.specs.declared.names.Fate.{Fate}
use Rattle.archive_folder.specs.declared.names.Fate.TheVariants.{Stays, Comes, Goes}
use Rattle.archive_folder.specs.Names.{name, MayLack, IsLeft, made, with_fate, removed, synced, synced_one, restarted}
use Rattle.archive_folder.specs.Clock.{MayHaveMade, MayHaveRemoved}
use Rattle.disk_model.specs.Image.{DiskState, IsImage, IsSettled}
use Rattle.disk_model.specs.Torn.{settled_image}
use Rattle.history.specs.World.{World, start}
use Rattle.archive_history.specs.History.{IsOnly, IsNotNewest}
use Rattle.archive_history.specs.Archive.{File, There, Gone, Content, commands_in, Newest, Archive, archive, names_of, newest_names, names, Making, Throwing, begun_by, thrown, MayBecome, FilesResolve, NewestResolves, Resolves, shut}

may_stay : (fate : Fate) → MayBecome fate Stays
may_stay Stays = tt
may_stay Comes = tt
may_stay Goes = tt

-- a making
pub making : {C : Type 0} (a : Archive C) (n : ℕ) → a.newest ≡ None → names (begun_by a (Making n)) ≡ made n (names a)
making {C} a n none =
    ap (λ (ns : List Name). ns ++ name n Comes ∷ []) (sym (append-nil (names_of a.ended)) ∙ ap (λ (newest : Option (Newest C)). names_of a.ended ++ newest_names newest) (sym none))

-- what a stop makes of the account
record After {C : Type 0} (files : List (File C)) (newest : Option (Newest C)) (names : List Name) : Type 0 where
  others : List (File C)
  other : Option (Newest C)
  are : FilesResolve files others
  is : NewestResolves newest other
  same : names_of others ++ newest_names other ≡ names

gone : {C : Type 0} (is_thrown : Bool) (n : Name) (content : Content C) (files : List (File C)) (newest : Option (Newest C)) (ns : List Name) → MayLack n.fate → After files newest ns → After (There is_thrown n content ∷ files) newest ns
gone is_thrown n content files newest ns may after =
    record { others = Gone (commands_in content) ∷ after.others; other = after.other; are = (may, refl, after.are); is = after.is; same = after.same }

still_there : {C : Type 0} (is_thrown : Bool) (n : Name) (content : Content C) (files : List (File C)) (newest : Option (Newest C)) (m : ℕ) (ns : List Name) → m ≡ n.number → After files newest ns
    → After (There is_thrown n content ∷ files) newest (name m Stays ∷ ns)
still_there is_thrown n content files newest m ns same after = record {
  others = There is_thrown (name m Stays) content ∷ after.others;
  other = after.other;
  are = (refl, same, may_stay n.fate, refl, after.are);
  is = after.is;
  same = ap (λ (l : List Name). name m Stays ∷ l) after.same;
}

newest_after : {C : Type 0} (newest : Option (Newest C)) (left : List ℕ) → IsLeft (newest_names newest) left → After [] newest (restarted left)
newest_after None [] is = record { others = []; other = None; are = tt; is = tt; same = refl }
newest_after None (n ∷ left) is = absurd is
newest_after (Some file) [] is = record { others = []; other = None; are = tt; is = is.0; same = refl }
newest_after (Some file) (n ∷ []) is = ⊎_elim
    (λ here. record { others = []; other = Some (record { name = name n Stays; world = file.world }); are = tt; is = (here.0, may_stay file.name.fate, refl); same = refl })
    (λ later. absurd later.1) is
newest_after (Some file) (n ∷ m ∷ left) is = ⊎_elim (λ here. absurd here.1) (λ later. absurd later.1) is

files_after : {C : Type 0} (files : List (File C)) (newest : Option (Newest C)) (left : List ℕ) → IsLeft (names_of files ++ newest_names newest) left → After files newest (restarted left)
files_after [] newest left is = newest_after newest left is
files_after (Gone commands ∷ files) newest left is =
    let after : After files newest (restarted left) = files_after files newest left is in
    record { others = Gone commands ∷ after.others; other = after.other; are = (refl, after.are); is = after.is; same = after.same }
files_after (There is_thrown n content ∷ files) newest [] is = gone is_thrown n content files newest [] is.0 (files_after files newest [] is.1)
files_after (There is_thrown n content ∷ files) newest (m ∷ left) is = ⊎_elim
    (λ here. still_there is_thrown n content files newest m (restarted left) here.0 (files_after files newest left here.1))
    (λ later. gone is_thrown n content files newest (restarted (m ∷ left)) later.0 (files_after files newest (m ∷ left) later.1))
    is

-- a stop
stopped : {C : Type 0} (a : Archive C) (left : List ℕ) → IsLeft (names a) left → (b : Archive C) × Resolves a b × (names b ≡ restarted left)
stopped a left is =
    let after : After a.ended a.newest (restarted left) = files_after a.ended a.newest left is in
    (archive after.others after.other, (after.are, after.is), after.same)

-- a sync
synced_newest : {C : Type 0} (newest : Option (Newest C)) → After [] newest (synced (newest_names newest))
synced_newest None = record { others = []; other = None; are = tt; is = tt; same = refl }
synced_newest {C} (Some file) = one file.name.number file.name.fate file.world
  where
    one : (n : ℕ) (fate : Fate) (world : World C) → After [] (Some (record { name = name n fate; world = world })) (synced_one n fate ++ [])
    one n Stays world = record { others = []; other = Some (record { name = name n Stays; world = world }); are = tt; is = (refl, tt, refl); same = refl }
    one n Comes world = record { others = []; other = Some (record { name = name n Stays; world = world }); are = tt; is = (refl, tt, refl); same = refl }
    one n Goes world = record { others = []; other = None; are = tt; is = tt; same = refl }

synced_files : {C : Type 0} (files : List (File C)) (newest : Option (Newest C)) → After files newest (synced (names_of files ++ newest_names newest))
synced_files [] newest = synced_newest newest
synced_files (Gone commands ∷ files) newest =
    let after : After files newest (synced (names_of files ++ newest_names newest)) = synced_files files newest in
    record { others = Gone commands ∷ after.others; other = after.other; are = (refl, after.are); is = after.is; same = after.same }
synced_files {C} (There is_thrown n content ∷ files) newest = one n.number n.fate (synced_files files newest)
  where
    one : (m : ℕ) (fate : Fate) → After files newest (synced (names_of files ++ newest_names newest)) → After (There is_thrown (name m fate) content ∷ files) newest (synced_one m fate ++ synced (names_of files ++ newest_names newest))
    one m Stays after = still_there is_thrown (name m Stays) content files newest m (synced (names_of files ++ newest_names newest)) refl after
    one m Comes after = still_there is_thrown (name m Comes) content files newest m (synced (names_of files ++ newest_names newest)) refl after
    one m Goes after = gone is_thrown (name m Goes) content files newest (synced (names_of files ++ newest_names newest)) tt after

pub syncing : {C : Type 0} (a : Archive C) → (b : Archive C) × Resolves a b × (names b ≡ synced (names a))
syncing a =
    let after : After a.ended a.newest (synced (names a)) = synced_files a.ended a.newest in
    (archive after.others after.other, (after.are, after.is), after.same)

-- a stop shuts the newest file
shut_names : {C : Type 0} (ended : List (File C)) (newest : Option (Newest C)) → names (archive ended newest) ≡ names (shut (archive ended newest))
shut_names ended None = refl
shut_names ended (Some file) = refl

pub stopping : {C : Type 0} (a : Archive C) (left : List ℕ) → IsLeft (names a) left → (b : Archive C) × Resolves (shut a) b × (names b ≡ restarted left)
stopping a left is = stopped (shut a) left (subst (λ (ns : List Name). IsLeft ns left) (shut_names a.ended a.newest) is)

-- a removal
not_newest : {C : Type 0} (n : ℕ) (fate : Fate) (newest : Option (Newest C)) → IsNotNewest n newest → with_fate n fate (newest_names newest) ≡ newest_names newest
not_newest n fate None other = refl
not_newest n fate (Some file) other = ap (λ (b : Bool). if b then name file.name.number fate ∷ [] else file.name ∷ []) (other_test file.name.number n other)
  where
    other_test : (m n : ℕ) → m ≢ n → (m == n) ≡ false
    other_test m n other = grind (arith, nat_tests)

throw_files : {C : Type 0} (n : ℕ) (files : List (File C)) (more : List Name) → with_fate n Goes more ≡ more → names_of (thrown n files) ++ more ≡ removed n (names_of files ++ more)
throw_files n [] more same = sym same
throw_files n (Gone commands ∷ files) more same = throw_files n files more same
throw_files n (There is_thrown first content ∷ files) more same =
    elim (first.number == n) as (λ b. names_of (if b then There true (name first.number Goes) content ∷ files else There is_thrown first content ∷ thrown n files) ++ more
    ≡ (if b then name first.number Goes ∷ (names_of files ++ more) else first ∷ with_fate n Goes (names_of files ++ more))) [
      | true ↦ refl
      | false ↦ ap (λ (l : List Name). first ∷ l) (throw_files n files more same)
    ]

pub throwing : {C : Type 0} (a : Archive C) (n : ℕ) → IsNotNewest n a.newest → names (begun_by a (Throwing n)) ≡ removed n (names a)
throwing a n other = throw_files n a.ended (newest_names a.newest) (not_newest n Goes a.newest other)

may_same : (fate : Fate) → MayBecome fate fate
may_same Stays = tt
may_same Comes = tt
may_same Goes = tt

pub same_files : {C : Type 0} (files : List (File C)) → FilesResolve files files
same_files [] = tt
same_files (Gone commands ∷ files) = (refl, same_files files)
same_files (There is_thrown ns content ∷ files) = (refl, refl, may_same ns.fate, refl, same_files files)

-- a making that failed: nothing was made, or the name is there, or it may come back
pub failed_making : {C : Type 0} (a : Archive C) (n : ℕ) (new : List Name) → a.newest ≡ None → (new ≡ names a) ⊎ MayHaveMade n (names a) new
    → (b : Archive C) × Resolves (begun_by a (Making n)) b × (new ≡ names b)
failed_making {C} a n new none is =
    let before : names a ≡ names_of a.ended ++ [] = ap (λ (newest : Option (Newest C)). names_of a.ended ++ newest_names newest) none in
    ⊎_elim
    (λ same. (archive a.ended None, (same_files a.ended, tt), same ∙ before))
    (λ may. ⊎_elim
    (λ there. (begun_by a (Making n), (same_files a.ended, (refl, tt, refl)), there ∙ sym (making a n none)))
    (λ goes. (
      archive a.ended (Some (record { name = name n Goes; world = start })),
      (same_files a.ended, (refl, tt, refl)),
      goes ∙ ap (λ (ns : List Name). ns ++ name n Goes ∷ []) (before ∙ append-nil (names_of a.ended)),
    ))
    may)
    is

-- a removal that failed: the name is there as before, or is in doubt
record Thrown {C : Type 0} (after : List (File C)) (more names : List Name) : Type 0 where
  others : List (File C)
  are : FilesResolve after others
  same : names_of others ++ more ≡ names

thrown_again : {C : Type 0} (n : ℕ) (files : List (File C)) (more : List Name) → Thrown (thrown n files) more (names_of files ++ more)
thrown_again n [] more = record { others = []; are = tt; same = refl }
thrown_again n (Gone commands ∷ files) more =
    let rest : Thrown (thrown n files) more (names_of files ++ more) = thrown_again n files more in
    record { others = Gone commands ∷ rest.others; are = (refl, rest.are); same = rest.same }
thrown_again n (There is_thrown first content ∷ files) more =
    let rest : Thrown (thrown n files) more (names_of files ++ more) = thrown_again n files more in
    elim (first.number == n) as (λ b. Thrown (if b then There true (name first.number Goes) content ∷ files else There is_thrown first content ∷ thrown n files) more (first ∷ (names_of files ++ more))) [
      | true ↦ record { others = There true first content ∷ files; are = (refl, refl, tt, refl, same_files files); same = refl }
      | false ↦ record {
        others = There is_thrown first content ∷ rest.others;
        are = (refl, refl, may_same first.fate, refl, rest.are);
        same = ap (λ (l : List Name). first ∷ l) rest.same;
      }
    ]

thrown_as : {C : Type 0} (n : ℕ) (fate : Fate) (files : List (File C)) (more : List Name) → with_fate n fate more ≡ more → Thrown (thrown n files) more (with_fate n fate (names_of files ++ more))
thrown_as n fate [] more same = record { others = []; are = tt; same = sym same }
thrown_as n fate (Gone commands ∷ files) more same =
    let rest : Thrown (thrown n files) more (with_fate n fate (names_of files ++ more)) = thrown_as n fate files more same in
    record { others = Gone commands ∷ rest.others; are = (refl, rest.are); same = rest.same }
thrown_as n fate (There is_thrown first content ∷ files) more same =
    let rest : Thrown (thrown n files) more (with_fate n fate (names_of files ++ more)) = thrown_as n fate files more same in
    elim (first.number == n) as (λ b. Thrown (if b then There true (name first.number Goes) content ∷ files else There is_thrown first content ∷ thrown n files) more
    (if b then name first.number fate ∷ (names_of files ++ more) else first ∷ with_fate n fate (names_of files ++ more))) [
      | true ↦ record { others = There true (name first.number fate) content ∷ files; are = (refl, refl, tt, refl, same_files files); same = refl }
      | false ↦ record {
        others = There is_thrown first content ∷ rest.others;
        are = (refl, refl, may_same first.fate, refl, rest.are);
        same = ap (λ (l : List Name). first ∷ l) rest.same;
      }
    ]

same_newest : {C : Type 0} (newest : Option (Newest C)) → NewestResolves newest newest
same_newest None = tt
same_newest (Some file) = (refl, may_same file.name.fate, refl)

pub same_account : {C : Type 0} (a : Archive C) → Resolves a a
same_account a = (same_files a.ended, same_newest a.newest)

thrown_event : {C : Type 0} (a : Archive C) (n : ℕ) (new : List Name) → Thrown (thrown n a.ended) (newest_names a.newest) new
    → (b : Archive C) × Resolves (begun_by a (Throwing n)) b × (new ≡ names b) × (b.newest ≡ a.newest)
thrown_event a n new by = (archive by.others a.newest, (by.are, same_newest a.newest), sym by.same, refl)

-- the newest file is the same
pub failed_throwing_same : {C : Type 0} (a : Archive C) (n : ℕ) (new : List Name) → IsNotNewest n a.newest → MayHaveRemoved n (names a) new
    → (b : Archive C) × Resolves (begun_by a (Throwing n)) b × (new ≡ names b) × (b.newest ≡ a.newest)
failed_throwing_same a n new other may =
    let more = newest_names a.newest in
    let after = thrown n a.ended in
    ⊎_elim
    (λ same. thrown_event a n new (subst (Thrown after more) (sym same) (thrown_again n a.ended more)))
    (λ changed. ⊎_elim
    (λ comes. thrown_event a n new (subst (Thrown after more) (sym comes) (thrown_as n Comes a.ended more (not_newest n Comes a.newest other))))
    (λ goes. thrown_event a n new (subst (Thrown after more) (sym goes) (thrown_as n Goes a.ended more (not_newest n Goes a.newest other))))
    changed)
    may

pub failed_throwing : {C : Type 0} (a : Archive C) (n : ℕ) (new : List Name) → IsNotNewest n a.newest → MayHaveRemoved n (names a) new
    → (b : Archive C) × Resolves (begun_by a (Throwing n)) b × (new ≡ names b)
failed_throwing a n new other may =
    let after = failed_throwing_same a n new other may in
    (after.0, after.1, after.2)

-- a file that is sealed has its contents as its only image
pub ending : (disk : DiskState) → IsSettled disk → IsImage disk disk.contents → IsOnly disk.contents disk
ending disk settled is = record { is_image = is; only = λ image now. settled_image disk disk.contents image settled now }
