-- A file is begun: it is made, and the folder is synced.
use Rattle.std.specs.Prelude.{◌≡◌, ◌≢◌, ℕ, ◌==◌, Bool, true, false, if◌then◌else◌, List, [], ◌∷◌, ◌++◌, Option, None, refl, ◌⊎◌, Some}
use Rattle.std.proofs.Common.{⊎_elim, sym, ◌∙◌, ap, subst, arith, inr}
use Rattle.std.proofs.lemmas.Bool.Decides.{nat_tests}
use Rattle.std.proofs.lemmas.List.{append-nil}
use Rattle.disk_model.specs.declared.disk.Disk.{Ghosts as DiskModel}
use Rattle.disk_model.specs.Image.{DiskState, IsImage, settled}
use Rattle.disk_model.specs.Torn.{settled_image}
use Rattle.archive_folder.specs.declared.names.Name.{Name}
use Rattle.archive_folder.specs.declared.names.Fate.{Fate}
use Rattle.archive_folder.specs.declared.names.Fate.TheVariants.{Stays, Comes, Goes}
use Rattle.archive_folder.specs.Names.{name, IsLeft, AreBelow, made, synced, synced_one}
use Rattle.archive_folder.specs.NamesLaws.{left_of_made}
use Rattle.archive_folder.specs.Clock.{HasLeft, NamesPass, MayHaveMade}
use Rattle.archive_history.specs.Archive.{archive, File, There, Gone, Newest, Archive, names_of, newest_names, names, Making, Syncing, begun_by, FilesResolve, settled_file, settled_files, with_new, Resolves}
use Rattle.archive_history.specs.History.{Point, point, with_disk, Called, LeavesNames, IsEmptyAt, IsEvent}
use Rattle.archive_history.specs.Accounted.{Stands as StandsBy, Now, StandsAs}
use Rattle.archive_history.proofs.Events.{making, failed_making, same_files}

pub at_same : {D : Type 0} (n : ℕ) (disk : D) (disks : ℕ → D) → with_disk n disk disks n ≡ disk
at_same n disk disks = ap (λ (b : Bool). if b then disk else disks n) (same_test n)
  where
    same_test : (n : ℕ) → (n == n) ≡ true
    same_test n = grind (arith, nat_tests)

pub at_other : {D : Type 0} (n m : ℕ) (disk : D) (disks : ℕ → D) → m ≢ n → with_disk n disk disks m ≡ disks m
at_other n m disk disks other = ap (λ (b : Bool). if b then disk else disks m) (other_test m n other)
  where
    other_test : (m n : ℕ) → m ≢ n → (m == n) ≡ false
    other_test m n other = grind (arith, nat_tests)

-- the account after a sync
settled_names : {C : Type 0} (files : List (File C)) → names_of (settled_files files) ≡ synced (names_of files)
settled_names [] = refl
settled_names (Gone commands ∷ files) = settled_names files
settled_names {C} (There is_thrown first content ∷ files) = one first.number first.fate (settled_names files)
  where
    one : (n : ℕ) (fate : Fate) → names_of (settled_files files) ≡ synced (names_of files) → names_of (settled_file is_thrown n fate content ∷ settled_files files) ≡ synced_one n fate ++ synced (names_of files)
    one n Stays same = ap (λ (l : List Name). name n Stays ∷ l) same
    one n Comes same = ap (λ (l : List Name). name n Stays ∷ l) same
    one n Goes same = same

pub settled_resolve : {C : Type 0} (files : List (File C)) → FilesResolve files (settled_files files)
settled_resolve [] = tt
settled_resolve (Gone commands ∷ files) = (refl, settled_resolve files)
settled_resolve {C} (There is_thrown first content ∷ files) = one first.number first.fate (settled_resolve files)
  where
    one : (n : ℕ) (fate : Fate) → FilesResolve files (settled_files files) → FilesResolve (There is_thrown (name n fate) content ∷ files) (settled_file is_thrown n fate content ∷ settled_files files)
    one n Stays rest = (refl, refl, tt, refl, rest)
    one n Comes rest = (refl, refl, tt, refl, rest)
    one n Goes rest = (tt, refl, rest)

synced_made : (ns : List Name) (n : ℕ) → synced (made n ns) ≡ synced ns ++ name n Stays ∷ []
synced_made [] n = refl
synced_made (first ∷ ns) n = one first.number first.fate (synced_made ns n)
  where
    one : (m : ℕ) (fate : Fate) → synced (made n ns) ≡ synced ns ++ name n Stays ∷ [] → synced_one m fate ++ synced (made n ns) ≡ synced_one m fate ++ synced ns ++ name n Stays ∷ []
    one m Stays same = ap (λ (l : List Name). name m Stays ∷ l) same
    one m Comes same = ap (λ (l : List Name). name m Stays ∷ l) same
    one m Goes same = same

pub new_names : {C : Type 0} (a : Archive C) (n : ℕ) → a.newest ≡ None → synced (made n (names a)) ≡ names (with_new n a)
new_names {C} a n none =
    synced_made (names a) n
    ∙ ap (λ (newest : Option (Newest C)). synced (names_of a.ended ++ newest_names newest) ++ name n Stays ∷ []) none
    ∙ ap (λ (ns : List Name). synced ns ++ name n Stays ∷ []) (append-nil (names_of a.ended))
    ∙ ap (λ (ns : List Name). ns ++ name n Stays ∷ []) (sym (settled_names a.ended))

-- what a call of the folder leaves, by its clauses
pub leaves_names : {F : Type 0} (names_in : F → List Name) (moment : F → ℕ) (left_since : F → ℕ → List ℕ → Type 0) (bound : List Name) (old new : F)
    → HasLeft (names_in old) (moment old) (left_since old) → NamesPass (moment old) (moment new) (left_since old) (left_since new) bound
    → ((left : List ℕ) → IsLeft (names_in old) left → IsLeft bound left) → LeavesNames moment left_since bound old new
leaves_names names_in moment left_since bound old new laws time within = record {
  later = time.later;
  each = λ left since. ⊎_elim (λ was. within left (laws.only_now left was)) (λ is. is) (time.nothing_else (moment old) left (omega arith) since);
}

-- and two calls with one bound
pub leaves_both : {F : Type 0} (moment : F → ℕ) (left_since : F → ℕ → List ℕ → Type 0) (bound second : List Name) (old mid new : F)
    → LeavesNames moment left_since bound old mid → NamesPass (moment mid) (moment new) (left_since mid) (left_since new) second
    → ((left : List ℕ) → IsLeft second left → IsLeft bound left) → LeavesNames moment left_since bound old new
leaves_both moment left_since bound second old mid new first time within = record {
  later = omega (arith, first.later, time.later);
  each = λ left since. ⊎_elim (first.each left) (within left) (time.nothing_else (moment old) left first.later since);
}

module _ {F D S C : Type 0} (names_in : F → List Name) (moment : F → ℕ) (left_since : F → ℕ → List ℕ → Type 0) (model : DiskModel D)
    (shows : List ℕ → S → Type 0) (accepts : S → C → Type 0) (next : S → C → S) (first : S) where
  abbrev Stands : Archive C → Point F D → Type 0
  Stands a p = StandsAs names_in model shows next first a p

  only_empty : (disk : DiskState) (image : List ℕ) → disk ≡ settled [] → IsImage disk image → image ≡ []
  only_empty disk image is now =
      settled_image (settled []) [] image (record { synced = refl; unwritten = λ k none. none; least = omega arith; greatest = omega arith }) (subst (λ (d : DiskState). IsImage d image) is now)

  pub any_empty : (newest : Option (Newest C)) (disk : DiskState) → disk ≡ settled [] → IsEmptyAt names_in moment left_since model shows accepts next first newest disk
  any_empty None disk is = tt
  any_empty (Some file) disk is = λ image now. only_empty disk image is now

  module _ (event : (a b : Archive C) (e : _) (old new : Point F D) → Stands a old → IsEvent names_in moment left_since model shows accepts next first a e b old new → names_in new.folder ≡ names b → Stands b new) where
    -- a making, and whatever its names are then
    pub made_as : (a b : Archive C) (n : ℕ) (disks : ℕ → D) (disk : D) (old mid : F) → a.newest ≡ None → AreBelow n (names_in old) → Stands a (point old disks)
        → HasLeft (names_in old) (moment old) (left_since old)
        → model.state disk ≡ settled []
        → NamesPass (moment old) (moment mid) (left_since old) (left_since mid) (made n (names_in old))
        → Resolves (begun_by a (Making n)) b → names_in mid ≡ names b
        → Stands b (point mid (with_disk n disk disks))
    made_as a b n disks disk old mid none below stands laws empty make_time are same =
        let old_names : names_in old ≡ names a = stands.names_are in
        let bound : LeavesNames moment left_since (names (begun_by a (Making n))) old mid =
        subst (λ (ns : List Name). LeavesNames moment left_since ns old mid) (ap (λ (ns : List Name). made n ns) old_names ∙ sym (making a n none))
        (leaves_names names_in moment left_since (made n (names_in old)) old mid laws make_time (left_of_made (names_in old) n)) in
        event a b (Called (Making n)) (point old disks) (point mid (with_disk n disk disks)) stands (
          tt,
          (none, subst (AreBelow n) old_names below),
          (bound, (λ m other. at_other n m disk disks other)),
          are,
          any_empty b.newest (model.state (with_disk n disk disks n)) (ap (λ (d : D). model.state d) (at_same n disk disks) ∙ empty),
        ) same

    -- a making that succeeded
    pub made_it : (a : Archive C) (n : ℕ) (disks : ℕ → D) (disk : D) (old mid : F) → a.newest ≡ None → AreBelow n (names_in old) → Stands a (point old disks)
        → HasLeft (names_in old) (moment old) (left_since old)
        → model.state disk ≡ settled [] → names_in mid ≡ made n (names_in old)
        → NamesPass (moment old) (moment mid) (left_since old) (left_since mid) (made n (names_in old))
        → Stands (begun_by a (Making n)) (point mid (with_disk n disk disks))
    made_it a n disks disk old mid none below stands laws empty after_make make_time =
        made_as a (begun_by a (Making n)) n disks disk old mid none below stands laws empty make_time (same_files a.ended, (refl, tt, refl))
        (after_make ∙ ap (λ (ns : List Name). made n ns) stands.names_are ∙ sym (making a n none))

    pub begun : (a : Archive C) (n : ℕ) (disks : ℕ → D) (disk : D) (old mid new : F) → a.newest ≡ None → AreBelow n (names_in old) → Stands a (point old disks)
        → HasLeft (names_in old) (moment old) (left_since old) → HasLeft (names_in mid) (moment mid) (left_since mid)
        → model.state disk ≡ settled [] → names_in mid ≡ made n (names_in old) → names_in new ≡ synced (names_in mid)
        → NamesPass (moment old) (moment mid) (left_since old) (left_since mid) (made n (names_in old))
        → NamesPass (moment mid) (moment new) (left_since mid) (left_since new) (names_in mid)
        → Stands (with_new n a) (point new (with_disk n disk disks))
    begun a n disks disk old mid new none below stands laws laws_mid empty after_make after_sync make_time sync_time =
        let there : Stands (begun_by a (Making n)) (point mid (with_disk n disk disks)) = made_it a n disks disk old mid none below stands laws empty after_make make_time in
        event (begun_by a (Making n)) (with_new n a) (Called Syncing) (point mid (with_disk n disk disks)) (point new (with_disk n disk disks)) there (
          tt,
          tt,
          (subst (λ (ns : List Name). LeavesNames moment left_since ns mid new) there.names_are (leaves_names names_in moment left_since (names_in mid) mid new laws_mid sync_time (λ left is. is)), refl),
          (settled_resolve a.ended, (refl, tt, refl)),
          tt,
        )
        (after_sync ∙ ap synced after_make ∙ ap (λ (ns : List Name). synced (made n ns)) stands.names_are ∙ new_names a n none)

    -- what is known after a fault
    abbrev pub Afterwards : Archive C → ℕ → F → Type 0
    Afterwards a n new = (b : Archive C) × (after : ℕ → D) × Resolves (begun_by a (Making n)) b × Stands b (point new after)

    pub not_made : (a : Archive C) (n : ℕ) (disks : ℕ → D) (old new : F) → a.newest ≡ None → AreBelow n (names_in old) → Stands a (point old disks)
        → HasLeft (names_in old) (moment old) (left_since old)
        → NamesPass (moment old) (moment new) (left_since old) (left_since new) (made n (names_in old))
        → (names_in new ≡ names_in old) ⊎ (MayHaveMade n (names_in old) (names_in new) × ((disk : D) × (model.state disk ≡ settled [])))
        → Afterwards a n new
    not_made a n disks old new none below stands laws make_time left = ⊎_elim
        (λ same. (
          archive a.ended None,
          disks,
          (same_files a.ended, tt),
          record {
            names_are = same ∙ stands.names_are ∙ ap (λ (newest : Option (Newest C)). names (archive a.ended newest)) none;
            stands = subst (λ (newest : Option (Newest C)). StandsBy shows next first (Now model (point old disks)) (archive a.ended newest)) none stands.stands;
          },
        ))
        (λ may.
        let as_account : MayHaveMade n (names a) (names_in new) = subst (λ (ns : List Name). MayHaveMade n ns (names_in new)) stands.names_are may.0 in
        let after = failed_making a n (names_in new) none (inr as_account) in (
          after.0,
          with_disk n may.1.0 disks,
          after.1,
          made_as a after.0 n disks may.1.0 old new none below stands laws may.1.1 make_time after.1 after.2,
        ))
        left

    pub not_synced : (a : Archive C) (n : ℕ) (disks : ℕ → D) (disk : D) (old mid new : F) → a.newest ≡ None → AreBelow n (names_in old) → Stands a (point old disks)
        → HasLeft (names_in old) (moment old) (left_since old)
        → model.state disk ≡ settled [] → names_in mid ≡ made n (names_in old) → names_in new ≡ names_in mid
        → NamesPass (moment old) (moment mid) (left_since old) (left_since mid) (made n (names_in old))
        → Afterwards a n new
    not_synced a n disks disk old mid new none below stands laws empty after_make same make_time =
        let there : Stands (begun_by a (Making n)) (point mid (with_disk n disk disks)) = made_it a n disks disk old mid none below stands laws empty after_make make_time in
        (begun_by a (Making n), with_disk n disk disks, (same_files a.ended, (refl, tt, refl)), record { names_are = same ∙ there.names_are; stands = there.stands })
