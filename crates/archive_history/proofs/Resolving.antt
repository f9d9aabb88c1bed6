-- What faults, syncs and stops make of an account that stands.
use Rattle.std.specs.Prelude.{◌≡◌, ℕ, ◌==◌, true, false, if◌then◌else◌, List, [], ◌∷◌, ◌++◌, Option, None, Some, refl}
use Rattle.std.specs.List.{AllByRecursion}
use Rattle.std.proofs.Common.{inl, inr, ⊎_elim, sym, ◌∙◌, ap, subst}
use Rattle.disk_model.specs.declared.disk.Disk.{Ghosts as DiskModel}
use Rattle.disk_model.specs.Image.{IsImage}
use Rattle.disk_model.specs.Torn.{settled_image}
use Rattle.archive_folder.specs.declared.names.Name.{Name}
use Rattle.archive_folder.specs.declared.names.Fate.{Fate}
use Rattle.archive_folder.specs.declared.names.Fate.TheVariants.{Stays, Comes, Goes}
use Rattle.archive_folder.specs.Names.{name, AreBelow, restarted}
use Rattle.history.specs.Showing.{StartsFrom}
use Rattle.history.specs.World.{World}
use Rattle.history.specs.History.{ShowsWorld}
use Rattle.archive_history.specs.Archive.{File, There, Gone, Content, commands_in, Newest, names_of, newest_names, thrown, MayBecome, FilesResolve, NewestResolves}
use Rattle.archive_history.specs.Showing.{numbers, ShowsContent}
use Rattle.archive_history.specs.Accounted.{Bytes, AreSafe, NewestSafe, NewestAbove, FilesStand, NewestStands}

pub same_head : {A : Type 0} (x y : A) (xs ys : List A) → x ∷ xs ≡ y ∷ ys → x ≡ y
same_head x y xs ys same = cc

same_tail : {A : Type 0} (x y : A) (xs ys : List A) → x ∷ xs ≡ y ∷ ys → xs ≡ ys
same_tail x y xs ys same = cc

no_names : {A : Type 0} {B : Type 0} (x : A) (xs : List A) → x ∷ xs ≡ [] → B
no_names x xs same = absurd (never x xs same)
  where
    never : {A : Type 0} (x : A) (xs : List A) → x ∷ xs ≡ [] → ⊥
    never x xs same = cc

-- names below a number
pub below_append : (n : ℕ) (names more : List Name) → AreBelow n (names ++ more) → AreBelow n names
below_append n [] more below = tt
below_append n (first ∷ names) more below = (below.0, below_append n names more below.1)

pub below_resolved : {C : Type 0} (n : ℕ) (files others : List (File C)) → FilesResolve files others → AreBelow n (names_of files) → AreBelow n (names_of others)
below_resolved n [] [] are below = tt
below_resolved n [] (There is_thrown name content ∷ others) are below = absurd are
below_resolved n [] (Gone commands ∷ others) are below = absurd are
below_resolved n (There is_thrown name content ∷ files) [] are below = absurd are
below_resolved n (There is_thrown name content ∷ files) (There was_thrown other content' ∷ others) are below =
    (rw are.1 below.0, below_resolved n files others are.4 below.1)
below_resolved n (There is_thrown name content ∷ files) (Gone commands' ∷ others) are below = below_resolved n files others are.2 below.1
below_resolved n (Gone commands ∷ files) [] are below = absurd are
below_resolved n (Gone commands ∷ files) (There was_thrown other content' ∷ others) are below = absurd are
below_resolved n (Gone commands ∷ files) (Gone commands' ∷ others) are below = below_resolved n files others are.1 below

pub below_thrown : {C : Type 0} (m n : ℕ) (files : List (File C)) → AreBelow m (names_of files) → AreBelow m (names_of (thrown n files))
below_thrown m n [] below = tt
below_thrown m n (Gone commands ∷ files) below = below_thrown m n files below
below_thrown m n (There is_thrown first content ∷ files) below =
    elim (first.number == n) as (λ b. AreBelow m (names_of (if b then There true (name first.number Goes) content ∷ files else There is_thrown first content ∷ thrown n files))) [
      | true ↦ below
      | false ↦ (below.0, below_thrown m n files below.1)
    ]

-- a name that stays, stays
still_stays : (fate other : Fate) → MayBecome fate other → fate ≡ Stays → other ≡ Stays
still_stays Stays Stays may is = refl
still_stays Stays Comes may is = absurd may
still_stays Stays Goes may is = absurd may
still_stays Comes other may is = absurd (never is)
  where
    never : Comes ≡ Stays → ⊥
    never is = cc
still_stays Goes other may is = absurd (never is)
  where
    never : Goes ≡ Stays → ⊥
    never is = cc

pub safe_resolved : {C : Type 0} (files others : List (File C)) → FilesResolve files others → AreSafe files → AreSafe others
safe_resolved [] [] are safe = tt
safe_resolved [] (There is_thrown name content ∷ others) are safe = absurd are
safe_resolved [] (Gone commands ∷ others) are safe = absurd are
safe_resolved (There is_thrown name content ∷ files) [] are safe = absurd are
safe_resolved {C} (There is_thrown name content ∷ files) (There was_thrown other content' ∷ others) are safe = (
  ⊎_elim (λ is. inl (are.0 ∙ is)) (λ kept. inr (⊎_elim (λ is. inl (still_stays name.fate other.fate are.2 is)) (λ none. inr (ap (λ (c : Content C). commands_in c) are.3 ∙ none)) kept)) safe.0,
  safe_resolved files others are.4 safe.1,
)
safe_resolved (There is_thrown name content ∷ files) (Gone commands' ∷ others) are safe = safe_resolved files others are.2 safe.1
safe_resolved (Gone commands ∷ files) [] are safe = absurd are
safe_resolved (Gone commands ∷ files) (There was_thrown other content' ∷ others) are safe = absurd are
safe_resolved (Gone commands ∷ files) (Gone commands' ∷ others) are safe = safe_resolved files others are.1 safe

pub safe_thrown : {C : Type 0} (n : ℕ) (files : List (File C)) → AreSafe files → AreSafe (thrown n files)
safe_thrown n [] safe = tt
safe_thrown n (Gone commands ∷ files) safe = safe_thrown n files safe
safe_thrown n (There is_thrown first content ∷ files) safe =
    elim (first.number == n) as (λ b. AreSafe (if b then There true (name first.number Goes) content ∷ files else There is_thrown first content ∷ thrown n files)) [
      | true ↦ (inl refl, safe.1)
      | false ↦ (safe.0, safe_thrown n files safe.1)
    ]

pub newest_safe_resolved : {C : Type 0} (newest other : Option (Newest C)) → NewestResolves newest other → NewestSafe newest → NewestSafe other
newest_safe_resolved None None are safe = tt
newest_safe_resolved None (Some other) are safe = absurd are
newest_safe_resolved (Some file) None are safe = tt
newest_safe_resolved {C} (Some file) (Some other) are safe =
    ⊎_elim (λ is. inl (still_stays file.name.fate other.name.fate are.1 is)) (λ none. inr (ap (λ (w : World C). w.acknowledged) are.2 ∙ none)) safe

pub above_resolved : {C : Type 0} (files others : List (File C)) (newest other : Option (Newest C)) → FilesResolve files others → NewestResolves newest other → NewestAbove files newest → NewestAbove others other
above_resolved files others None None are resolves above = tt
above_resolved files others None (Some other) are resolves above = absurd resolves
above_resolved files others (Some file) None are resolves above = tt
above_resolved files others (Some file) (Some other) are resolves above = rw resolves.0 (below_resolved file.name.number files others are above)

module _ {S C : Type 0} (shows : List ℕ → S → Type 0) (next : S → C → S) (first : S) where
  pub files_resolved : (of : Bytes) (files others : List (File C)) → FilesResolve files others → FilesStand shows next first of files → FilesStand shows next first of others
  files_resolved of [] [] are stand = tt
  files_resolved of [] (There is_thrown name content ∷ others) are stand = absurd are
  files_resolved of [] (Gone commands ∷ others) are stand = absurd are
  files_resolved of (There is_thrown name content ∷ files) [] are stand = absurd are
  files_resolved of (There is_thrown name content ∷ files) (There was_thrown other content' ∷ others) are stand =
      ((λ b is. subst (λ (c : Content C). ShowsContent shows next first c b) (sym are.3) (stand.0 b (subst (λ (n : ℕ). of n b) are.1 is))), files_resolved of files others are.4 stand.1)
  files_resolved of (There is_thrown name content ∷ files) (Gone commands' ∷ others) are stand = files_resolved of files others are.2 stand.1
  files_resolved of (Gone commands ∷ files) [] are stand = absurd are
  files_resolved of (Gone commands ∷ files) (There was_thrown other content' ∷ others) are stand = absurd are
  files_resolved of (Gone commands ∷ files) (Gone commands' ∷ others) are stand = files_resolved of files others are.1 stand

  pub newest_resolved : (of : Bytes) (newest other : Option (Newest C)) → NewestResolves newest other → NewestStands shows next first of newest → NewestStands shows next first of other
  newest_resolved of None None are stands = tt
  newest_resolved of None (Some other) are stands = absurd are
  newest_resolved of (Some file) None are stands = tt
  newest_resolved of (Some file) (Some other) are stands =
      λ b is. subst (λ (w : World C). ShowsWorld shows next first w b) (sym are.2) (stands b (subst (λ (n : ℕ). of n b) are.0 is))

  -- after a stop each disk has what the stop left
  module _ {D : Type 0} (model : DiskModel D) (of : Bytes) (disk : ℕ → D) where
    abbrev Now : Bytes
    Now n b = IsImage (model.state (disk n)) b

    only_one : (n : ℕ) (left b : List ℕ) → StartsFrom left (model.state (disk n)) → Now n b → b ≡ left
    only_one n left b starts is = settled_image (model.state (disk n)) (model.state (disk n)).contents b starts.settled is ∙ starts.contents

    newest_restarted : (newest other : Option (Newest C)) (image : List (ℕ × List ℕ)) → NewestResolves newest other → NewestStands shows next first of newest
        → AllByRecursion (λ (file : ℕ × List ℕ). of file.0 file.1) image
        → AllByRecursion (λ (file : ℕ × List ℕ). StartsFrom file.1 (model.state (disk file.0))) image
        → restarted (numbers image) ≡ newest_names other
        → NewestStands shows next first Now other
    newest_restarted None None image are stands each starts same = tt
    newest_restarted None (Some other) image are stands each starts same = absurd are
    newest_restarted (Some file) None image are stands each starts same = tt
    newest_restarted (Some file) (Some other) [] are stands each starts same = no_names other.name [] (sym same)
    newest_restarted (Some newest) (Some other) (file ∷ image) are stands each starts same =
        let number : file.0 ≡ other.name.number = ap (λ (n : Name). n.number) (same_head (name file.0 Stays) other.name (restarted (numbers image)) [] same) in
        λ b is.
        let left : b ≡ file.1 = only_one file.0 file.1 b starts.0 (subst (λ (n : ℕ). Now n b) (sym number) is) in
        let shown : ShowsWorld shows next first newest.world file.1 = stands file.1 (subst (λ (n : ℕ). of n file.1) (number ∙ are.0) each.0) in
        subst (λ (w : World C). ShowsWorld shows next first w b) (sym are.2) (subst (λ (bs : List ℕ). ShowsWorld shows next first newest.world bs) (sym left) shown)

    pub all_restarted : (files others : List (File C)) (newest other : Option (Newest C)) (image : List (ℕ × List ℕ))
        → FilesResolve files others → NewestResolves newest other → FilesStand shows next first of files → NewestStands shows next first of newest
        → AllByRecursion (λ (file : ℕ × List ℕ). of file.0 file.1) image
        → AllByRecursion (λ (file : ℕ × List ℕ). StartsFrom file.1 (model.state (disk file.0))) image
        → restarted (numbers image) ≡ names_of others ++ newest_names other
        → FilesStand shows next first Now others × NewestStands shows next first Now other
    all_restarted [] [] newest other image are resolves stand stands each starts same = (tt, newest_restarted newest other image resolves stands each starts same)
    all_restarted [] (There is_thrown name content ∷ others) newest other image are resolves stand stands each starts same = absurd are
    all_restarted [] (Gone commands ∷ others) newest other image are resolves stand stands each starts same = absurd are
    all_restarted (There is_thrown name content ∷ files) [] newest other image are resolves stand stands each starts same = absurd are
    all_restarted (There is_thrown name content ∷ files) (There was_thrown name' content' ∷ others) newest other [] are resolves stand stands each starts same =
        no_names name' (names_of others ++ newest_names other) (sym same)
    all_restarted (There is_thrown old_name content ∷ files) (There was_thrown name' content' ∷ others) newest other (file ∷ image) are resolves stand stands each starts same =
        let number : file.0 ≡ name'.number = ap (λ (n : Name). n.number) (same_head (name file.0 Stays) name' (restarted (numbers image)) (names_of others ++ newest_names other) same) in
        let shown : ShowsContent shows next first content file.1 = stand.0 file.1 (subst (λ (n : ℕ). of n file.1) (number ∙ are.1) each.0) in
        let same_content : ShowsContent shows next first content' file.1 = subst (λ (c : Content C). ShowsContent shows next first c file.1) (sym are.3) shown in
        let rest = all_restarted files others newest other image are.4 resolves stand.1 stands each.1 starts.1 (same_tail (name file.0 Stays) name' (restarted (numbers image)) (names_of others ++ newest_names other) same) in
        (((λ b is. subst (λ (bs : List ℕ). ShowsContent shows next first content' bs) (sym (only_one file.0 file.1 b starts.0 (subst (λ (n : ℕ). Now n b) (sym number) is))) same_content), rest.0), rest.1)
    all_restarted (There is_thrown name content ∷ files) (Gone commands' ∷ others) newest other image are resolves stand stands each starts same =
        all_restarted files others newest other image are.2 resolves stand.1 stands each starts same
    all_restarted (Gone commands ∷ files) [] newest other image are resolves stand stands each starts same = absurd are
    all_restarted (Gone commands ∷ files) (There was_thrown name content' ∷ others) newest other image are resolves stand stands each starts same = absurd are
    all_restarted (Gone commands ∷ files) (Gone commands' ∷ others) newest other image are resolves stand stands each starts same =
        all_restarted files others newest other image are.1 resolves stand stands each starts same
