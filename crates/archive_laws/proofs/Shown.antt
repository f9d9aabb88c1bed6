-- From file after file to the commands whose bytes each has.
use Rattle.std.specs.Prelude.{◌≡◌, ◌⊎◌, ℕ, ◌==◌, true, false, if◌then◌else◌, List, [], ◌∷◌, ◌++◌, Option, None, Some, refl}
use Rattle.std.specs.List.{fold, flat_map, AllZip}
use Rattle.std.proofs.Common.{inl, inr, ⊎_elim, sym, subst, append_assoc}
use Rattle.std.proofs.lemmas.List.{append-nil}
use Rattle.std.proofs.lemmas.List.Sums.{fold-append}
use Rattle.archive_folder.specs.declared.names.Name.{Name}
use Rattle.archive_folder.specs.declared.names.Fate.{Fate}
use Rattle.archive_folder.specs.declared.names.Fate.TheVariants.{Stays, Goes}
use Rattle.archive_folder.specs.Names.{name, MayLack}
use Rattle.history.specs.Commands.{AreAccepted, IsPartOf}
use Rattle.history.specs.World.{World}
use Rattle.history.specs.History.{ShowsWorld}
use Rattle.archive_history.specs.Archive.{File, There, Gone, Content, Whole, Known, Foreign, Newest, Archive, commands_in, kept_of, newest_commands, acknowledged, MayHold, MayBeIn, MayHoldAll, Move, Making, Throwing, Syncing, Asking, Recording, thrown, with_world, begun_by}
use Rattle.archive_history.specs.Showing.{AreAmong, ShowsContent, ShowsNewest, ShowsFiles, ShowsArchive}
use Rattle.archive_history.specs.Accounted.{AreSafe, NewestSafe}
use Rattle.archive_laws.proofs.Accepted.{WorldIs, ContentIs, FilesAre, NewestIs, AccountIs, join}

-- ---- commands among commands
part_in_front : {A : Type 0} (xs ys : List A) (y : A) → IsPartOf xs ys → IsPartOf xs (y ∷ ys)
part_in_front [] ys y p = tt
part_in_front (x ∷ xs) ys y p = inr p

part_append : {A : Type 0} (xs ys us vs : List A) → IsPartOf xs ys → IsPartOf us vs → IsPartOf (xs ++ us) (ys ++ vs)
part_append [] [] us vs p q = q
part_append [] (y ∷ ys) us vs p q = part_in_front us (ys ++ vs) y (part_append [] ys us vs tt q)
part_append (x ∷ xs) [] us vs p q = absurd p
part_append (x ∷ xs) (y ∷ ys) us vs p q = ⊎_elim (λ both. inl (both.0, part_append xs ys us vs both.1 q)) (λ later. inr (part_append (x ∷ xs) ys us vs later q)) p

part_self : {A : Type 0} (xs : List A) → IsPartOf xs xs
part_self [] = tt
part_self (x ∷ xs) = inl (refl, part_self xs)

part_back : {A : Type 0} (xs ys zs : List A) → IsPartOf xs ys → IsPartOf xs (ys ++ zs)
part_back xs ys zs part = subst (λ (l : List _). IsPartOf l (ys ++ zs)) (append-nil xs) (part_append xs ys [] zs part tt)

held_has : {C : Type 0} (world : World C) (commands : List C) → MayHold world commands → IsPartOf world.acknowledged commands
held_has {C} world commands held = ⊎_elim
    (λ is. subst (IsPartOf world.acknowledged) (sym is) (part_self world.acknowledged))
    (λ is. subst (IsPartOf world.acknowledged) (sym is) (part_back world.acknowledged world.acknowledged world.in_doubt (part_self world.acknowledged)))
    held

content_has : {C : Type 0} (content : Content C) (commands : List C) → MayBeIn content commands → IsPartOf (commands_in content) commands
content_has (Whole bytes commands') commands is = subst (IsPartOf commands') (sym is) (part_self commands')
content_has (Known world) commands held = held_has world commands held
content_has (Foreign bytes) commands is = tt

all_held : {C : Type 0} (files : List (File C)) (newest : Option (Newest C)) (all : List C) → MayHoldAll files newest all → IsPartOf (kept_of files ++ newest_commands newest) all
all_held [] None all held = tt
all_held [] (Some file) all held = held_has file.world all held
all_held (There true name content ∷ files) newest all held = all_held files newest all held
all_held {C} (There false name content ∷ files) newest all held =
    let mine = commands_in content in
    let rest : List C = kept_of files ++ newest_commands newest in
    let part : IsPartOf (mine ++ rest) (held.0 ++ held.1) = part_append mine held.0 rest held.1 (content_has content held.0 held.2) (all_held files newest held.1 held.3) in
    subst (λ (l : List C). IsPartOf l all) (sym (append_assoc mine (kept_of files) (newest_commands newest))) (subst (IsPartOf (mine ++ rest)) (sym held.4) part)
all_held (Gone commands ∷ files) newest all held = all_held files newest all held

among_in_front : (files image : List (ℕ × List ℕ)) (file : ℕ × List ℕ) → AreAmong files image → AreAmong files (file ∷ image)
among_in_front [] image file among = tt
among_in_front (first ∷ files) image file among = inr among

-- ---- what can be lost with a file's name
thrown_safe : {C : Type 0} (n : ℕ) (files : List (File C)) → AreSafe files → AreSafe (thrown n files)
thrown_safe n [] safe = tt
thrown_safe n (Gone commands ∷ files) safe = thrown_safe n files safe
thrown_safe n (There is_thrown own content ∷ files) safe =
    elim (own.number == n) as (λ b. AreSafe (if b then There true (name own.number Goes) content ∷ files else There is_thrown own content ∷ thrown n files)) [
      | true ↦ (inl refl, safe.1)
      | false ↦ (safe.0, thrown_safe n files safe.1)
    ]

begun_newest_safe : {C : Type 0} (change : World C → World C) → ((w : World C) → (change w).acknowledged ≡ w.acknowledged) → (newest : Option (Newest C)) → NewestSafe newest → NewestSafe (with_world change newest)
begun_newest_safe change same None safe = tt
begun_newest_safe {C} change same (Some file) safe = subst (λ (l : List C). (file.name.fate ≡ Stays) ⊎ (l ≡ [])) (sym (same file.world)) safe

pub begun_safe : {C : Type 0} (a : Archive C) (move : Move C) → AreSafe a.ended → NewestSafe a.newest → AreSafe (begun_by a move).ended × NewestSafe (begun_by a move).newest
begun_safe a (Making n) safe newest = (safe, inr refl)
begun_safe a (Throwing n) safe newest = (thrown_safe n a.ended safe, newest)
begun_safe a Syncing safe newest = (safe, newest)
begun_safe a Asking safe newest = (safe, newest)
begun_safe a (Recording call) safe newest = (safe, begun_newest_safe _ (λ w. refl) a.newest newest)

module _ {S C : Type 0} (shows : List ℕ → S → Type 0) (accepts : S → C → Type 0) (next : S → C → S) (first : S)
    (R : List ℕ → List C → Type 0) (has : (b : List ℕ) (commands : List C) → AreAccepted accepts next first commands → shows b (fold next first commands) → R b commands) where
  abbrev joined : List (List C) → List C
  joined lists = flat_map (λ (own : List C). own) lists

  -- the image's files without those that were thrown away, and the commands of each
  pub record Parts (ended : List (File C)) (newest : Option (Newest C)) (image : List (ℕ × List ℕ)) : Type 0 where
    pub files : List (ℕ × List ℕ)
    pub among : AreAmong files image
    pub commands : List (List C)
    pub each : AllZip (λ (file : ℕ × List ℕ) (own : List C). R file.1 own) files commands
    pub held : MayHoldAll ended newest (joined commands)

  no_lack : {A : Type 0} (fate : Fate) → MayLack fate → fate ≡ Stays → A
  no_lack fate may is = absurd (never may is)
    where
      never : MayLack fate → fate ≡ Stays → ⊥
      never may is = subst MayLack is may

  -- what a file has that a recorder knew
  record Has (world : World C) (bytes : List ℕ) : Type 0 where
    commands : List C
    are : MayHold world commands
    by : R bytes commands

  world_has : (world : World C) (bytes : List ℕ) → WorldIs accepts next first world → ShowsWorld shows next first world bytes → Has world bytes
  world_has world bytes is shown = ⊎_elim
      (λ s. record { commands = world.acknowledged; are = inl refl; by = has bytes world.acknowledged is.acknowledged s })
      (λ s. record {
        commands = world.acknowledged ++ world.in_doubt;
        are = inr refl;
        by = has bytes (world.acknowledged ++ world.in_doubt) (join accepts next first first world.acknowledged world.in_doubt is.acknowledged is.in_doubt)
            (subst (shows bytes) (sym (fold-append next first world.acknowledged world.in_doubt)) s);
      })
      shown

  newest_parts : (newest : Option (Newest C)) (image : List (ℕ × List ℕ)) → NewestSafe newest → NewestIs accepts next first newest → ShowsNewest shows next first newest image → Parts [] newest image
  newest_parts None [] safe is shown = record { files = []; among = tt; commands = []; each = tt; held = refl }
  newest_parts None (file ∷ image) safe is shown = absurd shown
  newest_parts (Some newest) [] safe is shown =
      record { files = []; among = tt; commands = []; each = tt; held = inl (⊎_elim (λ stays. no_lack newest.name.fate shown stays) (λ none. sym none) safe) }
  newest_parts (Some newest) (file ∷ []) safe is shown =
      let own : Has newest.world file.1 = world_has newest.world file.1 is shown.1 in
      record { files = file ∷ []; among = inl (refl, tt); commands = own.commands ∷ []; each = (own.by, tt); held = subst (MayHold newest.world) (sym (append-nil own.commands)) own.are }
  newest_parts (Some newest) (file ∷ other ∷ image) safe is shown = absurd shown

  -- a file that was thrown away, or isn't ours
  skipped : (ended : List (File C)) (newest : Option (Newest C)) (image : List (ℕ × List ℕ)) (file : ℕ × List ℕ) → Parts ended newest image → Parts ended newest (file ∷ image)
  skipped ended newest image file parts =
      record { files = parts.files; among = among_in_front parts.files image file parts.among; commands = parts.commands; each = parts.each; held = parts.held }

  -- that isn't there
  none_shown : {A : Type 0} (fate : Fate) (commands : List A) → MayLack fate → (fate ≡ Stays) ⊎ (commands ≡ []) → commands ≡ []
  none_shown fate commands may safe = ⊎_elim (λ is. no_lack fate may is) (λ none. none) safe

  kept_safe : (fate : Fate) (commands : List C) → (false ≡ true) ⊎ ((fate ≡ Stays) ⊎ (commands ≡ [])) → (fate ≡ Stays) ⊎ (commands ≡ [])
  kept_safe fate commands safe = ⊎_elim (λ is. absurd (never is)) (λ kept. kept) safe
    where
      never : false ≡ true → ⊥
      never is = cc

  may_be_empty : (content : Content C) → commands_in content ≡ [] → MayBeIn content []
  may_be_empty (Whole bytes commands) none = sym none
  may_be_empty (Known world) none = inl (sym none)
  may_be_empty (Foreign bytes) none = refl

  lacking : (ended : List (File C)) (name : Name) (content : Content C) (newest : Option (Newest C)) (image : List (ℕ × List ℕ)) → commands_in content ≡ [] → Parts ended newest image
      → Parts (There false name content ∷ ended) newest image
  lacking ended name content newest image none parts = record {
    files = parts.files;
    among = parts.among;
    commands = parts.commands;
    each = parts.each;
    held = ([], joined parts.commands, may_be_empty content none, parts.held, refl);
  }

  -- that is there
  there : (ended : List (File C)) (name : Name) (content : Content C) (newest : Option (Newest C)) (image : List (ℕ × List ℕ)) (file : ℕ × List ℕ) (commands : List C) → MayBeIn content commands
      → R file.1 commands → Parts ended newest image → Parts (There false name content ∷ ended) newest (file ∷ image)
  there ended name content newest image file commands may by parts = record {
    files = file ∷ parts.files;
    among = inl (refl, parts.among);
    commands = commands ∷ parts.commands;
    each = (by, parts.each);
    held = (commands, joined parts.commands, may, parts.held, refl);
  }

  present : (ended : List (File C)) (name : Name) (content : Content C) (newest : Option (Newest C)) (image : List (ℕ × List ℕ)) (file : ℕ × List ℕ) → ContentIs accepts next first content
      → ShowsContent shows next first content file.1 → Parts ended newest image → Parts (There false name content ∷ ended) newest (file ∷ image)
  present ended name (Whole bytes commands) newest image file is shown parts =
      there ended name (Whole bytes commands) newest image file commands refl (has file.1 commands is shown.1) parts
  present ended name (Known world) newest image file is shown parts =
      let own : Has world file.1 = world_has world file.1 is shown in
      there ended name (Known world) newest image file own.commands own.are own.by parts
  present ended name (Foreign bytes) newest image file is shown parts = lacking ended name (Foreign bytes) newest (file ∷ image) refl (skipped ended newest image file parts)

  -- what was thrown away, or is gone
  passed : (file : File C) (ended : List (File C)) (newest : Option (Newest C)) (image : List (ℕ × List ℕ))
      → ((all : List C) → MayHoldAll ended newest all → MayHoldAll (file ∷ ended) newest all) → Parts ended newest image → Parts (file ∷ ended) newest image
  passed file ended newest image same parts =
      record { files = parts.files; among = parts.among; commands = parts.commands; each = parts.each; held = same (joined parts.commands) parts.held }

  parts_of : (files : List (File C)) (newest : Option (Newest C)) (image : List (ℕ × List ℕ)) → AreSafe files → NewestSafe newest → FilesAre accepts next first files → NewestIs accepts next first newest
      → ShowsFiles shows next first files newest image → Parts files newest image
  parts_of [] newest image safe newest_safe are is shown = newest_parts newest image newest_safe is shown
  parts_of (Gone commands ∷ files) newest image safe newest_safe are is shown =
      passed (Gone commands) files newest image (λ all held. held) (parts_of files newest image safe newest_safe are is shown)
  parts_of (There true name content ∷ files) newest [] safe newest_safe are is shown =
      passed (There true name content) files newest [] (λ all held. held) (parts_of files newest [] safe.1 newest_safe are.1 is shown.1)
  parts_of (There true name content ∷ files) newest (file ∷ image) safe newest_safe are is shown =
      passed (There true name content) files newest (file ∷ image) (λ all held. held) (⊎_elim
      (λ here. skipped files newest image file (parts_of files newest image safe.1 newest_safe are.1 is here.2))
      (λ later. parts_of files newest (file ∷ image) safe.1 newest_safe are.1 is later.1)
      shown)
  parts_of (There false name content ∷ files) newest [] safe newest_safe are is shown =
      lacking files name content newest [] (none_shown name.fate (commands_in content) shown.0 (kept_safe name.fate (commands_in content) safe.0))
      (parts_of files newest [] safe.1 newest_safe are.1 is shown.1)
  parts_of (There false name content ∷ files) newest (file ∷ image) safe newest_safe are is shown = ⊎_elim
      (λ here. present files name content newest image file are.0 here.1 (parts_of files newest image safe.1 newest_safe are.1 is here.2))
      (λ later.
      lacking files name content newest (file ∷ image) (none_shown name.fate (commands_in content) later.0 (kept_safe name.fate (commands_in content) safe.0))
      (parts_of files newest (file ∷ image) safe.1 newest_safe are.1 is later.1))
      shown

  -- the commands of all files, with all that were acknowledged
  pub record Shown (a : Archive C) (image : List (ℕ × List ℕ)) : Type 0 where
    pub parts : Parts a.ended a.newest image
    pub has_all : IsPartOf (acknowledged a) (joined parts.commands)

  pub shown_parts : (a : Archive C) (image : List (ℕ × List ℕ)) → AreSafe a.ended → NewestSafe a.newest → AccountIs accepts next first a → ShowsArchive shows next first a image → Shown a image
  shown_parts a image safe newest_safe is shown =
      let parts : Parts a.ended a.newest image = parts_of a.ended a.newest image safe newest_safe is.files is.newest shown in
      record { parts = parts; has_all = all_held a.ended a.newest (joined parts.commands) parts.held }
