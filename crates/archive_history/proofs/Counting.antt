-- From file after file to the commands.
use Rattle.std.specs.Prelude.{◌≡◌, ◌⊎◌, ℕ, true, false, List, [], ◌∷◌, ◌++◌, Option, None, Some, refl}
use Rattle.std.specs.List.{fold, flat_map}
use Rattle.std.proofs.Common.{inl, inr, ⊎_elim, sym, subst, append_assoc}
use Rattle.std.proofs.lemmas.List.{append-nil}
use Rattle.std.proofs.lemmas.List.Sums.{fold-append}
use Rattle.archive_folder.specs.declared.names.Name.{Name}
use Rattle.archive_folder.specs.declared.names.Fate.{Fate}
use Rattle.archive_folder.specs.declared.names.Fate.TheVariants.{Stays}
use Rattle.archive_folder.specs.Names.{MayLack}
use Rattle.history.specs.World.{World}
use Rattle.history.specs.History.{ShowsWorld}
use Rattle.history.specs.Commands.{IsPartOf}
use Rattle.archive_history.specs.Archive.{File, There, Gone, Content, Whole, Known, Foreign, commands_in, Newest, Archive, kept_of, newest_commands, MayHold, MayBeIn, MayHoldAll}
use Rattle.archive_history.specs.Showing.{ShowsContent, ShowsNewest, ShowsFiles, ShowsArchive, AreShown, AreAmong, ShowsCommands}
use Rattle.archive_history.specs.Accounted.{AreSafe, NewestSafe}
use Rattle.archive_history.proofs.Accounts.{part_append, part_self}

among_in_front : (files image : List (ℕ × List ℕ)) (file : ℕ × List ℕ) → AreAmong files image → AreAmong files (file ∷ image)
among_in_front [] image file among = tt
among_in_front (first ∷ files) image file among = inr among

-- what is held has all that was acknowledged
part_back : {A : Type 0} (xs ys zs : List A) → IsPartOf xs ys → IsPartOf xs (ys ++ zs)
part_back xs ys zs part = subst (λ (l : List _). IsPartOf l (ys ++ zs)) (append-nil xs) (part_append xs ys [] zs part tt)

held_has : {C : Type 0} (world : World C) (commands : List C) → MayHold world commands → IsPartOf world.acknowledged commands
held_has {C} world commands held = ⊎_elim
    (λ is. subst (IsPartOf world.acknowledged) (sym is) (part_self world.acknowledged))
    (λ is. subst (IsPartOf world.acknowledged) (sym is) (part_back world.acknowledged world.acknowledged world.in_doubt (part_self world.acknowledged)))
    held

content_has : {C : Type 0} (content : Content C) (commands : List C) → MayBeIn content commands → IsPartOf (commands_in content) commands
content_has (Whole bytes commands') commands is = subst (IsPartOf commands') (sym is) (part_self commands')
content_has (Known world) commands held = held_has world commands held
content_has (Foreign bytes) commands is = tt

all_held : {C : Type 0} (files : List (File C)) (newest : Option (Newest C)) (all : List C) → MayHoldAll files newest all → IsPartOf (kept_of files ++ newest_commands newest) all
all_held [] None all held = tt
all_held [] (Some file) all held = held_has file.world all held
all_held (There true name content ∷ files) newest all held = all_held files newest all held
all_held {C} (There false name content ∷ files) newest all held =
    let mine = commands_in content in
    let rest : List C = kept_of files ++ newest_commands newest in
    let part : IsPartOf (mine ++ rest) (held.0 ++ held.1) = part_append mine held.0 rest held.1 (content_has content held.0 held.2) (all_held files newest held.1 held.3) in
    subst (λ (l : List C). IsPartOf l all) (sym (append_assoc mine (kept_of files) (newest_commands newest))) (subst (IsPartOf (mine ++ rest)) (sym held.4) part)
all_held (Gone commands ∷ files) newest all held = all_held files newest all held

module _ {S C : Type 0} (shows : List ℕ → S → Type 0) (next : S → C → S) (first : S) where
  abbrev joined : List (List C) → List C
  joined lists = flat_map (λ (list : List C). list) lists

  -- the image's files without those that were thrown away, and what they show
  record Parts (ended : List (File C)) (newest : Option (Newest C)) (image : List (ℕ × List ℕ)) : Type 0 where
    files : List (ℕ × List ℕ)
    among : AreAmong files image
    shown : List (List C)
    each : AreShown shows next first files shown
    held : MayHoldAll ended newest (joined shown)

  no_lack : {A : Type 0} (fate : Fate) → MayLack fate → fate ≡ Stays → A
  no_lack fate may is = absurd (never may is)
    where
      never : MayLack fate → fate ≡ Stays → ⊥
      never may is = subst MayLack is may

  -- what is shown of a file that has a recorder's world
  record Shown (world : World C) (bytes : List ℕ) : Type 0 where
    commands : List C
    are : MayHold world commands
    by : shows bytes (fold next first commands)

  world_shown : (world : World C) (bytes : List ℕ) → ShowsWorld shows next first world bytes → Shown world bytes
  world_shown world bytes shown = ⊎_elim
      (λ s. record { commands = world.acknowledged; are = inl refl; by = s })
      (λ s. record { commands = world.acknowledged ++ world.in_doubt; are = inr refl; by = subst (shows bytes) (sym (fold-append next first world.acknowledged world.in_doubt)) s })
      shown

  newest_parts : (newest : Option (Newest C)) (image : List (ℕ × List ℕ)) → NewestSafe newest → ShowsNewest shows next first newest image → Parts [] newest image
  newest_parts None [] safe shown = record { files = []; among = tt; shown = []; each = tt; held = refl }
  newest_parts None (file ∷ image) safe shown = absurd shown
  newest_parts (Some newest) [] safe shown =
      record { files = []; among = tt; shown = []; each = tt; held = inl (⊎_elim (λ is. no_lack newest.name.fate shown is) (λ none. sym none) safe) }
  newest_parts (Some newest) (file ∷ []) safe shown =
      let known : Shown newest.world file.1 = world_shown newest.world file.1 shown.1 in
      record { files = file ∷ []; among = inl (refl, tt); shown = known.commands ∷ []; each = (known.by, tt); held = subst (MayHold newest.world) (sym (append-nil known.commands)) known.are }
  newest_parts (Some newest) (file ∷ other ∷ image) safe shown = absurd shown

  -- a file that was thrown away, or isn't ours
  skipped : (ended : List (File C)) (newest : Option (Newest C)) (image : List (ℕ × List ℕ)) (file : ℕ × List ℕ) → Parts ended newest image → Parts ended newest (file ∷ image)
  skipped ended newest image file parts =
      record { files = parts.files; among = among_in_front parts.files image file parts.among; shown = parts.shown; each = parts.each; held = parts.held }

  -- that isn't there
  none_shown : {A : Type 0} (fate : Fate) (commands : List A) → MayLack fate → (fate ≡ Stays) ⊎ (commands ≡ []) → commands ≡ []
  none_shown fate commands may safe = ⊎_elim (λ is. no_lack fate may is) (λ none. none) safe

  kept_safe : (fate : Fate) (commands : List C) → (false ≡ true) ⊎ ((fate ≡ Stays) ⊎ (commands ≡ [])) → (fate ≡ Stays) ⊎ (commands ≡ [])
  kept_safe fate commands safe = ⊎_elim (λ is. absurd (never is)) (λ kept. kept) safe
    where
      never : false ≡ true → ⊥
      never is = cc

  -- a file that held nothing
  may_be_empty : (content : Content C) → commands_in content ≡ [] → MayBeIn content []
  may_be_empty (Whole bytes commands) none = sym none
  may_be_empty (Known world) none = inl (sym none)
  may_be_empty (Foreign bytes) none = refl

  lacking : (ended : List (File C)) (name : Name) (content : Content C) (newest : Option (Newest C)) (image : List (ℕ × List ℕ)) → commands_in content ≡ [] → Parts ended newest image
      → Parts (There false name content ∷ ended) newest image
  lacking ended name content newest image none parts = record {
    files = parts.files;
    among = parts.among;
    shown = parts.shown;
    each = parts.each;
    held = ([], joined parts.shown, may_be_empty content none, parts.held, refl);
  }

  -- that is there
  shown_as : (ended : List (File C)) (name : Name) (content : Content C) (newest : Option (Newest C)) (image : List (ℕ × List ℕ)) (file : ℕ × List ℕ) (commands : List C) → MayBeIn content commands
      → shows file.1 (fold next first commands) → Parts ended newest image → Parts (There false name content ∷ ended) newest (file ∷ image)
  shown_as ended name content newest image file commands may by parts = record {
    files = file ∷ parts.files;
    among = inl (refl, parts.among);
    shown = commands ∷ parts.shown;
    each = (by, parts.each);
    held = (commands, joined parts.shown, may, parts.held, refl);
  }

  present : (ended : List (File C)) (name : Name) (content : Content C) (newest : Option (Newest C)) (image : List (ℕ × List ℕ)) (file : ℕ × List ℕ) → ShowsContent shows next first content file.1
      → Parts ended newest image → Parts (There false name content ∷ ended) newest (file ∷ image)
  present ended name (Whole bytes commands) newest image file shown parts = shown_as ended name (Whole bytes commands) newest image file commands refl shown.1 parts
  present ended name (Known world) newest image file shown parts =
      let known : Shown world file.1 = world_shown world file.1 shown in
      shown_as ended name (Known world) newest image file known.commands known.are known.by parts
  present ended name (Foreign bytes) newest image file shown parts = lacking ended name (Foreign bytes) newest (file ∷ image) refl (skipped ended newest image file parts)

  -- what was thrown away, or is gone
  passed : (file : File C) (ended : List (File C)) (newest : Option (Newest C)) (image : List (ℕ × List ℕ))
      → ((all : List C) → MayHoldAll ended newest all → MayHoldAll (file ∷ ended) newest all) → Parts ended newest image → Parts (file ∷ ended) newest image
  passed file ended newest image same parts =
      record { files = parts.files; among = parts.among; shown = parts.shown; each = parts.each; held = same (joined parts.shown) parts.held }

  parts_of : (files : List (File C)) (newest : Option (Newest C)) (image : List (ℕ × List ℕ)) → AreSafe files → NewestSafe newest → ShowsFiles shows next first files newest image → Parts files newest image
  parts_of [] newest image safe newest_safe shown = newest_parts newest image newest_safe shown
  parts_of (Gone commands ∷ files) newest image safe newest_safe shown = passed (Gone commands) files newest image (λ all held. held) (parts_of files newest image safe newest_safe shown)
  parts_of (There true name content ∷ files) newest [] safe newest_safe shown =
      passed (There true name content) files newest [] (λ all held. held) (parts_of files newest [] safe.1 newest_safe shown.1)
  parts_of (There true name content ∷ files) newest (file ∷ image) safe newest_safe shown =
      passed (There true name content) files newest (file ∷ image) (λ all held. held) (⊎_elim
      (λ here. skipped files newest image file (parts_of files newest image safe.1 newest_safe here.2))
      (λ later. parts_of files newest (file ∷ image) safe.1 newest_safe later.1)
      shown)
  parts_of (There false name content ∷ files) newest [] safe newest_safe shown =
      lacking files name content newest [] (none_shown name.fate (commands_in content) shown.0 (kept_safe name.fate (commands_in content) safe.0)) (parts_of files newest [] safe.1 newest_safe shown.1)
  parts_of (There false name content ∷ files) newest (file ∷ image) safe newest_safe shown = ⊎_elim
      (λ here. present files name content newest image file here.1 (parts_of files newest image safe.1 newest_safe here.2))
      (λ later.
      lacking files name content newest (file ∷ image) (none_shown name.fate (commands_in content) later.0 (kept_safe name.fate (commands_in content) safe.0)) (parts_of files newest (file ∷ image) safe.1 newest_safe later.1))
      shown

  pub shows_commands : (a : Archive C) (image : List (ℕ × List ℕ)) → AreSafe a.ended → NewestSafe a.newest → ShowsArchive shows next first a image → ShowsCommands shows next first a image
  shows_commands a image safe newest_safe shown =
      let parts : Parts a.ended a.newest image = parts_of a.ended a.newest image safe newest_safe shown in
      record {
        files = parts.files;
        among = parts.among;
        shown = parts.shown;
        each = parts.each;
        held = parts.held;
        has_all = all_held a.ended a.newest (joined parts.shown) parts.held;
      }
