-- What calls of a folder lead to.
use Rattle.std.specs.Prelude.{◌≡◌, ◌≢◌, ◌⊎◌, ℕ, List, [], Option, None, Some, refl, ⊤}
use Rattle.std.proofs.Common.{⊎_elim, sym, ◌∙◌, ap, subst, inl, inr}
use Rattle.disk_model.specs.declared.disk.Disk.{Ghosts as DiskModel}
use Rattle.disk_model.specs.Image.{settled}
use Rattle.archive_folder.specs.declared.names.Name.{Name}
use Rattle.archive_folder.specs.Names.{AreBelow, made, removed, synced}
use Rattle.archive_folder.specs.NamesLaws.{left_of_made, left_of_removed}
use Rattle.archive_folder.specs.Clock.{HasLeft, NamesPass, MayHaveMade, MayHaveRemoved}
use Rattle.archive_history.specs.Archive.{archive, Newest, Archive, names, Making, Throwing, Asking, Syncing, with_world, begun_by, recorded, ended_with, set_aside, with_new, Resolves}
use Rattle.archive_history.specs.History.{Point, point, with_disk, Called, Recorded, Ended, SetAside, Resumed, IfNewest, IsAnswer, IsOnly, IsSafe, Resumes, IsNotNewest, LeavesNames, IsEmptyAt}
use Rattle.archive_folder.specs.declared.names.Fate.TheVariants.{Stays}
use Rattle.history.specs.World.{Step, Flushed, Sealed, happens}
use Rattle.history.specs.History.{IsStep}
use Rattle.archive_history.specs.Leading.{Leads, by_event, and_then}
use Rattle.archive_history.proofs.Events.{making, failed_making, throwing, failed_throwing, same_files, same_account}
use Rattle.archive_history.proofs.Starting.{aside_names, ended_names, recorded_names, resumed_names}
use Rattle.archive_history.proofs.NewFiles.{at_same, at_other, settled_resolve, new_names, leaves_names, any_empty}

module _ {F D S C : Type 0} (names_in : F → List Name) (moment : F → ℕ) (left_since : F → ℕ → List ℕ → Type 0) (model : DiskModel D)
    (shows : List ℕ → S → Type 0) (accepts : S → C → Type 0) (next : S → C → S) (first : S) where
  abbrev LeadsTo : Archive C → Point F D → Archive C → Point F D → Type 0
  LeadsTo a old b new = Leads names_in moment left_since model shows accepts next first a old b new

  abbrev Left : F → Type 0
  Left old = HasLeft (names_in old) (moment old) (left_since old)

  abbrev Passes : F → F → List Name → Type 0
  Passes old new bound = NamesPass (moment old) (moment new) (left_since old) (left_since new) bound

  leaves_same : (a : Archive C) (old new : F) → names_in old ≡ names a → Left old → Passes old new (names_in old) → LeavesNames moment left_since (names a) old new
  leaves_same a old new same laws time =
      subst (λ (ns : List Name). LeavesNames moment left_since ns old new) same (leaves_names names_in moment left_since (names_in old) old new laws time (λ left is. is))

  -- a call that changes no name and no file
  pub asked_leads : (a : Archive C) (disks : ℕ → D) (old new : F) → names_in old ≡ names a → Left old → Passes old new (names_in old) → names_in new ≡ names_in old
      → LeadsTo a (point old disks) a (point new disks)
  asked_leads a disks old new same laws time kept =
      by_event names_in moment left_since model shows accepts next first a a (Called Asking) (point old disks) (point new disks)
      (tt, tt, (leaves_same a old new same laws time, refl), same_account a, tt) (kept ∙ same)

  -- a sync of the folder, whatever it answers
  pub synced_leads : (a b : Archive C) (disks : ℕ → D) (old new : F) → names_in old ≡ names a → Left old → Passes old new (names_in old) → Resolves a b → names_in new ≡ names b
      → LeadsTo a (point old disks) b (point new disks)
  synced_leads a b disks old new same laws time are now =
      by_event names_in moment left_since model shows accepts next first a b (Called Syncing) (point old disks) (point new disks)
      (tt, tt, (leaves_same a old new same laws time, refl), are, tt) now

  -- a step of the newest file's recorder
  pub recorded_leads : (a : Archive C) (file : Newest C) (disks : ℕ → D) (folder : F) (step : Step C) (disk : D) → a.newest ≡ Some file → names_in folder ≡ names a → IsAnswer step
      → IsSafe file.name.fate (happens file.world step) → IsStep model shows accepts next first file.world step (disks file.name.number) disk
      → LeadsTo a (point folder disks) (recorded a step) (point folder (with_disk file.name.number disk disks))
  recorded_leads a file disks folder step disk is same answer safe it =
      let n = file.name.number in
      let after = with_disk n disk disks in
      let here : IsStep model shows accepts next first file.world step (disks n) (after n) = subst (λ (d : D). IsStep model shows accepts next first file.world step (disks n) d) (sym (at_same n disk disks)) it in
      by_event names_in moment left_since model shows accepts next first a (recorded a step) (Recorded step) (point folder disks) (point folder after) (
        subst (λ (newest : Option (Newest C)). IfNewest newest (λ (file : Newest C). IsAnswer step × IsStep model shows accepts next first file.world step (disks file.name.number) (after file.name.number)
            × ((m : ℕ) → m ≢ file.name.number → after m ≡ disks m) × IsSafe file.name.fate (happens file.world step))) (sym is)
            (answer, here, (λ m other. at_other n m disk disks other), safe),
        refl,
        refl,
      )
      (same ∙ sym (recorded_names a step))

  pub ended_leads : (a : Archive C) (file : Newest C) (disks : ℕ → D) (folder : F) (bytes : List ℕ) → a.newest ≡ Some file → names_in folder ≡ names a → file.world.in_doubt ≡ []
      → IsOnly bytes (model.state (disks file.name.number)) → LeadsTo a (point folder disks) (ended_with a bytes) (point folder disks)
  ended_leads a file disks folder bytes is same none only =
      by_event names_in moment left_since model shows accepts next first a (ended_with a bytes) (Ended bytes) (point folder disks) (point folder disks) (
        subst (λ (newest : Option (Newest C)). IfNewest newest (λ (file : Newest C). IsOnly bytes (model.state (disks file.name.number)) × (file.world.in_doubt ≡ []))) (sym is) (only, none),
        refl,
        refl,
      )
      (same ∙ sym (ended_names a bytes))

  -- what waits is kept, the file is sealed, and it has ended
  pub sealed_leads : (a : Archive C) (file : Newest C) (disks : ℕ → D) (folder : F) (disk : D) (bytes : List ℕ) → a.newest ≡ Some file → names_in folder ≡ names a → file.name.fate ≡ Stays
      → IsStep model shows accepts next first file.world Flushed (disks file.name.number) disk → IsStep model shows accepts next first (happens file.world Flushed) Sealed disk disk
      → IsOnly bytes (model.state disk)
      → (b : Archive C) × (b.newest ≡ None) × (names_in folder ≡ names b) × LeadsTo a (point folder disks) b (point folder (with_disk file.name.number disk disks))
  sealed_leads a file disks folder disk bytes is same stays flush seal only =
      let n = file.name.number in
      let after = with_disk n disk disks in
      let file1 : Newest C = record { name = file.name; world = happens file.world Flushed } in
      let file2 : Newest C = record { name = file.name; world = happens (happens file.world Flushed) Sealed } in
      let a1 = recorded a Flushed in
      let a2 = recorded a1 Sealed in
      let is1 : a1.newest ≡ Some file1 = ap (λ (newest : Option (Newest C)). with_world (λ w. happens w Flushed) newest) is in
      let is2 : a2.newest ≡ Some file2 = ap (λ (newest : Option (Newest C)). with_world (λ w. happens w Sealed) newest) is1 in
      let here : after n ≡ disk = at_same n disk disks in
      let same1 : names_in folder ≡ names a1 = same ∙ sym (recorded_names a Flushed) in
      let same2 : names_in folder ≡ names a2 = same1 ∙ sym (recorded_names a1 Sealed) in
      let first_lead = recorded_leads a file disks folder Flushed disk is same tt (inl stays) flush in
      let second_lead : LeadsTo a1 (point folder after) a2 (point folder after) = by_event names_in moment left_since model shows accepts next first a1 a2 (Recorded Sealed) (point folder after) (point folder after) (
        subst (λ (newest : Option (Newest C)). IfNewest newest (λ (file : Newest C). IsAnswer {C = C} Sealed × IsStep model shows accepts next first file.world Sealed (after file.name.number) (after file.name.number)
            × ((m : ℕ) → m ≢ file.name.number → after m ≡ after m) × IsSafe file.name.fate (happens file.world Sealed))) (sym is1)
            (tt, subst (λ (d : D). IsStep model shows accepts next first (happens file.world Flushed) Sealed d d) (sym here) seal, (λ m other. refl), inl stays),
        refl,
        refl,
      )
      same2 in
      let third_lead = ended_leads a2 file2 after folder bytes is2 same2 refl (subst (λ (d : D). IsOnly bytes (model.state d)) (sym here) only) in
      let b = ended_with a2 bytes in (
        b,
        refl,
        same2 ∙ sym (ended_names a2 bytes),
        and_then names_in moment left_since model shows accepts next first a a2 b (point folder disks) (point folder after) (point folder after)
            (and_then names_in moment left_since model shows accepts next first a a1 a2 (point folder disks) (point folder after) (point folder after) first_lead second_lead) third_lead,
      )

  pub aside_leads : (a : Archive C) (file : Newest C) (here : Point F D) → a.newest ≡ Some file → names_in here.folder ≡ names a → LeadsTo a here (set_aside a) here
  aside_leads a file here is same =
      by_event names_in moment left_since model shows accepts next first a (set_aside a) SetAside here here
      (subst (λ (newest : Option (Newest C)). IfNewest newest (λ (file : Newest C). ⊤)) (sym is) tt, refl, refl) (same ∙ sym (aside_names a))

  pub resumed_leads : (a b : Archive C) (here : Point F D) → Resumes a b → names_in here.folder ≡ names a → LeadsTo a here b here
  resumed_leads a b here is same =
      by_event names_in moment left_since model shows accepts next first a b Resumed here here (is, refl) (same ∙ sym (resumed_names a b is))

  pub threw_leads : (a b : Archive C) (n : ℕ) (disks : ℕ → D) (old new : F) → IsNotNewest n a.newest → names_in old ≡ names a → Left old → Passes old new (removed n (names_in old))
      → Resolves (begun_by a (Throwing n)) b → names_in new ≡ names b → LeadsTo a (point old disks) b (point new disks)
  threw_leads a b n disks old new other same laws time are now =
      let bound : removed n (names_in old) ≡ names (begun_by a (Throwing n)) = ap (λ (ns : List Name). removed n ns) same ∙ sym (throwing a n other) in
      let leaves : LeavesNames moment left_since (names (begun_by a (Throwing n))) old new =
      subst (λ (ns : List Name). LeavesNames moment left_since ns old new) bound
      (leaves_names names_in moment left_since (removed n (names_in old)) old new laws time (left_of_removed (names_in old) n)) in
      by_event names_in moment left_since model shows accepts next first a b (Called (Throwing n)) (point old disks) (point new disks) (tt, other, (leaves, refl), are, tt) now

  made_leads : (a b : Archive C) (n : ℕ) (disks after : ℕ → D) (old mid : F) → a.newest ≡ None → AreBelow n (names_in old) → names_in old ≡ names a → Left old
      → Passes old mid (made n (names_in old)) → ((m : ℕ) → m ≢ n → after m ≡ disks m) → Resolves (begun_by a (Making n)) b
      → IsEmptyAt names_in moment left_since model shows accepts next first b.newest (model.state (after n)) → names_in mid ≡ names b
      → LeadsTo a (point old disks) b (point mid after)
  made_leads a b n disks after old mid none below same laws time others are empty now =
      let bound : made n (names_in old) ≡ names (begun_by a (Making n)) = ap (λ (ns : List Name). made n ns) same ∙ sym (making a n none) in
      let leaves : LeavesNames moment left_since (names (begun_by a (Making n))) old mid =
      subst (λ (ns : List Name). LeavesNames moment left_since ns old mid) bound
      (leaves_names names_in moment left_since (made n (names_in old)) old mid laws time (left_of_made (names_in old) n)) in
      by_event names_in moment left_since model shows accepts next first a b (Called (Making n)) (point old disks) (point mid after)
      (tt, (none, subst (AreBelow n) same below), (leaves, others), are, empty) now

  module _ (a : Archive C) (n : ℕ) (disks : ℕ → D) (old : F) (none : a.newest ≡ None) (below : AreBelow n (names_in old)) (same : names_in old ≡ names a) (laws : Left old) where
    -- a making that succeeded
    made_it : (disk : D) (mid : F) → model.state disk ≡ settled [] → names_in mid ≡ made n (names_in old) → Passes old mid (made n (names_in old))
        → LeadsTo a (point old disks) (begun_by a (Making n)) (point mid (with_disk n disk disks))
    made_it disk mid empty after_make time =
        made_leads a (begun_by a (Making n)) n disks (with_disk n disk disks) old mid none below same laws time (λ m other. at_other n m disk disks other)
        (same_files a.ended, (refl, tt, refl))
        (any_empty names_in moment left_since model shows accepts next first (begun_by a (Making n)).newest (model.state (with_disk n disk disks n)) (ap (λ (d : D). model.state d) (at_same n disk disks) ∙ empty))
        (after_make ∙ ap (λ (ns : List Name). made n ns) same ∙ sym (making a n none))

    named : (mid : F) → names_in mid ≡ made n (names_in old) → names_in mid ≡ names (begun_by a (Making n))
    named mid after_make = after_make ∙ ap (λ (ns : List Name). made n ns) same ∙ sym (making a n none)

    pub begun_leads : (disk : D) (mid new : F) → Left mid → model.state disk ≡ settled [] → names_in mid ≡ made n (names_in old) → names_in new ≡ synced (names_in mid)
        → Passes old mid (made n (names_in old)) → Passes mid new (names_in mid) → LeadsTo a (point old disks) (with_new n a) (point new (with_disk n disk disks))
    begun_leads disk mid new laws_mid empty after_make after_sync make_time sync_time =
        and_then names_in moment left_since model shows accepts next first a (begun_by a (Making n)) (with_new n a) (point old disks) (point mid (with_disk n disk disks)) (point new (with_disk n disk disks))
        (made_it disk mid empty after_make make_time)
        (synced_leads (begun_by a (Making n)) (with_new n a) (with_disk n disk disks) mid new (named mid after_make) laws_mid sync_time (settled_resolve a.ended, (refl, tt, refl))
        (after_sync ∙ ap synced after_make ∙ ap (λ (ns : List Name). synced (made n ns)) same ∙ new_names a n none))

    -- after a fault no file is written: one that may be there is left as it is
    abbrev pub LeadsSomewhere : F → Type 0
    LeadsSomewhere new = (b : Archive C) × (after : ℕ → D) × (b.newest ≡ None) × LeadsTo a (point old disks) b (point new after)

    aside : (b : Archive C) (newest : Option (Newest C)) (after : ℕ → D) (new : F) → b.newest ≡ newest → names_in new ≡ names b → LeadsTo a (point old disks) b (point new after) → LeadsSomewhere new
    aside b None after new is now leads = (b, after, is, leads)
    aside b (Some file) after new is now leads = (
      set_aside b,
      after,
      refl,
      and_then names_in moment left_since model shows accepts next first a b (set_aside b) (point old disks) (point new after) (point new after) leads
          (by_event names_in moment left_since model shows accepts next first b (set_aside b) SetAside (point new after) (point new after)
          (subst (λ (newest : Option (Newest C)). IfNewest newest (λ (file : Newest C). ⊤)) (sym is) tt, refl, refl) (now ∙ sym (aside_names b))),
    )

    pub not_made_leads : (new : F) → Passes old new (made n (names_in old))
        → (names_in new ≡ names_in old) ⊎ (MayHaveMade n (names_in old) (names_in new) × ((disk : D) × (model.state disk ≡ settled []))) → LeadsSomewhere new
    not_made_leads new time left = ⊎_elim
        (λ kept. (
          archive a.ended None,
          disks,
          refl,
          made_leads a (archive a.ended None) n disks disks old new none below same laws time (λ m other. refl) (same_files a.ended, tt) tt
              (kept ∙ same ∙ ap (λ (newest : Option (Newest C)). names (archive a.ended newest)) none),
        ))
        (λ may.
        let as_account : MayHaveMade n (names a) (names_in new) = subst (λ (ns : List Name). MayHaveMade n ns (names_in new)) same may.0 in
        let b = failed_making a n (names_in new) none (inr as_account) in
        let after = with_disk n may.1.0 disks in
        aside b.0 b.0.newest after new refl b.2
        (made_leads a b.0 n disks after old new none below same laws time (λ m other. at_other n m may.1.0 disks other) b.1
        (any_empty names_in moment left_since model shows accepts next first b.0.newest (model.state (after n)) (ap (λ (d : D). model.state d) (at_same n may.1.0 disks) ∙ may.1.1)) b.2))
        left

    pub not_synced_leads : (disk : D) (mid after new : F) → Left mid → Left after → model.state disk ≡ settled [] → names_in mid ≡ made n (names_in old) → names_in after ≡ names_in mid → names_in new ≡ names_in after
        → Passes old mid (made n (names_in old)) → Passes mid after (names_in mid) → Passes after new (names_in after) → LeadsSomewhere new
    not_synced_leads disk mid after new laws_mid laws_after empty after_make kept back make_time sync_time back_time =
        let b = begun_by a (Making n) in
        let now = with_disk n disk disks in
        let there = named mid after_make in
        aside b b.newest now new refl (back ∙ kept ∙ there)
        (and_then names_in moment left_since model shows accepts next first a b b (point old disks) (point after now) (point new now)
        (and_then names_in moment left_since model shows accepts next first a b b (point old disks) (point mid now) (point after now) (made_it disk mid empty after_make make_time)
        (synced_leads b b now mid after there laws_mid sync_time (same_account b) (kept ∙ there)))
        (asked_leads b now after new (kept ∙ there) laws_after back_time back))
