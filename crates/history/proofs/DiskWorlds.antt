-- In every history the disk shows what the world says.
use Rattle.std.specs.Prelude.{◌≡◌, ◌⊎◌, ℕ, ◌≤◌, Bool, true, false, if◌then◌else◌, List, [], ◌∷◌, ◌++◌, length, take, refl}
use Rattle.std.specs.List.{fold}
use Rattle.std.proofs.Common.{inl, inr, ⊎_elim, sym, ◌∙◌, ap, subst, arith}
use Rattle.std.proofs.lemmas.List.{append-nil, take_at, take_all}
use Rattle.std.proofs.lemmas.List.Sums.{fold-append}
use Rattle.disk_model.specs.declared.disk.Disk.{Ghosts as DiskModel}
use Rattle.disk_model.specs.Image.{DiskState, IsImage}
use Rattle.disk_model.specs.Torn.{settled_image}
use Rattle.disk_model.specs.Clock.{HasImages}
use Rattle.history.specs.Showing.{ShowsOne, ShowsOnly, IsAsBefore, Finds, StartsFrom}
use Rattle.history.specs.World.{World, Call, Opening, Staging, Committing, Flushing, Sealing, Reading, Step, Opened, Held, Kept, Flushed, Refused, Looked, Sealed, GivenBack, Faulted, Stopped, StoppedIn, group_in_doubt, begun, start, run, happens, disk_after, commands, now_in, acknowledged, acknowledged_since, sessions, sessions_of}
use Rattle.history.specs.Commands.{AreAccepted, IsPartOf, IsMadeOf, ShowsFirst}
use Rattle.history.specs.History.{ShowsWorld, StandsIn, Accepts, MayBegin, MayCome, Leaves, Meets, AreSteps, IsHistory}
use Rattle.history.proofs.CommandLists.{accepted-append, part-append, made-without, made-with}
use Rattle.history.proofs.Worlds.{not_open, grows}

module _ {D S C : Type 0} (model : DiskModel D) (shows : List ℕ → S → Type 0) (accepts : S → C → Type 0) (next : S → C → S)
    (laws : (disk : D) → model.is_honest disk → HasImages (model.state disk) (model.moment disk) (model.images_since disk)) (first : S) where
  abbrev now_of : World C → S
  now_of w = now_in next first w

  behind : (w : World C) (group : List C) → fold next (now_of w) group ≡ fold next first (w.acknowledged ++ group)
  behind w group = sym (fold-append next first w.acknowledged group)

  abbrev Shown : World C → List ℕ → Type 0
  Shown w image = ShowsWorld shows next first w image

  abbrev Stands : World C → DiskState → Type 0
  Stands w disk = StandsIn shows next first w disk

  from_before : (w : World C) (old : DiskState) (image : List ℕ) → Stands w old → IsAsBefore shows old image → Shown w image
  from_before w old image stands is = ⊎_elim (λ s. inl (is.keeps _ s)) (λ s. inr (is.keeps _ s)) (stands is.source is.was)

  -- each moment of a call
  pub in_call : (w : World C) (call : Call C) (old new : D) → Stands w (model.state old) → Leaves model shows next first w call old new
      → (image : List ℕ) → model.images_since new (model.moment old) image → Shown (begun w call) image
  in_call w Opening old new stands leaves image since = from_before w (model.state old) image stands (leaves.each image since)
  in_call w (Staging c) old new stands leaves image since = inl (leaves.each image since)
  in_call w (Committing c) old new stands leaves image since = leaves.each image since
  in_call w Flushing old new stands leaves image since = leaves.each image since
  in_call w Sealing old new stands leaves image since = inl (leaves.each image since)
  in_call w Reading old new stands leaves image since = from_before w (model.state old) image stands (leaves.each image since)

  later : (w : World C) (call : Call C) (old new : D) → Leaves model shows next first w call old new → model.moment old ≤ model.moment new
  later w Opening old new leaves = leaves.later
  later w (Staging c) old new leaves = leaves.later
  later w (Committing c) old new leaves = leaves.later
  later w Flushing old new leaves = leaves.later
  later w Sealing old new leaves = leaves.later
  later w Reading old new leaves = leaves.later

  at_end : (w : World C) (call : Call C) (old new : D) → Stands w (model.state old) → model.is_honest new → Leaves model shows next first w call old new → Stands (begun w call) (model.state new)
  at_end w call old new stands honest leaves image is = in_call w call old new stands leaves image ((laws new honest).counts_now (model.moment old) image (later w call old new leaves) is)

  restarted : (w : World C) (image : List ℕ) (disk : DiskState) → Shown w image → StartsFrom image disk → Stands w disk
  restarted w image disk shown starts other is = subst (Shown w) (sym (settled_image disk disk.contents other starts.settled is ∙ starts.contents)) shown

  grown : (w : World C) (group : List C) (disk : DiskState) → ShowsOnly shows disk (fold next (now_of w) group) → (image : List ℕ) → IsImage disk image → shows image (fold next first (w.acknowledged ++ group))
  grown w group disk only image is = subst (shows image) (behind w group) (only image is)

  -- each step
  pub stands_one : (w : World C) (step : Step C) (old new : D) → Stands w (model.state old) → model.is_honest new
      → Meets model shows next first w step old new → Stands (happens w step) (model.state new)
  stands_one w (Opened found) old new stands honest meets = λ image is. inl (grown w (if found then w.in_doubt else []) (model.state new) meets.1.only image is)
  stands_one w (Held c) old new stands honest meets = at_end w (Staging c) old new stands honest meets
  stands_one w (Kept c) old new stands honest meets = λ image is. inl (grown w (w.held ++ c ∷ []) (model.state new) meets.1 image is)
  stands_one w Flushed old new stands honest meets = λ image is. inl (grown w w.held (model.state new) meets.1 image is)
  stands_one w (Refused c) old new stands honest meets = subst (λ (d : D). Stands w (model.state d)) (sym meets) stands
  stands_one w Looked old new stands honest meets = at_end w Reading old new stands honest meets
  stands_one w Sealed old new stands honest meets = at_end w Sealing old new stands honest meets
  stands_one w GivenBack old new stands honest meets = subst (λ (d : D). Stands w (model.state d)) (sym meets) stands
  stands_one w (Faulted call) old new stands honest meets = at_end w call old new stands honest meets
  stands_one w Stopped old new stands honest meets = restarted w meets.0 (model.state new) (stands meets.0 meets.1) meets.2
  stands_one w (StoppedIn call) old new stands honest meets = restarted (begun w call) meets.3 (model.state new) (in_call w call old meets.0 stands meets.2 meets.3 meets.4) meets.5

  pub stands_all : (w : World C) (old : D) (steps : List (Step C × D)) → Stands w (model.state old) → AreSteps model shows accepts next first w old steps → Stands (run w steps) (model.state (disk_after old steps))
  stands_all w old [] stands are = stands
  stands_all w old ((step, new) ∷ steps) stands are = stands_all (happens w step) new steps (stands_one w step old new stands are.0.2 are.0.1) are.1

  -- all commands were accepted
  pub record Accepted (w : World C) : Type 0 where
    pub settled : AreAccepted accepts next first w.acknowledged
    pub in_doubt : AreAccepted accepts next (now_of w) w.in_doubt
    pub waiting : AreAccepted accepts next (now_of w) w.held

  one_more : (w : World C) (c : C) → Accepted w → Accepts accepts next first w c → AreAccepted accepts next (now_of w) (w.held ++ c ∷ [])
  one_more w c before is = accepted-append accepts next (now_of w) w.held (c ∷ []) before.waiting (is, tt)

  accepted_group : (w : World C) (call : Call C) → Accepted w → MayBegin accepts next first w call → AreAccepted accepts next (now_of w) (group_in_doubt w call)
  accepted_group w Opening before may = before.in_doubt
  accepted_group w (Staging c) before may = before.in_doubt
  accepted_group w (Committing c) before may = one_more w c before may.1
  accepted_group w Flushing before may = before.waiting
  accepted_group w Sealing before may = before.in_doubt
  accepted_group w Reading before may = before.in_doubt

  pub accepted_call : (w : World C) (call : Call C) → Accepted w → MayBegin accepts next first w call → Accepted (begun w call)
  accepted_call w call before may = record { settled = before.settled; in_doubt = accepted_group w call before may; waiting = tt }

  accepted_commit : (w : World C) (group : List C) → Accepted w → AreAccepted accepts next (now_of w) group → AreAccepted accepts next first (w.acknowledged ++ group)
  accepted_commit w group before are = accepted-append accepts next first w.acknowledged group before.settled are

  accepted_one : (w : World C) (step : Step C) → Accepted w → MayCome accepts next first w step → Accepted (happens w step)
  accepted_one w (Opened true) before may = record { settled = accepted_commit w w.in_doubt before before.in_doubt; in_doubt = tt; waiting = tt }
  accepted_one w (Opened false) before may = record { settled = accepted_commit w [] before tt; in_doubt = tt; waiting = tt }
  accepted_one w (Held c) before may = record { settled = before.settled; in_doubt = before.in_doubt; waiting = one_more w c before may.1 }
  accepted_one w (Kept c) before may = record { settled = accepted_commit w (w.held ++ c ∷ []) before (one_more w c before may.1); in_doubt = tt; waiting = tt }
  accepted_one w Flushed before may = record { settled = accepted_commit w w.held before before.waiting; in_doubt = tt; waiting = tt }
  accepted_one w (Refused c) before may = before
  accepted_one w Looked before may = before
  accepted_one w (Faulted call) before may = accepted_call w call before may
  accepted_one w (StoppedIn call) before may = accepted_call w call before may
  accepted_one w Sealed before may = record { settled = before.settled; in_doubt = before.in_doubt; waiting = tt }
  accepted_one w GivenBack before may = record { settled = before.settled; in_doubt = before.in_doubt; waiting = tt }
  accepted_one w Stopped before may = record { settled = before.settled; in_doubt = before.in_doubt; waiting = tt }

  pub accepted_all : (w : World C) (old : D) (steps : List (Step C × D)) → Accepted w → AreSteps model shows accepts next first w old steps → Accepted (run w steps)
  accepted_all w old [] before are = before
  accepted_all w old ((step, new) ∷ steps) before are = accepted_all (happens w step) new steps (accepted_one w step before are.0.0) are.1

  -- before the first opening nothing is acknowledged
  none_before : (w : World C) (old : D) (steps : List (Step C × D)) → w.is_open ≡ false → AreSteps model shows accepts next first w old steps → acknowledged_since w steps ≡ []
  none_before w old [] shut are = refl
  none_before w old ((Opened found, new) ∷ steps) shut are = refl
  none_before w old ((Held c, new) ∷ steps) shut are = not_open w.is_open shut are.0.0.0
  none_before w old ((Kept c, new) ∷ steps) shut are = not_open w.is_open shut are.0.0.0
  none_before w old ((Flushed, new) ∷ steps) shut are = not_open w.is_open shut are.0.0
  none_before w old ((Refused c, new) ∷ steps) shut are = none_before w new steps shut are.1
  none_before w old ((Looked, new) ∷ steps) shut are = none_before w new steps shut are.1
  none_before w old ((Sealed, new) ∷ steps) shut are = none_before (happens w Sealed) new steps refl are.1
  none_before w old ((GivenBack, new) ∷ steps) shut are = none_before (happens w GivenBack) new steps refl are.1
  none_before w old ((Faulted call, new) ∷ steps) shut are = none_before (begun w call) new steps refl are.1
  none_before w old ((Stopped, new) ∷ steps) shut are = none_before (happens w Stopped) new steps refl are.1
  none_before w old ((StoppedIn call, new) ∷ steps) shut are = none_before (begun w call) new steps refl are.1

  -- what is acknowledged is made of the sessions, and has what the answers said
  made_all : (disk : D) (steps : List (Step C × D)) → AreSteps model shows accepts next first start disk steps
      → IsPartOf (acknowledged start steps) (run start steps).acknowledged × IsMadeOf (sessions start steps) (run start steps).acknowledged
  made_all disk steps are =
      let growth = grows start steps in
      let all : growth.rest ≡ (run start steps).acknowledged =
      sym (growth.is ∙ growth.split ∙ ap (λ (l : List C). l ++ growth.rest) (none_before start disk steps refl are)) in
      (subst (λ (l : List C). IsPartOf (acknowledged start steps) l) (sym growth.is) growth.has, subst (IsMadeOf (sessions start steps)) all growth.made)

  part_in_front : (xs ys zs : List C) → IsPartOf xs ys → IsPartOf xs (ys ++ zs)
  part_in_front xs ys zs p = subst (λ (l : List C). IsPartOf l (ys ++ zs)) (append-nil xs) (part-append xs ys [] zs p tt)

  -- what `ShowsFirst` says of these commands
  abbrev IsFirst : List (Step C × D) → World C → List ℕ → List C → Type 0
  IsFirst steps w image some = shows image (fold next first some) × AreAccepted accepts next first some × IsPartOf (acknowledged start steps) some × IsMadeOf (sessions_of steps w) some

  shows_first : (steps : List (Step C × D)) (w : World C) (image : List ℕ) (k : ℕ) (some : List C) → take k (commands w) ≡ some → IsFirst steps w image some → ShowsFirst shows accepts next first steps w image
  shows_first steps w image k some is p =
      let taken : IsFirst steps w image (take k (commands w)) = subst (IsFirst steps w image) (sym is) p in
      record { k = k; shown = taken.0; accepted = taken.1; has = taken.2; made = taken.3 }

  -- what an image shows in a world that has acknowledged the same as these steps
  shown_first : (disk : D) (steps : List (Step C × D)) (w : World C) (image : List ℕ) → AreSteps model shows accepts next first start disk steps
      → w.acknowledged ≡ (run start steps).acknowledged → Accepted w → Shown w image → ShowsFirst shows accepts next first steps w image
  shown_first disk steps w image are same accepted shown =
      let made : IsPartOf (acknowledged start steps) w.acknowledged × IsMadeOf (sessions start steps) w.acknowledged =
      subst (λ (l : List C). IsPartOf (acknowledged start steps) l × IsMadeOf (sessions start steps) l) (sym same) (made_all disk steps are) in
      ⊎_elim
      (λ s. shows_first steps w image (length w.acknowledged) w.acknowledged
      (take_at w.acknowledged w.in_doubt (length w.acknowledged) refl)
      (s, accepted.settled, made.0, made-without (sessions start steps) w.acknowledged w.in_doubt made.1))
      (λ s. shows_first steps w image (length (commands w)) (commands w)
      (take_all (length (commands w)) (commands w) (omega arith)) (
        subst (shows image) (behind w w.in_doubt) s,
        accepted_commit w w.in_doubt accepted accepted.in_doubt,
        part_in_front (acknowledged start steps) w.acknowledged w.in_doubt made.0,
        made-with (sessions start steps) w.acknowledged w.in_doubt made.1,
      ))
      shown

  -- while the recording is open nothing is in doubt
  settled_while_open : (w : World C) (old : D) (steps : List (Step C × D)) → (w.is_open ≡ true → w.in_doubt ≡ [])
      → AreSteps model shows accepts next first w old steps → (run w steps).is_open ≡ true → (run w steps).in_doubt ≡ []
  settled_while_open w old [] settled are = settled
  settled_while_open w old ((Opened found, new) ∷ steps) settled are = settled_while_open (happens w (Opened found)) new steps (λ is. refl) are.1
  settled_while_open w old ((Held c, new) ∷ steps) settled are = settled_while_open (happens w (Held c)) new steps (λ is. settled are.0.0.0) are.1
  settled_while_open w old ((Kept c, new) ∷ steps) settled are = settled_while_open (happens w (Kept c)) new steps (λ is. refl) are.1
  settled_while_open w old ((Flushed, new) ∷ steps) settled are = settled_while_open (happens w Flushed) new steps (λ is. refl) are.1
  settled_while_open w old ((Refused c, new) ∷ steps) settled are = settled_while_open w new steps settled are.1
  settled_while_open w old ((Looked, new) ∷ steps) settled are = settled_while_open w new steps settled are.1
  settled_while_open w old ((step, new) ∷ steps) settled are = settled_while_open (happens w step) new steps (λ is. not_open false refl is) are.1

  stood : (disk : D) (steps : List (Step C × D)) → ShowsOnly shows (model.state disk) first → AreSteps model shows accepts next first start disk steps → Stands (run start steps) (model.state (disk_after disk steps))
  stood disk steps begins are = stands_all start disk steps (λ image is. inl (begins image is)) are

  -- what a history says of the world and the disk that it leads to
  pub record Ends (disk : D) (steps : List (Step C × D)) (w : World C) (now : D) : Type 0 where
    pub stands : Stands w (model.state now)
    pub accepted : Accepted w
    pub settled : w.is_open ≡ true → w.in_doubt ≡ []
    pub behind : (v : World C) (image : List ℕ) → v.acknowledged ≡ w.acknowledged → Accepted v → Shown v image → ShowsFirst shows accepts next first steps v image

  ends : (disk : D) (steps : List (Step C × D)) (w : World C) (now : D) → IsHistory model shows accepts next first disk steps w now → Ends disk steps w now
  ends disk steps w now history =
      subst (λ (v : World C). Ends disk steps v now) history.leads (subst (λ (d : D). Ends disk steps (run start steps) d) history.ends (record {
        stands = stood disk steps history.begins history.are;
        accepted = accepted_all start disk steps (record { settled = tt; in_doubt = tt; waiting = tt }) history.are;
        settled = settled_while_open start disk steps (λ shut. refl) history.are;
        behind = λ v image same. shown_first disk steps v image history.are same;
      }))

  pub at_end_law : (disk now : D) (w : World C) (steps : List (Step C × D)) → IsHistory model shows accepts next first disk steps w now
      → (image : List ℕ) → IsImage (model.state now) image → ShowsFirst shows accepts next first steps w image
  at_end_law disk now w steps history image is =
      let end = ends disk steps w now history in
      end.behind w image refl end.accepted (end.stands image is)

  pub any_moment_law : (disk now : D) (w : World C) (steps : List (Step C × D)) → IsHistory model shows accepts next first disk steps w now
      → (call : Call C) (new : D) → MayBegin accepts next first w call → Leaves model shows next first w call now new
      → (image : List ℕ) → model.images_since new (model.moment now) image → ShowsFirst shows accepts next first steps (begun w call) image
  any_moment_law disk now w steps history call new may leaves image since =
      let end = ends disk steps w now history in
      end.behind (begun w call) image refl (accepted_call w call end.accepted may) (in_call w call now new end.stands leaves image since)

  pub while_open_law : (disk now : D) (w : World C) (steps : List (Step C × D)) → IsHistory model shows accepts next first disk steps w now
      → w.is_open ≡ true → ShowsOnly shows (model.state now) (now_of w)
  while_open_law disk now w steps history is image here =
      let end = ends disk steps w now history in
      ⊎_elim (λ s. s) (λ s. subst (λ (group : List C). shows image (fold next (now_of w) group)) (end.settled is) s) (end.stands image here)

  pub opening_law : (disk now : D) (w : World C) (steps : List (Step C × D)) → ShowsOne shows → IsHistory model shows accepts next first disk steps w now
      → (new : DiskState) (found : S) → Finds shows (model.state now) new found → (found ≡ now_of w) ⊎ (found ≡ fold next first (commands w))
  opening_law disk now w steps one history new found finds =
      let end = ends disk steps w now history in
      ⊎_elim (λ s. inl (one finds.source _ _ finds.shown s)) (λ s. inr (one finds.source _ _ finds.shown s ∙ behind w w.in_doubt)) (end.stands finds.source finds.was)

  pub opened_law : (w : World C) (old new : D) (found : S) → ShowsOne shows → Stands w (model.state old)
      → Leaves model shows next first w Opening old new → Finds shows (model.state old) (model.state new) found
      → (was : Bool) × (found ≡ now_of (happens w (Opened was))) × Meets model shows next first w (Opened was) old new
  opened_law w old new found one stands leaves finds =
      ⊎_elim (λ s. step false (one finds.source _ _ finds.shown s)) (λ s. step true (one finds.source _ _ finds.shown s)) (stands finds.source finds.was)
    where
      step : (was : Bool) → found ≡ fold next (now_of w) (if was then w.in_doubt else [])
          → (was : Bool) × (found ≡ now_of (happens w (Opened was))) × Meets model shows next first w (Opened was) old new
      step was is = (
        was,
        is ∙ behind w (if was then w.in_doubt else []),
        (leaves, subst (λ (here : S). Finds shows (model.state old) (model.state new) here) is finds),
      )
