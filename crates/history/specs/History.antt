-- What a call leaves of its disk, what is known after each step, and histories of such steps. Ours.
use Rattle.std.specs.Prelude.{◌≡◌, ℕ, true, false, if◌then◌else◌, List, [], ◌∷◌, ◌++◌, refl, ⊤}
use Rattle.std.specs.List.{fold}
use Rattle.std.proofs.Common.{sym, subst}
use Rattle.disk_model.specs.declared.disk.Disk.{Ghosts as DiskModel}
use Rattle.disk_model.specs.Image.{DiskState, IsImage}
use Rattle.disk_model.specs.Leaving.{LeavesOnly}
use Rattle.history.specs.Showing.{ShowsOnly, ShowsEither, IsAsBefore, Finds, StartsFrom}
use Rattle.history.specs.World.{World, Call, Opening, Staging, Committing, Flushing, Sealing, Reading, Step, Opened, Held, Kept, Flushed, Refused, Looked, Sealed, GivenBack, Faulted, Stopped, StoppedIn, start, happens, run, disk_after, now_in}

-- `first`: what the disk showed before the first step
module _ {S C : Type 0} (shows : List ℕ → S → Type 0) (next : S → C → S) (first : S) where
  -- the image shows what is acknowledged, without the group in doubt or with it
  abbrev pub ShowsWorld : World C → List ℕ → Type 0
  ShowsWorld w image = ShowsEither shows (now_in next first w) (fold next (now_in next first w) w.in_doubt) image

  -- each image of the disk shows it
  abbrev pub StandsIn : World C → DiskState → Type 0
  StandsIn w disk = (image : List ℕ) → IsImage disk image → ShowsWorld w image

module _ {S C : Type 0} (accepts : S → C → Type 0) (next : S → C → S) (first : S) where
  -- the command is accepted in the state that the waiting ones left
  abbrev pub Accepts : World C → C → Type 0
  Accepts w c = accepts (fold next (now_in next first w) w.held) c

  -- An opening comes first, and again after a fault, a stop, a sealing and a giving back.
  abbrev pub MayBegin : World C → Call C → Type 0
  MayBegin w Opening = w.is_open ≡ false
  MayBegin w (Staging c) = (w.is_open ≡ true) × Accepts w c
  MayBegin w (Committing c) = (w.is_open ≡ true) × Accepts w c
  MayBegin w Flushing = w.is_open ≡ true
  MayBegin w Sealing = w.is_open ≡ true
  MayBegin w Reading = ⊤

  abbrev pub MayCome : World C → Step C → Type 0
  MayCome w (Opened found) = MayBegin w Opening
  MayCome w (Held c) = MayBegin w (Staging c)
  MayCome w (Kept c) = MayBegin w (Committing c)
  MayCome w Flushed = MayBegin w Flushing
  MayCome w Sealed = MayBegin w Sealing
  MayCome w (Faulted call) = MayBegin w call
  MayCome w (StoppedIn call) = MayBegin w call
  MayCome w step = ⊤

module _ {D S C : Type 0} (model : DiskModel D) (shows : List ℕ → S → Type 0) (next : S → C → S) (first : S) where
  -- each image since the call began shows what is acknowledged
  abbrev pub LeavesSame : World C → D → D → Type 0
  LeavesSame w old new = LeavesOnly model old new (λ image. shows image (now_in next first w))

  -- or what is acknowledged, with the group
  abbrev pub LeavesEither : World C → List C → D → D → Type 0
  LeavesEither w group old new = LeavesOnly model old new (ShowsEither shows (now_in next first w) (fold next (now_in next first w) group))

  -- or what an image showed before
  abbrev pub LeavesAsBefore : D → D → Type 0
  LeavesAsBefore old new = LeavesOnly model old new (IsAsBefore shows (model.state old))

  -- What a call leaves at each moment, whatever it answers.
  abbrev pub Leaves : World C → Call C → D → D → Type 0
  Leaves w Opening old new = LeavesAsBefore old new
  Leaves w (Staging c) old new = LeavesSame w old new
  Leaves w (Committing c) old new = LeavesEither w (w.held ++ c ∷ []) old new
  Leaves w Flushing old new = LeavesEither w w.held old new
  Leaves w Sealing old new = LeavesSame w old new
  Leaves w Reading old new = LeavesAsBefore old new

module _ {D S C : Type 0} (model : DiskModel D) (shows : List ℕ → S → Type 0) (next : S → C → S) (first : S) where
  abbrev LeavesIt : World C → Call C → D → D → Type 0
  LeavesIt w call old new = Leaves model shows next first w call old new

  -- what the contract of a call says if it was answered, and what a stop leaves
  abbrev pub Meets : World C → Step C → D → D → Type 0
  Meets w (Opened found) old new = LeavesIt w Opening old new × Finds shows (model.state old) (model.state new) (fold next (now_in next first w) (if found then w.in_doubt else []))
  Meets w (Held c) old new = LeavesIt w (Staging c) old new
  Meets w (Kept c) old new = LeavesIt w (Committing c) old new × ShowsOnly shows (model.state new) (fold next (now_in next first w) (w.held ++ c ∷ []))
  Meets w Flushed old new = LeavesIt w Flushing old new × ShowsOnly shows (model.state new) (fold next (now_in next first w) w.held)
  Meets w (Refused c) old new = new ≡ old
  Meets w Looked old new = LeavesIt w Reading old new
  Meets w Sealed old new = LeavesIt w Sealing old new
  Meets w GivenBack old new = new ≡ old
  Meets w (Faulted call) old new = LeavesIt w call old new
  -- the disk then has one of its images as the contents, and no other image
  Meets w Stopped old new = (image : List ℕ) × IsImage (model.state old) image × StartsFrom image (model.state new)
  -- the same with an image that there was since the call began, if the call could have ended with the disk `ended`
  Meets w (StoppedIn call) old new =
      (ended : D) × model.is_honest ended × LeavesIt w call old ended
      × (image : List ℕ) × model.images_since ended (model.moment old) image × StartsFrom image (model.state new)

module _ {D S C : Type 0} (model : DiskModel D) (shows : List ℕ → S → Type 0) (accepts : S → C → Type 0) (next : S → C → S) (first : S) where
  abbrev pub IsStep : World C → Step C → D → D → Type 0
  IsStep w step old new = MayCome accepts next first w step × Meets model shows next first w step old new × model.is_honest new

  -- each step after those before it
  abbrev pub AreSteps : World C → D → List (Step C × D) → Type 0
  AreSteps w old [] = ⊤
  AreSteps w old ((step, new) ∷ steps) = IsStep w step old new × AreSteps (happens w step) new steps

  -- At first every image of the disk shows `first`. The steps lead into this world, and to the disk `now`.
  pub record IsHistory (disk : D) (steps : List (Step C × D)) (w : World C) (now : D) : Type 0 where
    pub begins : ShowsOnly shows (model.state disk) first
    pub are : AreSteps start disk steps
    pub leads : run start steps ≡ w
    pub ends : disk_after disk steps ≡ now

-- steps, and then more
pub run-append : {C D : Type 0} (w : World C) (xs ys : List (Step C × D)) → run w (xs ++ ys) ≡ run (run w xs) ys
run-append w [] ys = refl
run-append w ((step, disk) ∷ xs) ys = run-append (happens w step) xs ys

pub disk_after-append : {C D : Type 0} (old : D) (xs ys : List (Step C × D)) → disk_after old (xs ++ ys) ≡ disk_after (disk_after old xs) ys
disk_after-append old [] ys = refl
disk_after-append old ((step, new) ∷ xs) ys = disk_after-append new xs ys

module _ {D S C : Type 0} (model : DiskModel D) (shows : List ℕ → S → Type 0) (accepts : S → C → Type 0) (next : S → C → S) (first : S) where
  pub steps-append : (w : World C) (old : D) (xs ys : List (Step C × D)) → AreSteps model shows accepts next first w old xs
      → AreSteps model shows accepts next first (run w xs) (disk_after old xs) ys
      → AreSteps model shows accepts next first w old (xs ++ ys)
  steps-append w old [] ys p q = q
  steps-append w old ((step, new) ∷ xs) ys p q = (p.0, steps-append (happens w step) new xs ys p.1 q)

  -- one more step
  pub step_more : (w : World C) (old mid new : D) (xs : List (Step C × D)) (step : Step C) → AreSteps model shows accepts next first w old xs → disk_after old xs ≡ mid
      → IsStep model shows accepts next first (run w xs) step mid new
      → AreSteps model shows accepts next first w old (xs ++ (step, new) ∷ [])
  step_more w old mid new xs step p same q =
      steps-append w old xs ((step, new) ∷ []) p
      (subst (λ (d : D). IsStep model shows accepts next first (run w xs) step d new) (sym same) q, tt)
