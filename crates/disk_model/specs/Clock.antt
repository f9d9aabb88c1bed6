-- Moments, and the images since a moment.
use Rattle.std.specs.Prelude.{◌⊎◌, ℕ, ◌<◌, ◌≤◌, ◌^◌, List}
use Rattle.std.proofs.Common.{inl, inr, ⊎_elim, arith}
use Rattle.disk_model.specs.Image.{DiskState, IsImage}

-- What holds at each moment of what a stop may leave: of its state, of the moment, and of the images since each
-- moment.
pub record HasImages (disk : DiskState) (moment : ℕ) (since : ℕ → List ℕ → Type 0) : Type 0 where
  -- the contents are an image
  pub contents_is_image : IsImage disk disk.contents
  -- this moment is one of those since an earlier one
  pub counts_now : (t : ℕ) (image : List ℕ) → t ≤ moment → IsImage disk image → since t image
  -- since this moment there is no other
  pub only_now : (image : List ℕ) → since moment image → IsImage disk image
  -- what was since a moment was since each earlier one
  pub since_earlier : (t u : ℕ) (image : List ℕ) → t ≤ u → since u image → since t image
  -- a disk is at most 2^63 - 1 bytes long
  pub fits : disk.greatest < 2 ^ 63

-- From one moment to another. Since a moment up to the first there are the images that there were, and those of the
-- bound.
pub record TimePasses (before now : ℕ) (past since : ℕ → List ℕ → Type 0) (bound : DiskState) : Type 0 where
  pub later : before ≤ now
  pub nothing_else : (t : ℕ) (image : List ℕ) → t ≤ before → since t image → past t image ⊎ IsImage bound image
  pub keeps : (t : ℕ) (image : List ℕ) → t ≤ before → past t image → since t image

-- time passes from the old disk to the new one, with no other images than those of the bound
abbrev pub Elapses : {D : Type 0} → (D → ℕ) → (D → ℕ → List ℕ → Type 0) → D → D → DiskState → Type 0
Elapses moment images_since old new bound = TimePasses (moment old) (moment new) (images_since old) (images_since new) bound

-- two calls, whose images are those of one bound
pub time_adds_up : {D : Type 0} (moment : D → ℕ) (images_since : D → ℕ → List ℕ → Type 0) (old mid new : D) (first second bound : DiskState) → Elapses moment images_since old mid first → Elapses moment images_since mid new second
    → ((image : List ℕ) → IsImage first image → IsImage bound image) → ((image : List ℕ) → IsImage second image → IsImage bound image)
    → Elapses moment images_since old new bound
time_adds_up moment images_since old mid new first second bound a b in_first in_second = record {
  later = omega (arith, a.later, b.later);
  nothing_else = λ t image le since. ⊎_elim (λ was. ⊎_elim inl (λ is. inr (in_first image is)) (a.nothing_else t image le was)) (λ is. inr (in_second image is))
      (b.nothing_else t image (omega (arith, le, a.later)) since);
  keeps = λ t image le past. b.keeps t image (omega (arith, le, a.later)) (a.keeps t image le past);
}
