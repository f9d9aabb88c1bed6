-- What calls on a disk leave, whenever a stop comes.
use Rattle.std.specs.Prelude.{◌⊎◌, ℕ, ◌≤◌, List}
use Rattle.std.proofs.Common.{inl, inr, ⊎_elim, arith}
use Rattle.disk_model.specs.Image.{DiskState, IsImage}
use Rattle.disk_model.specs.Clock.{Elapses}
use Rattle.disk_model.specs.declared.disk.Disk.{Ghosts as DiskModel}

-- every image since the disk was the old one has the property P
pub record LeavesOnly {D : Type 0} (model : DiskModel D) (old new : D) (P : List ℕ → Type 0) : Type 0 where
  pub later : model.moment old ≤ model.moment new
  pub each : (image : List ℕ) → model.images_since new (model.moment old) image → P image
  -- for calls that began earlier
  pub before : (t : ℕ) (image : List ℕ) → t ≤ model.moment old → model.images_since new t image → model.images_since old t image ⊎ P image

module _ {D : Type 0} (model : DiskModel D) where
  -- before the first call
  pub started : (old : D) (P : List ℕ → Type 0) → ((image : List ℕ) → model.images_since old (model.moment old) image → P image) → LeavesOnly model old old P
  started old P here = record { later = omega arith; each = here; before = λ t image le since. inl since }

  -- another call, whose images have P
  pub goes_on : (old mid new : D) (disk : DiskState) (P : List ℕ → Type 0) → LeavesOnly model old mid P
      → Elapses model.moment model.images_since mid new disk → ((image : List ℕ) → IsImage disk image → P image)
      → LeavesOnly model old new P
  goes_on old mid new disk P so_far time here = record {
    later = omega (arith, so_far.later, time.later);
    each = λ image since. ⊎_elim (so_far.each image) (here image) (time.nothing_else (model.moment old) image so_far.later since);
    before = λ t image le since. ⊎_elim (so_far.before t image le) (λ now. inr (here image now)) (time.nothing_else t image (omega (arith, le, so_far.later)) since);
  }

  -- some calls, and then others
  pub and_then : (old mid new : D) (P Q R : List ℕ → Type 0) → LeavesOnly model old mid P → LeavesOnly model mid new Q
      → ((image : List ℕ) → P image → R image) → ((image : List ℕ) → Q image → R image) → LeavesOnly model old new R
  and_then old mid new P Q R first second p q = record {
    later = omega (arith, first.later, second.later);
    each = λ image since. ⊎_elim (λ was. p image (first.each image was)) (q image) (second.before (model.moment old) image first.later since);
    before = λ t image le since. ⊎_elim (λ was. ⊎_elim inl (λ is. inr (p image is)) (first.before t image le was)) (λ is. inr (q image is)) (second.before t image (omega (arith, le, first.later)) since);
  }

  pub weakened : (old new : D) (P R : List ℕ → Type 0) → LeavesOnly model old new P → ((image : List ℕ) → P image → R image) → LeavesOnly model old new R
  weakened old new P R leaves p = record {
    later = leaves.later;
    each = λ image since. p image (leaves.each image since);
    before = λ t image le since. ⊎_elim inl (λ is. inr (p image is)) (leaves.before t image le since);
  }
