-- Looks at a disk, one after the other.
use Rattle.std.specs.Prelude.{ℕ, List, Result, Ok, Err, IfOk, IfErr}
use Rattle.disk_model.specs.declared.disk.Disk.{Ghosts as DiskModel}
use Rattle.disk_model.specs.Clock.{HasImages}
use Rattle.disk_model.specs.Image.{IsImage}
use Rattle.disk_model.specs.Leaving.{LeavesOnly, and_then}

module _ {D : Type 0} (model : DiskModel D) where
  -- every image since the old disk is one of it
  abbrev pub OnlyLooks : D → D → Type 0
  OnlyLooks old new = LeavesOnly model old new (IsImage (model.state old))

  looks_on : (old mid new : D) → HasImages (model.state mid) (model.moment mid) (model.images_since mid) → OnlyLooks old mid → OnlyLooks mid new → OnlyLooks old new
  looks_on old mid new laws first second =
      and_then model old mid new (IsImage (model.state old)) (IsImage (model.state mid)) (IsImage (model.state old)) first second
      (λ image is. is) (λ image is. first.each image (laws.counts_now (model.moment old) image first.later is))

  pub ok_looks : {T E : Type 0} (result : Result (D × T) E) (old mid : D) → (model.is_honest old → OnlyLooks old mid) → (model.is_honest old → model.is_honest mid)
      → (model.is_honest mid → HasImages (model.state mid) (model.moment mid) (model.images_since mid))
      → IfOk result (λ x. model.is_honest mid → OnlyLooks mid x.0) → IfOk result (λ x. model.is_honest old → OnlyLooks old x.0)
  ok_looks (Ok x) old mid first stays laws second = λ honest. looks_on old mid x.0 (laws (stays honest)) (first honest) (second (stays honest))
  ok_looks (Err e) old mid first stays laws second = tt

  pub err_looks : {T E : Type 0} (result : Result T (E × D)) (old mid : D) → (model.is_honest old → OnlyLooks old mid) → (model.is_honest old → model.is_honest mid)
      → (model.is_honest mid → HasImages (model.state mid) (model.moment mid) (model.images_since mid))
      → IfErr result (λ x. model.is_honest mid → OnlyLooks mid x.1) → IfErr result (λ x. model.is_honest old → OnlyLooks old x.1)
  err_looks (Ok x) old mid first stays laws second = tt
  err_looks (Err e) old mid first stays laws second = λ honest. looks_on old mid e.1 (laws (stays honest)) (first honest) (second (stays honest))
