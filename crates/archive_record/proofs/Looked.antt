-- Looks at a disk, which write nothing, as steps of a history.
use Rattle.std.specs.Prelude.{ℕ, Bool, List}
use Rattle.disk_model.specs.declared.disk.Disk.{Ghosts as DiskModel}
use Rattle.disk_model.specs.Clock.{HasImages}
use Rattle.disk_model.specs.Image.{IsImage}
use Rattle.disk_model.specs.Leaving.{LeavesOnly, and_then, weakened}
use Rattle.history.specs.Showing.{IsAsBefore}
use Rattle.history.specs.World.{World, Looked, Opening, Opened, Faulted}
use Rattle.history.specs.History.{IsStep, StandsIn}

module _ {D : Type 0} (model : DiskModel D) where
  -- every image since the old disk is one of it
  abbrev pub OnlyLooks : D → D → Type 0
  OnlyLooks old new = LeavesOnly model old new (IsImage (model.state old))

  abbrev pub Images : D → Type 0
  Images disk = HasImages (model.state disk) (model.moment disk) (model.images_since disk)

  image_before : (old mid : D) → Images mid → OnlyLooks old mid → (image : List ℕ) → IsImage (model.state mid) image → IsImage (model.state old) image
  image_before old mid laws looks image is = looks.each image (laws.counts_now (model.moment old) image looks.later is)

  pub looks_on : (old mid new : D) → Images mid → OnlyLooks old mid → OnlyLooks mid new → OnlyLooks old new
  looks_on old mid new laws first second =
      and_then model old mid new (IsImage (model.state old)) (IsImage (model.state mid)) (IsImage (model.state old)) first second
      (λ image is. is) (image_before old mid laws first)

  module _ {S C : Type 0} (shows : List ℕ → S → Type 0) (accepts : S → C → Type 0) (next : S → C → S) (first : S) where
    itself : (old : D) (image : List ℕ) → IsImage (model.state old) image → IsAsBefore shows (model.state old) image
    itself old image is = record { source = image; was = is; keeps = λ s shown. shown }

    abbrev AsBefore : D → D → Type 0
    AsBefore old new = LeavesOnly model old new (IsAsBefore shows (model.state old))

    as_before : (old mid new : D) → Images mid → OnlyLooks old mid → AsBefore mid new → AsBefore old new
    as_before old mid new laws looks leaves =
        and_then model old mid new (IsImage (model.state old)) (IsAsBefore shows (model.state mid)) (IsAsBefore shows (model.state old)) looks leaves
        (itself old)
        (λ image is. record { source = is.source; was = image_before old mid laws looks is.source is.was; keeps = is.keeps })

    pub stands_on : (w : World C) (old mid : D) → Images mid → OnlyLooks old mid → StandsIn shows next first w (model.state old) → StandsIn shows next first w (model.state mid)
    stands_on w old mid laws looks stands = λ image is. stands image (image_before old mid laws looks image is)

    pub looked : (w : World C) (old new : D) → model.is_honest new → OnlyLooks old new → IsStep model shows accepts next first w Looked old new
    looked w old new honest looks = (tt, weakened model old new (IsImage (model.state old)) (IsAsBefore shows (model.state old)) looks (itself old), honest)

    -- an opening that failed after them
    pub looked_then : (w v : World C) (old mid new : D) → Images mid → OnlyLooks old mid → IsStep model shows accepts next first v (Faulted Opening) mid new
        → IsStep model shows accepts next first w Looked old new
    looked_then w v old mid new laws looks step = (tt, as_before old mid new laws looks step.1, step.2)

    -- an opening that succeeded after them
    pub opened_then : (w : World C) (found : Bool) (old mid new : D) → Images mid → OnlyLooks old mid → IsStep model shows accepts next first w (Opened found) mid new
        → IsStep model shows accepts next first w (Opened found) old new
    opened_then w found old mid new laws looks step =
        let (may, (leaves, finds), honest) = step in
        (may, (as_before old mid new laws looks leaves, record { only = finds.only; source = finds.source; was = image_before old mid laws looks finds.source finds.was; shown = finds.shown }), honest)
