-- What an opening leaves of its disk. Ours.
use Rattle.std.specs.Prelude.{◌≡◌, ◌≢◌, ℕ, List}
use Rattle.disk_model.specs.declared.disk.Disk.{Ghosts as DiskModel}
use Rattle.disk_model.specs.Frame.{Frame}
use Rattle.disk_model.specs.Image.{IsSettled}
use Rattle.disk_model.specs.Leaving.{LeavesOnly}
use Rattle.ogg_page.specs.declared.fault.PageFault.{PageFault}
use Rattle.gate_file.specs.Found.{IsDamagedAt}

-- It succeeds. Every image since it began has P.
pub record Opens {D : Type 0} (model : DiskModel D) (P : List ℕ → Type 0) (disk opened : D) : Type 0 where
  pub any_moment : model.is_honest disk → LeavesOnly model disk opened P
  pub frame : Frame model disk opened ⊥

-- It fails, and gives the disk back. Only the fault `of_disk` blames the disk, and `of_page` makes those of a page that
-- is damaged. After every other the contents are as they were.
pub record GivesBack {D F : Type 0} (model : DiskModel D) (P : List ℕ → Type 0) (of_disk : F) (of_page : ℕ → PageFault → F)
    (disk : D) (fault : F) (back : D) : Type 0 where
  pub any_moment : model.is_honest disk → LeavesOnly model disk back P
  pub frame : Frame model disk back (fault ≡ of_disk)
  pub untouched : fault ≢ of_disk → model.is_honest disk → (model.state back).contents ≡ (model.state disk).contents
  pub damaged : (offset : ℕ) (why : PageFault) → fault ≡ of_page offset why → model.is_honest disk
      → IsDamagedAt (model.state disk).contents offset why
  pub settled : (offset : ℕ) (why : PageFault) → fault ≡ of_page offset why → model.is_honest disk → IsSettled (model.state back)
