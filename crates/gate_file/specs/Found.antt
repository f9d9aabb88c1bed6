-- What a `Found` shows.
use Rattle.std.specs.Prelude.{◌≡◌, ◌≢◌, ℕ, ◌+◌, ◌<◌, ◌^◌, List, length, take, Bool, true, slice_index, Err}
use Rattle.std.specs.List.{AllByRecursion}
use Rattle.disk_model.specs.declared.disk.Disk.{Ghosts as DiskModel}
use Rattle.disk_model.specs.Image.{DiskState, IsSettled}
use Rattle.ogg_page.specs.Page.{Page as PageValue, IsPage, bytes_of_pages}
use Rattle.ogg_page.specs.Reading.{page_at}
use Rattle.ogg_page.specs.Pages.{BeginsWithPages}
use Rattle.ogg_page.specs.Window.{LentAt}
use Rattle.ogg_page.specs.declared.fault.PageFault.{PageFault}
use Rattle.gate_file.specs.Commit.{capture, IsTail}
use Rattle.gate_file.specs.Gate.{EndsAt}
use Rattle.ogg_page.specs.declared.visiting.Visit.{Visit}
use Rattle.gate_file.specs.Visiting.{AreShown}

-- the disk, the end of its committed bytes, how many bytes follow, and whether the first of these is closed
pub record FoundState (D : Type 0) : Type 0 where
  pub disk : D
  pub end : ℕ
  pub tail : ℕ
  pub closed : Bool

abbrev pub found_state : {D : Type 0} → D → ℕ → ℕ → Bool → FoundState D
found_state disk end tail closed = record { disk = disk; end = end; tail = tail; closed = closed }

-- the committed bytes
abbrev pub found_bytes : {D : Type 0} → (D → DiskState) → FoundState D → List ℕ
found_bytes state found = take found.end (state found.disk).contents

-- a closed byte stands there
abbrev pub IsClosedAt : List ℕ → ℕ → Type 0
IsClosedAt contents end = (end < length contents) × (slice_index contents end ≢ capture)

-- the committed bytes of a disk end at `end`, `tail` bytes follow, and `closed` says whether the first of these is
-- closed
pub record HasEnd (end tail : ℕ) (closed : Bool) (disk : DiskState) : Type 0 where
  pub settled : IsSettled disk
  pub ends : EndsAt disk.contents end
  pub whole : end + tail ≡ length disk.contents
  pub is_closed : closed ≡ true → IsClosedAt disk.contents end
  pub is_open : IsClosedAt disk.contents end → closed ≡ true

-- what always holds
pub record IsFound {D : Type 0} (model : DiskModel D) (found : FoundState D) : Type 0 where
  pub short : found.end + found.tail < 2 ^ 63
  pub ends : model.is_honest found.disk → HasEnd found.end found.tail found.closed (model.state found.disk)

-- Pages end at this offset, and neither a page nor a tail begins there: this is the first thing that is wrong.
pub record IsDamagedAt (contents : List ℕ) (offset : ℕ) (fault : PageFault) : Type 0 where
  pub pages : List PageValue
  pub rest : List ℕ
  pub begins : BeginsWithPages contents pages rest
  pub place : offset ≡ length (bytes_of_pages pages)
  pub no_tail : IsTail rest → ⊥
  pub told : page_at rest ≡ Err fault

-- the visitor was shown the pages of these bytes, one after the other, up to the one at which it ended
pub record HasSeen {V : Type 0} (sees : V → LentAt → Visit → V → Type 0) (old new : V) (bytes : List ℕ) : Type 0 where
  pub pages : List PageValue
  pub are_pages : AllByRecursion IsPage pages
  pub joined : bytes ≡ bytes_of_pages pages
  pub shown : AreShown sees old 0 pages new
