-- Which file can be gone on with. Ours.
use Rattle.std.specs.Prelude.{◌≡◌, ◌≢◌, ℕ, List, take}
use Rattle.disk_model.specs.declared.disk.Disk.{Ghosts as DiskModel}
use Rattle.disk_model.specs.Frame.{Frame}
use Rattle.ogg_page.specs.declared.fault.PageFault.{PageFault}
use Rattle.link_chain.specs.declared.chain_fault.ChainFault.{ChainFault}
use Rattle.gate_file.specs.declared.fault.OpenFault.TheVariants.{Disk, Page, Chain, Unfinished}
use Rattle.gate_file.specs.Found.{IsDamagedAt}
use Rattle.gate_file.specs.Gate.{EndsAt}
use Rattle.link_chain.specs.Recording.{Recording}
use Rattle.file_recorder.specs.Recovery.{Shows}
use Rattle.file_recorder.specs.Taking.{IsBrokenAt, IsUnfinished}
use Rattle.record_actions.specs.Foreign.{IsForeign, front_of}
use Rattle.record_actions.specs.Tail.{IsSoundAt, IsUnsoundAt}
use Rattle.archive_record.specs.declared.damage.Damage.{Damage}
use Rattle.archive_record.specs.declared.damage.Damage.TheVariants.{Unreadable, Foreign, Open, Tail}

-- A file can be gone on with: it doesn't begin with bytes of another kind, its pages (RFC 3533, section 6) are links, one
-- after the other (section 4), that hold a recording, and what follows them is what a stop may leave.
pub record CanGoOn (contents : List ℕ) : Type 0 where
  pub own : IsForeign (front_of contents) → ⊥
  pub end : ℕ
  pub sound : IsSoundAt contents end
  pub recording : Recording
  pub shows : Shows contents recording

-- Why a file is left as it is, by what it holds. Unless its disk has failed it holds what it held.
pub record IsLeftBy {D : Type 0} (model : DiskModel D) (disk : D) (why : Damage) (back : D) : Type 0 where
  pub frame : Frame model disk back (why ≡ Open Disk)
  pub same : why ≢ Open Disk → model.is_honest disk → (model.state back).contents ≡ (model.state disk).contents
  pub foreign : why ≡ Foreign → model.is_honest disk → IsForeign (front_of (model.state disk).contents)
  pub tail : (end : ℕ) → why ≡ Tail end → model.is_honest disk → IsUnsoundAt (model.state disk).contents end
  pub page : (offset : ℕ) (fault : PageFault) → why ≡ Open (Page offset fault) → model.is_honest disk
      → IsDamagedAt (model.state disk).contents offset fault
  pub chain : (offset : ℕ) (fault : ChainFault) → why ≡ Open (Chain offset fault) → model.is_honest disk
      → (end : ℕ) × EndsAt (model.state disk).contents end × IsBrokenAt (take end (model.state disk).contents) offset fault
  pub unfinished : (serial : ℕ) → why ≡ Open (Unfinished serial) → model.is_honest disk
      → (end : ℕ) × EndsAt (model.state disk).contents end × IsUnfinished (take end (model.state disk).contents) serial
  pub read : why ≢ Unreadable
