-- The front of a disk, as a source of pages. Ours.
use Rattle.std.specs.Prelude.{◌≡◌, ◌↔◌, ℕ, List, take}
use Rattle.disk_model.specs.declared.disk.Disk.{Ghosts as DiskModel}
use Rattle.disk_model.specs.Image.{DiskState}

-- the disk, and how many bytes its front has
pub record PrefixState (D : Type 0) : Type 0 where
  pub disk : D
  pub end : ℕ

abbrev pub prefix_state : {D : Type 0} → D → ℕ → PrefixState D
prefix_state disk end = record { disk = disk; end = end }

-- the bytes of the front
abbrev pub prefix_bytes : {D : Type 0} → (D → DiskState) → PrefixState D → List ℕ
prefix_bytes state prefix = take prefix.end (state prefix.disk).contents

-- a disk that was only read is what it was
pub record IsSameDisk {D : Type 0} (model : DiskModel D) (old new : D) : Type 0 where
  pub honest : model.is_honest old ↔ model.is_honest new
  pub state : model.is_honest old → model.state new ≡ model.state old
