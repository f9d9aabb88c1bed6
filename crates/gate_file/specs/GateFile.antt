-- What a `GateFile` shows.
use Rattle.std.specs.Prelude.{◌≡◌, ℕ, ◌+◌, ◌<◌, ◌≤◌, ◌^◌, List, length, take, Bool, true, false}
use Rattle.disk_model.specs.declared.disk.Disk.{Ghosts as DiskModel}
use Rattle.disk_model.specs.Image.{DiskState}
use Rattle.gate_file.specs.Gate.{IsStaged, IsStagedWhole, staged_in}

-- its disk, how many bytes are committed and how many staged, whether a closed byte follows the staged ones (the
-- last page is staged), and whether a call of the disk has failed
pub record GateState (D : Type 0) : Type 0 where
  pub disk : D
  pub end : ℕ
  pub staged : ℕ
  pub whole : Bool
  pub failed : Bool

abbrev pub gate_state : {D : Type 0} → D → ℕ → ℕ → Bool → Bool → GateState D
gate_state disk end staged whole failed = record { disk = disk; end = end; staged = staged; whole = whole; failed = failed }

-- the committed bytes
abbrev pub committed : {D : Type 0} → (D → DiskState) → GateState D → List ℕ
committed state file = take file.end (state file.disk).contents

-- the bytes that are staged after them
abbrev pub staged_bytes : {D : Type 0} → (D → DiskState) → GateState D → List ℕ
staged_bytes state file = staged_in file.end file.staged (state file.disk).contents

-- What always holds. If the disk is honest, the committed bytes stand in front, after a fault too.
pub record IsKept {D : Type 0} (model : DiskModel D) (file : GateState D) : Type 0 where
  pub short : file.end + file.staged < 2 ^ 63
  pub some : file.whole ≡ true → 0 < file.staged
  pub front : model.is_honest file.disk → file.end ≤ length (model.state file.disk).contents
  pub staged : file.failed ≡ false → model.is_honest file.disk → IsStaged file.end file.staged (model.state file.disk)
  pub whole : file.failed ≡ false → file.whole ≡ true → model.is_honest file.disk → IsStagedWhole file.end file.staged (model.state file.disk)
