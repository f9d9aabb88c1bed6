-- What a `FuseDisk` shows.
use Rattle.std.specs.Prelude.{◌≡◌, ℕ, ◌+◌, ◌-◌, ◌^◌, min, Bool, true, false, Result, IsErr}
use Rattle.disk_model.specs.declared.fuse.FuseDisk.{FuseDisk}
use Rattle.disk_model.specs.declared.fuse.Fuse.{Fuse}
use Rattle.disk_model.specs.Fault.{HasCause}
use Rattle.disk_model.specs.Fuse.{blows_after}

-- the disk that it passes calls on to
abbrev pub disk_of : {D : Type 0} → FuseDisk D → D
disk_of f = f.disk

abbrev pub fuse_of : {D : Type 0} → FuseDisk D → Fuse
fuse_of f = f.fuse

abbrev pub calls_made : {D : Type 0} → FuseDisk D → ℕ
calls_made f = f.made

-- the calls that it has failed
abbrev pub own_failures : {D : Type 0} → FuseDisk D → ℕ
own_failures f = f.failures

-- its own failures and those of the disk
abbrev pub failures_of : {D : Type 0} → (D → ℕ) → FuseDisk D → ℕ
failures_of failures f = min (failures f.disk + f.failures) (2 ^ 64 - 1)

-- the next call fails and does nothing
abbrev pub is_blown : {D : Type 0} → FuseDisk D → Bool
is_blown f = blows_after f.fuse f.made

-- a blown call fails and does nothing, another one fails only if the disk does, and each is counted
pub record Spends {D T E : Type 0} (failures : D → ℕ) (old new : FuseDisk D) (result : Result T E) : Type 0 where
  pub blown : is_blown old ≡ true → IsErr result × (disk_of new ≡ disk_of old)
  pub passed : is_blown old ≡ false → HasCause (failures (disk_of old)) (failures (disk_of new)) result
  pub fuse : fuse_of new ≡ fuse_of old
  pub made : calls_made new ≡ min (calls_made old + 1) (2 ^ 64 - 1)
