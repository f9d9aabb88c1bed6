-- What no call on a disk changes, and what its faults say.
use Rattle.std.specs.Prelude.{◌↔◌, ◌≤◌}
use Rattle.disk_model.specs.Fault.{Rises}
use Rattle.disk_model.specs.declared.disk.Disk.{Ghosts as DiskModel}

-- From one moment to a later one. It is honest if it was, and its count of failures never falls. If the disk is blamed
-- for a fault, the count rises.
pub record Frame {D : Type 0} (model : DiskModel D) (old new : D) (is_blamed : Type 0) : Type 0 where
  pub honest : model.is_honest old ↔ model.is_honest new
  pub later : model.failures old ≤ model.failures new
  pub cause : is_blamed → Rises (model.failures old) (model.failures new)
