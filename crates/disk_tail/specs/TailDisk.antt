-- What a `TailDisk` shows.
use Rattle.disk_model.specs.declared.disk.Disk.{Ghosts as DiskModel}
use Rattle.disk_tail.specs.Tail.{Tail, StandsIn}

-- the disk below it, and its tail
pub record TailState (D : Type 0) : Type 0 where
  pub disk : D
  pub tail : Tail

abbrev pub tail_state : {D : Type 0} → D → Tail → TailState D
tail_state disk tail = record { disk = disk; tail = tail }

-- What always holds: if the disk below is honest, the tail stands in its contents.
abbrev pub IsRight : {D : Type 0} → DiskModel D → TailState D → Type 0
IsRight model t = model.is_honest t.disk → StandsIn (model.state t.disk).contents t.tail
