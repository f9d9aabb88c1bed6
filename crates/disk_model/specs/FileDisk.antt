-- What a `FileDisk` shows.
use Rattle.std.specs.Prelude.{ℕ}
use Rattle.disk_model.specs.declared.raw.FileDisk.{FileDisk}

-- the raw file under it
abbrev pub file_of : {F : Type 0} → FileDisk F → F
file_of d = d.file

abbrev pub failures_of : {F : Type 0} → FileDisk F → ℕ
failures_of d = d.failures
