-- What a `FileFolder` shows.
use Rattle.std.specs.Prelude.{ℕ, Option}
use Rattle.archive_folder.specs.declared.raw.FaultKind.{FaultKind}
use Rattle.archive_folder.specs.declared.raw.FileFolder.{FileFolder}

-- the raw folder under it
abbrev pub raw_of : {R F : Type 0} → FileFolder R F → R
raw_of f = f.raw

-- why it failed last
abbrev pub last_of : {R F : Type 0} → FileFolder R F → Option FaultKind
last_of f = f.last

abbrev pub failures_of : {R F : Type 0} → FileFolder R F → ℕ
failures_of f = f.failures
