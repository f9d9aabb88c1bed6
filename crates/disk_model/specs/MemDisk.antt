-- What a `MemDisk` shows.
use Rattle.std.specs.Prelude.{ℕ, List, length}
use Rattle.disk_model.specs.Image.{DiskState, disk_state, settled}
use Rattle.disk_model.specs.Calls.{WasImageSince}
use Rattle.disk_model.specs.declared.memory.MemDisk.{MemDisk}

-- its members `state`, `moment`, `images_since` and `failures`
abbrev pub state_of : MemDisk → DiskState
state_of m = disk_state m.bytes.items m.synced.items m.written.items m.least m.greatest

abbrev pub moment_of : MemDisk → ℕ
moment_of m = length m.calls.items

abbrev pub images_since_of : MemDisk → ℕ → List ℕ → Type 0
images_since_of m = WasImageSince (settled m.first.items) m.calls.items

abbrev pub failures_of : MemDisk → ℕ
failures_of m = m.failures
