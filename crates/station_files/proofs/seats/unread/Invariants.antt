use Rattle.std.proofs.Common.{◌≡◌, ◌<◌, ℕ, Some, slice_get}
use Rattle.slab.specs.Slab.{slab_len}
use Rattle.station_files.specs.declared.seats.Past.{Past}
use Rattle.station_files.proofs.seats.unread.Given as goal

-- none of those before is read
abbrev pub invariant-loop-at : goal.invariant-loop-at
invariant-loop-at g l = (before : ℕ) (one : Past g.row.D.Denot) → before < l.at → slice_get l.past before ≡ Some one → slab_len one.station.clients.slots ≡ 0
