use Rattle.std.proofs.Common.{take}
use Rattle.std.specs.Prelude.{◌≤◌, vec_capacity}
use Rattle.import_changes.specs.Naming.{KeepsAll, serials_of}
use Rattle.import_changes.proofs.naming.keep_all.Given as goal

-- the streams so far keep their serials if they may
abbrev pub invariant-loop-stream : goal.invariant-loop-stream
invariant-loop-stream l = record {
  kept : KeepsAll l.given.listed l.names.items (serials_of (take l.stream-index l.streams));
  capacity : vec_capacity l.fn.names ≤ vec_capacity l.names;
}
