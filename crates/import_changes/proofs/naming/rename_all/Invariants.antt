use Rattle.std.proofs.Common.{take}
use Rattle.std.specs.Prelude.{◌≤◌, vec_capacity}
use Rattle.std.specs.List.{AllByRecursion}
use Rattle.std.specs.Map.{values_of}
use Rattle.import_changes.specs.Naming.{AreNamed, AreNames, AreOnlyOf, IsKept, IsLow, serials_of}
use Rattle.import_changes.proofs.naming.rename_all.Given as goal

-- the streams so far are named, and the others are kept if they may be
abbrev pub invariant-loop-stream : goal.invariant-loop-stream
invariant-loop-stream l = record {
  names : AreNames l.given.listed l.names.items;
  kept : AllByRecursion (IsKept l.given.listed l.names.items) (serials_of l.streams);
  only : AreOnlyOf l.names.items (serials_of l.streams);
  low : IsLow l.given.listed (values_of l.names.items) l.low;
  capacity : vec_capacity l.fn.names ≤ vec_capacity l.names;
  done : AreNamed l.names.items (serials_of (take l.stream-index l.streams));
}
