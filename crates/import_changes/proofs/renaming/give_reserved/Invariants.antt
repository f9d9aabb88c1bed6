use Rattle.std.proofs.Common.{◌≡◌, ◌++◌, ◌≤◌, ◌+◌, length, take}
use Rattle.import_changes.specs.Naming.{serials_of}
use Rattle.import_changes.proofs.renaming.give_reserved.Given as goal

-- the serials so far are added, and there is room for the others
abbrev pub invariant-loop-stream : goal.invariant-loop-stream
invariant-loop-stream l = record {
  added : l.given.listed ≡ l.fn.given.listed ++ serials_of (take l.stream-index l.streams);
  room : length l.streams ≤ l.stream-index + l.given.room;
}
