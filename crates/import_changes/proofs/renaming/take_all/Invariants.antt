use Rattle.std.proofs.Common.{◌≡◌, ◌++◌, ◌≤◌, ◌+◌, length, take}
use Rattle.import_changes.proofs.renaming.take_all.Given as goal

-- the serials so far are added, and there is room for the others
abbrev pub invariant-loop-serial : goal.invariant-loop-serial
invariant-loop-serial l = record {
  added : l.given.listed ≡ l.fn.given.listed ++ take l.serial-index l.serials;
  room : length l.serials ≤ l.serial-index + l.given.room;
}
