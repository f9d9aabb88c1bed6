use Rattle.std.proofs.Common.{◌≡◌, ◌++◌, ◌≤◌, ◌+◌, length, take}
use Rattle.import_renumber.proofs.renumbered.push_all.Given as goal

-- the serials so far are added, and there is room for the others
abbrev pub invariant-loop-serial : goal.invariant-loop-serial
invariant-loop-serial l = record {
  added : l.taken.listed ≡ l.fn.taken.listed ++ take l.serial-index l.serials;
  room : length l.serials ≤ l.serial-index + l.taken.room;
}
