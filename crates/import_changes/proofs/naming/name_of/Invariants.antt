use Rattle.std.proofs.Common.{◌≡◌, drop}
use Rattle.import_changes.specs.Naming.{name_of}
use Rattle.import_changes.proofs.naming.name_of.Given as goal

-- none of the names so far is of the serial
abbrev pub invariant-loop-name : goal.invariant-loop-name
invariant-loop-name l = name_of (drop l.name-index l.names) l.serial ≡ name_of l.names l.serial
