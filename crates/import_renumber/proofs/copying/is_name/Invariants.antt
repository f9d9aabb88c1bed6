use Rattle.std.proofs.Common.{◌≡◌, drop, nat_eq}
use Rattle.std.specs.List.{list_any}
use Rattle.std.specs.Map.{values_of}
use Rattle.import_renumber.proofs.copying.is_name.Given as goal

-- none of the names so far is the serial
abbrev pub invariant-loop-name : goal.invariant-loop-name
invariant-loop-name l = list_any (nat_eq l.serial) (values_of (drop l.name-index l.names)) ≡ list_any (nat_eq l.serial) (values_of l.names)
