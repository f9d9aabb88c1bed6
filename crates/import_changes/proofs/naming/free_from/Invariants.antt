use Rattle.std.proofs.Common.{◌≡◌, ℕ, ◌<◌, ◌≤◌, true}
use Rattle.std.specs.Map.{values_of}
use Rattle.import_changes.specs.Naming.{is_had}
use Rattle.import_changes.proofs.naming.free_from.Given as goal

-- each serial so far is taken
abbrev pub invariant-loop-serial : goal.invariant-loop-serial
invariant-loop-serial l = (other : ℕ) → l.from ≤ other → other < l.serial → is_had l.given.listed (values_of l.names) other ≡ true
