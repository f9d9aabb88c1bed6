use Rattle.std.proofs.Common.{◌≡◌, drop, max}
use Rattle.archive_names.specs.Among.{highest}
use Rattle.archive_names.proofs.among.highest.Given as goal

abbrev pub invariant-loop-name : goal.invariant-loop-name
invariant-loop-name l = max l.highest (highest (drop l.name-index l.names)) ≡ highest l.names
