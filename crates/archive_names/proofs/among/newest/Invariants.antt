use Rattle.std.proofs.Common.{◌≡◌, ◌++◌, drop}
use Rattle.std.specs.Option.{option_to_list}
use Rattle.archive_names.specs.Among.{newest, numbered, only}
use Rattle.archive_names.proofs.among.newest.Given as goal

abbrev pub invariant-loop-name : goal.invariant-loop-name
invariant-loop-name l = only (option_to_list l.found ++ numbered l.highest (drop l.name-index l.names)) ≡ newest l.names
