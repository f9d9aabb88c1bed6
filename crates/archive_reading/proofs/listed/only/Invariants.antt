use Rattle.std.proofs.Common.{◌≡◌, ◌++◌, drop}
use Rattle.std.specs.Option.{option_to_list}
use Rattle.archive_reading.specs.Folder.{files_in, only}
use Rattle.archive_reading.proofs.listed.only.Given as goal

-- the file so far and those among the other names
abbrev pub invariant-loop-entry : goal.invariant-loop-entry
invariant-loop-entry l = only (option_to_list l.found ++ files_in (drop l.entry-index l.entries)) ≡ only (files_in l.entries)
