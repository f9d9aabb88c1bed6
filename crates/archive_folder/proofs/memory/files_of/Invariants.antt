use Rattle.std.proofs.Common.{◌≡◌, ◌++◌, drop}
use Rattle.archive_folder.specs.Names.{numbers_of, listed}
use Rattle.archive_folder.proofs.memory.files_of.Given as goal

-- the numbers so far and those of what is left are those of all
abbrev pub invariant-loop-name : goal.invariant-loop-name
invariant-loop-name l = numbers_of l.files.items ++ listed (drop l.name-index l.names) ≡ listed l.names
