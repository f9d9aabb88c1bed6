use Rattle.std.proofs.Common.{◌≡◌}
use Rattle.archive_folder.proofs.memory.title_of.Given as goal

-- what was found so far has the number
abbrev pub invariant-loop-title : goal.invariant-loop-title
invariant-loop-title l = l.found.number ≡ l.number
