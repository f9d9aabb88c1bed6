use Rattle.std.proofs.Common.{take}
use Rattle.std.specs.List.{AllByRecursion}
use Rattle.ogg_command.specs.Command.{IsEntry}
use Rattle.ogg_command.proofs.ranges.entries_are_in_range.Given as goal

-- those so far are in range
abbrev pub invariant-loop-entry : goal.invariant-loop-entry
invariant-loop-entry l = AllByRecursion IsEntry (take l.entry-index l.entries)
