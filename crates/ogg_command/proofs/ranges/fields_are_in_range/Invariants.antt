use Rattle.std.proofs.Common.{take}
use Rattle.std.specs.List.{AllByRecursion}
use Rattle.ogg_command.specs.Command.{AreFieldBytes}
use Rattle.ogg_command.proofs.ranges.fields_are_in_range.Given as goal

-- those so far are in range
abbrev pub invariant-loop-field : goal.invariant-loop-field
invariant-loop-field l = AllByRecursion AreFieldBytes (take l.field-index l.fields)
