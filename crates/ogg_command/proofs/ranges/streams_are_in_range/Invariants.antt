use Rattle.std.proofs.Common.{take}
use Rattle.std.specs.List.{AllByRecursion}
use Rattle.ogg_command.specs.Command.{IsNewStream}
use Rattle.ogg_command.proofs.ranges.streams_are_in_range.Given as goal

-- those so far are in range
abbrev pub invariant-loop-stream : goal.invariant-loop-stream
invariant-loop-stream l = AllByRecursion IsNewStream (take l.stream-index l.streams)
