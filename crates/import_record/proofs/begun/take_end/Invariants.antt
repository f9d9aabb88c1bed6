use Rattle.std.proofs.Common.{◌≡◌, ◌++◌, map, take, drop}
use Rattle.import_record.specs.Begun.{with_end}
use Rattle.import_record.proofs.begun.take_end.Given as goal

-- the streams so far are with it
abbrev pub invariant-loop-stream : goal.invariant-loop-stream
invariant-loop-stream l = l.streams ≡ map (with_end l.serial) (take l.stream-index l.initial.streams) ++ drop l.stream-index l.initial.streams
