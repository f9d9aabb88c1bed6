use Rattle.std.proofs.Common.{◌≡◌, ◌++◌, map, take, drop}
use Rattle.import_record.specs.Begun.{with_packets}
use Rattle.import_record.proofs.begun.take_packets.Given as goal

-- the streams so far are with it
abbrev pub invariant-loop-stream : goal.invariant-loop-stream
invariant-loop-stream l = l.streams ≡ map (with_packets l.entries) (take l.stream-index l.initial.streams) ++ drop l.stream-index l.initial.streams
