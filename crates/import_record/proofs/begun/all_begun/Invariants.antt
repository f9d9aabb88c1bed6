use Rattle.std.proofs.Common.{◌≡◌, map, take}
use Rattle.import_record.specs.Begun.{begun_stream}
use Rattle.import_record.proofs.begun.all_begun.Given as goal

-- the streams so far are copied
abbrev pub invariant-loop-stream : goal.invariant-loop-stream
invariant-loop-stream l = l.begun.items ≡ map begun_stream (take l.stream-index l.streams)
