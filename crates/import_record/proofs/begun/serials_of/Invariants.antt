use Rattle.std.proofs.Common.{◌≡◌, map, take}
use Rattle.import_record.specs.Begun.{serial_of}
use Rattle.import_record.proofs.begun.serials_of.Given as goal

abbrev pub invariant-loop-stream : goal.invariant-loop-stream
invariant-loop-stream l = l.serials.items ≡ map serial_of (take l.stream-index l.streams)
