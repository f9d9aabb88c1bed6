use Rattle.std.proofs.Common.{◌≡◌, drop}
use Rattle.import_gather.specs.Kept.{rest_of}
use Rattle.import_gather.proofs.streams.rest_len.Given as goal

-- none of the streams so far has the serial
abbrev pub invariant-loop-stream : goal.invariant-loop-stream
invariant-loop-stream l = rest_of l.serial (drop l.stream-index l.streams) ≡ rest_of l.serial l.streams
