use Rattle.std.proofs.Common.{◌≡◌, ◌++◌, map, take, drop}
use Rattle.import_gather.specs.Giving.{bare, new_stream}
use Rattle.import_gather.proofs.giving.new_streams.Given as goal

-- the headers of the streams so far were taken out, and no growth was refused
abbrev pub invariant-loop-stream : goal.invariant-loop-stream
invariant-loop-stream l = record {
  new : l.new.items ≡ map new_stream (take l.stream-index l.initial.streams);
  bare : l.streams ≡ map bare (take l.stream-index l.initial.streams) ++ drop l.stream-index l.initial.streams;
  noted : l.grower ≡ l.fn.grower;
}
