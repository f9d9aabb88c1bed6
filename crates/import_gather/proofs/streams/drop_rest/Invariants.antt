use Rattle.std.proofs.Common.{◌≡◌, ◌++◌, map, take, drop}
use Rattle.import_gather.specs.Kept.{without_rest}
use Rattle.import_gather.proofs.streams.drop_rest.Given as goal

-- the streams so far are without it
abbrev pub invariant-loop-stream : goal.invariant-loop-stream
invariant-loop-stream l = l.streams ≡ map (without_rest l.serial) (take l.stream-index l.initial.streams) ++ drop l.stream-index l.initial.streams
