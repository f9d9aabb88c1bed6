use Rattle.std.proofs.Common.{◌≡◌, ◌++◌, map, take, drop}
use Rattle.import_changes.specs.Naming.{stream_named}
use Rattle.import_changes.proofs.renaming.take_names.Given as goal

-- the streams so far have the serials that they have now
abbrev pub invariant-loop-stream : goal.invariant-loop-stream
invariant-loop-stream l =
    l.streams ≡ map (stream_named l.names) (take l.stream-index l.initial.streams) ++ drop l.stream-index l.initial.streams
