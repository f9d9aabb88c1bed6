use Rattle.std.proofs.Common.{◌≡◌, map, take}
use Rattle.import_changes.specs.Naming.{stream_named}
use Rattle.import_renumber.proofs.copying.streams_named.Given as goal

-- the streams so far are copied
abbrev pub invariant-loop-stream : goal.invariant-loop-stream
invariant-loop-stream l = l.now.items ≡ map (stream_named l.names) (take l.stream-index l.streams)
