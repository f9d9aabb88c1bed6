use Rattle.std.proofs.Common.{length, take}
use Rattle.std.specs.List.{flat_map}
use Rattle.feed_records.specs.Record.{stream_bytes}
use Rattle.feed_records.specs.Writing.{Grows}
use Rattle.feed_records.proofs.writing.put_streams.Given as goal

-- the streams so far are written
abbrev pub invariant-loop-stream : goal.invariant-loop-stream
invariant-loop-stream l =
    Grows l.initial.out l.out (flat_map (stream_bytes l.version) (take l.stream-index l.streams)) (length (flat_map (stream_bytes l.version) (take l.stream-index l.streams)))
