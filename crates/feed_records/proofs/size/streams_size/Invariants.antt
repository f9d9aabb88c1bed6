use Rattle.std.proofs.Common.{◌≡◌, length, take}
use Rattle.std.specs.List.{flat_map}
use Rattle.feed_records.specs.Record.{stream_bytes}
use Rattle.feed_records.proofs.size.streams_size.Given as goal

-- the streams so far are counted
abbrev pub invariant-loop-stream : goal.invariant-loop-stream
invariant-loop-stream l = l.size ≡ length (flat_map (stream_bytes l.version) (take l.stream-index l.streams))
