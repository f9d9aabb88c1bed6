use Rattle.std.proofs.Common.{◌≡◌, length, take}
use Rattle.std.specs.List.{flat_map}
use Rattle.feed_records.specs.Record.{stream_bytes}
use Rattle.feed_records.specs.declared.version.Version.TheVariants.{Two}
use Rattle.feed_records.specs.Fits.{capped}
use Rattle.feed_records.proofs.fits.streams_size.Given as goal

-- the streams so far are counted
abbrev pub invariant-loop-stream : goal.invariant-loop-stream
invariant-loop-stream l = l.size ≡ capped (length (flat_map (stream_bytes Two) (take l.stream-index l.streams)))
