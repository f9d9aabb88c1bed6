-- Which commands fit a record of version 2, part by part. Ours.
use Rattle.std.specs.Prelude.{ℕ, ◌-◌, ◌<◌, ◌^◌, ◌+◌, ◌≤◌, min, length}
use Rattle.std.specs.List.{AllByRecursion, flat_map}
use Rattle.ogg_command.specs.declared.command.Begin.{Begin}
use Rattle.ogg_command.specs.declared.command.Put.{Put}
use Rattle.ogg_command.specs.declared.command.NewStream.{NewStream}
use Rattle.feed_records.specs.declared.version.Version.TheVariants.{Two}
use Rattle.feed_records.specs.Record.{FitsField, entry_bytes, most_payload, skeleton_bytes, stream_bytes}

-- a stream that has few enough headers and message fields, and whose media type and fields are short enough
pub record HasFewParts (stream : NewStream) : Type 0 where
  pub headers : length stream.headers < 2 ^ 16
  pub media : length stream.media < 2 ^ 16
  pub fields : length stream.fields < 2 ^ 16
  pub each : AllByRecursion FitsField stream.fields

-- a size, or the greatest `usize` if that is less
abbrev pub capped : ℕ → ℕ
capped size = min size (2 ^ 64 - 1)

-- a `Begin` that fits, and a `Put` that fits
pub record BeginFits (begin : Begin) : Type 0 where
  pub streams : length begin.streams < 2 ^ 16
  pub size : length (flat_map (stream_bytes Two) begin.streams) + 2 + length (skeleton_bytes begin.skeleton) ≤ most_payload
  pub few : AllByRecursion HasFewParts begin.streams

pub record PutFits (put : Put) : Type 0 where
  pub entries : length put.entries < 2 ^ 16
  pub size : length (flat_map entry_bytes put.entries) + 2 ≤ most_payload
