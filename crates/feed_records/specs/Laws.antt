-- The law of records that a crate above cites.
use Rattle.std.specs.Prelude.{◌≡◌, ◌++◌, length}
use Rattle.std.proofs.Common.{refl}
use Rattle.std.specs.List.{flat_map}
use Rattle.ogg_command.specs.declared.command.NewStream.{NewStream}
use Rattle.ogg_page.specs.Numbers.{u16_bytes, u32_bytes}
use Rattle.feed_records.specs.declared.version.Version.{Version}
use Rattle.feed_records.specs.Record.{packet_bytes, stream_bytes}
use Rattle.feed_records.specs.Tail.{tail_bytes, behind_bytes, behind_of_stream}

-- a stream is its serial, its headers, and all that follows them
pub stream_parts : (v : Version) (s : NewStream) → stream_bytes v s ≡ u32_bytes s.serial ++ (u16_bytes (length s.headers) ++ (flat_map packet_bytes s.headers ++ behind_bytes v (behind_of_stream s)))
unfolding stream_bytes tail_bytes
stream_parts v s = refl
