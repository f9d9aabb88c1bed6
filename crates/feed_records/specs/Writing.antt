-- What writing does to a vector. Ours.
use Rattle.std.specs.Prelude.{◌≡◌, ℕ, ◌+◌, ◌≤◌, List, ◌++◌, length, vec_len, vec_capacity}
use Rattle.std.specs.List.{flat_map}
use Rattle.std.specs.Global.{Vec}
use Rattle.ogg_command.specs.declared.command.NewStream.{NewStream}
use Rattle.feed_records.specs.declared.version.Version.{Version}
use Rattle.feed_records.specs.Record.{packet_bytes, fields_bytes}

-- the vector grew by these bytes, this is their number, and it lost no room
pub record Grows (old new : Vec ℕ) (bytes : List ℕ) (count : ℕ) : Type 0 where
  pub items : new.items ≡ old.items ++ bytes
  pub len : vec_len new ≡ vec_len old + count
  pub room : vec_capacity old ≤ vec_capacity new

-- how long the spelling of a stream is
abbrev pub stream_size : Version → NewStream → ℕ
stream_size version stream =
    37 + length (flat_map packet_bytes stream.headers) + length stream.media + length (fields_bytes version stream.fields)
