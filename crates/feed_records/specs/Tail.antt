-- What follows the headers of a stream in a begin record. Ours.
use Rattle.std.specs.Prelude.{ℕ, ℤ, List, [], ◌∷◌, ◌++◌}
use Rattle.ogg_command.specs.declared.command.NewStream.{NewStream}
use Rattle.ogg_page.specs.Numbers.{u32_bytes, i64_bytes, fraction_bytes}
use Rattle.skeleton3.specs.Fields.{NamedValue}
use Rattle.feed_records.specs.declared.version.Version.{Version}
use Rattle.feed_records.specs.Record.{media_bytes, fields_bytes}

-- what follows a stream's headers, but for its message fields
pub record Tail : Type 0 where
  pub media : List ℕ
  pub rate : ℤ × ℤ
  pub base_granule : ℤ
  pub preroll : ℕ
  pub shift : ℕ

unfoldable pub tail_bytes : Tail → List ℕ
tail_bytes tail =
    media_bytes tail.media
    ++ (fraction_bytes tail.rate
    ++ (i64_bytes tail.base_granule ++ (u32_bytes tail.preroll ++ tail.shift ∷ [])))

-- all that follows a stream's headers
abbrev pub Behind : Type 0
Behind = Tail × List NamedValue

abbrev pub behind_bytes : Version → Behind → List ℕ
behind_bytes version behind = tail_bytes behind.0 ++ fields_bytes version behind.1

-- what follows the stream's headers
abbrev pub tail_of_stream : NewStream → Tail
tail_of_stream stream =
    record { media = stream.media; rate = stream.rate; base_granule = stream.base_granule; preroll = stream.preroll; shift = stream.shift }

abbrev pub behind_of_stream : NewStream → Behind
behind_of_stream stream = (tail_of_stream stream, stream.fields)
