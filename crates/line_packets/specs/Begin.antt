-- What a link of lines begins with. The header is ours; the rest is told as Ogg Skeleton 3.0 has it.
use Rattle.std.specs.Prelude.{◌≡◌, ℕ, ◌+◌, pos, List, [], ◌∷◌, codes, Some}
use Rattle.archive_clock.specs.Told.{IsUtcText}
use Rattle.skeleton3.specs.Fields.{NamedValue}
use Rattle.ogg_command.specs.declared.command.Begin.{Begin}
use Rattle.ogg_command.specs.declared.command.NewStream.{NewStream}
use Rattle.line_packets.specs.declared.streams.Streams.{Streams}

-- `LineHead`, the version 1, three zeros, and 1,000 units of a position in a second
abbrev pub header : List ℕ
header = 76 ∷ 105 ∷ 110 ∷ 101 ∷ 72 ∷ 101 ∷ 97 ∷ 100 ∷ 1 ∷ 0 ∷ 0 ∷ 0 ∷ 232 ∷ 3 ∷ 0 ∷ 0 ∷ []

abbrev pub name_field : List ℕ → NamedValue
name_field name = (codes "Name", name)

abbrev pub new_stream : ℕ → List ℕ → List ℕ → NewStream
new_stream serial media name = record {
  serial = serial;
  headers = header ∷ [];
  media = media;
  fields = name_field name ∷ [];
  rate = (pos 1000, pos 1);
  base_granule = pos 0;
  preroll = 0;
  shift = 0;
}

-- the streams with these names, under the serials from this one on
abbrev pub streams_from : ℕ → List ℕ → List (List ℕ) → List NewStream
streams_from serial media [] = []
streams_from serial media (name ∷ names) = new_stream serial media name ∷ streams_from (serial + 1) media names

abbrev pub begun : List ℕ → List NewStream → Begin
begun utc streams = record {
  skeleton = Some (record { serial = 0; presentation = (pos 0, pos 1); base = (pos 0, pos 1); utc = utc });
  streams = streams;
}

-- a link of these streams begins so at the time
pub record BeginsAt (time : ℕ) (media : List ℕ) (streams : Streams) (begin : Begin) : Type 0 where
  pub utc : List ℕ
  pub is_utc : IsUtcText time utc
  pub begin_is : begin ≡ begun utc (streams_from 1 media streams.names)
