-- What a stream's first packet says of it, as a Skeleton's fisbone does (Ogg Skeleton 3.0): its codec, its media
-- type, how many units of its position a second has, and how a player begins within it. Each codec's own mapping into
-- Ogg says at which place its packet has that: Vorbis I, section 4.2.2; Theora, section 6.2; RFC 7845, section 5.1;
-- RFC 9639, section 10.1; the Speex manual, section 8.
use Rattle.std.specs.Prelude.{ℕ, ℤ, pos, ◌+◌, ◌*◌, ◌/◌, ◌%◌, max, if◌then◌else◌, List, [], ◌∷◌, codes, slice_index}
use Rattle.std.specs.Int.{from_le_bytes, from_be_bytes, w32}
use Rattle.import_commands.specs.Headers.{is_vorbis, is_theora, is_opus, is_flac, is_speex, flac_headers, speex_headers}
use Rattle.import_commands.specs.declared.codec.Codec.{Codec}
use Rattle.import_commands.specs.declared.codec.Codec.TheVariants.{Vorbis, Theora, Opus, Flac, Speex, Other}

abbrev pub codec_of : List ℕ → Codec
codec_of first =
    if is_vorbis first then Vorbis
    else (if is_theora first then Theora
    else (if is_opus first then Opus
    else (if is_flac first then Flac
    else (if is_speex first then Speex
    else Other))))

-- how many of a stream's packets are headers, once its codec is known
abbrev pub headers_by : Codec → List ℕ → ℕ
headers_by Vorbis first = 3
headers_by Theora first = 3
headers_by Opus first = 2
headers_by Flac first = 1 + flac_headers first
headers_by Speex first = 2 + speex_headers first
headers_by Other first = 1

-- the media types registered for Ogg's streams (RFC 5334, section 10; RFC 7845, section 9; RFC 9639, section 12)
abbrev pub media_type_of : Codec → List ℕ
media_type_of Vorbis = codes "audio/vorbis"
media_type_of Theora = codes "video/theora"
media_type_of Opus = codes "audio/opus"
media_type_of Flac = codes "audio/flac"
media_type_of Speex = codes "audio/speex"
media_type_of Other = codes "application/octet-stream"

-- How many packets a decoder takes before the first whose sound is right. For Opus they last 80 ms (RFC 7845, section
-- 4.6), which is four packets of the usual 20 ms.
abbrev pub preroll_of : Codec → ℕ
preroll_of Vorbis = 2
preroll_of Theora = 0
preroll_of Opus = 4
preroll_of Flac = 0
preroll_of Speex = 3
preroll_of Other = 0

-- four bytes from a place on; bytes after the end count as 0
abbrev pub four_at : List ℕ → ℕ → List ℕ
four_at bytes at = slice_index bytes at ∷ slice_index bytes (at + 1) ∷ slice_index bytes (at + 2) ∷ slice_index bytes (at + 3) ∷ []

abbrev pub low_first : List ℕ → ℕ → ℕ
low_first bytes at = from_le_bytes w32 (four_at bytes at)

abbrev pub high_first : List ℕ → ℕ → ℕ
high_first bytes at = from_be_bytes w32 (four_at bytes at)

-- a rate that isn't positive says nothing, and counts as 1
abbrev pub rate : ℕ → ℕ → ℤ × ℤ
rate numerator denominator = (pos (max numerator 1), pos (max denominator 1))

-- the units of a position in a second: samples, or frames of Theora, whose rate is a fraction; for Opus always 48,000
abbrev pub rate_by : Codec → List ℕ → ℤ × ℤ
rate_by Vorbis first = rate (low_first first 12) 1
rate_by Theora first = rate (high_first first 22) (high_first first 26)
rate_by Opus first = rate 48000 1
-- the upper 20 of 32 bits
rate_by Flac first = rate (high_first first 27 / 4096) 1
rate_by Speex first = rate (low_first first 36) 1
rate_by Other first = rate 1 1

abbrev pub rate_of : List ℕ → ℤ × ℤ
rate_of first = rate_by (codec_of first) first

-- The low bits of a position of Theora that count from the last key frame: five bits after the upper six of the two
-- bytes at 40. The positions of the others have no such bits.
abbrev pub shift_by : Codec → List ℕ → ℕ
shift_by Theora first = slice_index first 40 % 4 * 8 + slice_index first 41 / 32
shift_by codec first = 0

abbrev pub shift_of : List ℕ → ℕ
shift_of first = shift_by (codec_of first) first
