-- How many of a stream's packets are headers, by its first packet. RFC 3533 leaves it to each codec's own mapping
-- into Ogg (section 4); the known ones stand here.
use Rattle.std.specs.Prelude.{ℕ, ◌+◌, ◌*◌, ◌||◌, Bool, nat_eq, if◌then◌else◌, List, ◌∷◌, codes, slice_index}
use Rattle.std.specs.List.{starts_with}

abbrev pub begins : List ℕ → List ℕ → Bool
begins text packet = starts_with nat_eq packet text

-- The headers are identification, comment and setup.
abbrev pub is_vorbis : List ℕ → Bool
is_vorbis first = begins (0x01 ∷ codes "vorbis") first

abbrev pub is_theora : List ℕ → Bool
is_theora first = begins (0x80 ∷ codes "theora") first

-- The headers are identification and comment (RFC 7845, section 3).
abbrev pub is_opus : List ℕ → Bool
is_opus first = begins (codes "OpusHead") first

-- The first packet says how many follow it, in two bytes, the higher one first; 0 says that it isn't known
-- (RFC 9639, section 10.1).
abbrev pub is_flac : List ℕ → Bool
is_flac first = begins (0x7F ∷ codes "FLAC") first

abbrev pub flac_headers : List ℕ → ℕ
flac_headers first = slice_index first 7 * 256 + slice_index first 8

-- The first packet says how many follow the comment, in four bytes, the lowest one first. The two higher bytes are 0.
abbrev pub is_speex : List ℕ → Bool
is_speex first = begins (codes "Speex   ") first

abbrev pub speex_headers : List ℕ → ℕ
speex_headers first = slice_index first 69 * 256 + slice_index first 68

-- of a codec that isn't known, only the first packet is a header
abbrev pub header_count : List ℕ → ℕ
header_count first =
    if is_vorbis first || is_theora first then 3
    else (if is_opus first then 2
    else (if is_flac first then 1 + flac_headers first
    else (if is_speex first then 2 + speex_headers first
    else 1)))
