-- The sizes of a Skeleton's packets (Xiph, Ogg Skeleton 3.0), and how long the texts in them may be.
use Rattle.std.specs.Prelude.{ℕ, ◌+◌, ◌*◌}

-- bytes of a fishead
abbrev pub fishead_size : ℕ
fishead_size = 64

-- bytes of a time in UTC
abbrev pub time_size : ℕ
time_size = 20

-- the major version
abbrev pub major_version : ℕ
major_version = 3

-- bytes of a fisbone that come before its message fields
abbrev pub fixed_size : ℕ
fixed_size = 52

-- where the message fields begin, counted from the byte that follows the name
abbrev pub message_offset : ℕ
message_offset = 44

-- ---- ours
-- bytes of a media type, and of a field's value
abbrev pub longest_value : ℕ
longest_value = 255

-- bytes of a field's name
abbrev pub longest_name : ℕ
longest_name = 64

-- message fields of a stream, without that of its media type
abbrev pub most_fields : ℕ
most_fields = 16

-- Bytes of the message field of the media type: `Content-Type: `, the media type, CR and LF.
abbrev pub longest_media_field : ℕ
longest_media_field = 16 + longest_value

-- Bytes of another message field: the name, `: `, the value, CR and LF.
abbrev pub longest_field : ℕ
longest_field = 4 + longest_name + longest_value

-- bytes of a stream's message fields
abbrev pub longest_message : ℕ
longest_message = longest_media_field + most_fields * longest_field

-- bytes of a fisbone
abbrev pub longest_fisbone : ℕ
longest_fisbone = fixed_size + longest_message
