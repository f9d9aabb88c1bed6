-- The sizes of a page (RFC 3533, sections 5 and 6).
use Rattle.std.specs.Prelude.{ℕ, ◌+◌, ◌-◌, ◌*◌}

-- the number of bytes that come before the lacing values
abbrev pub fixed_size : ℕ
fixed_size = 27

-- the number of bytes up to the end of the checksum
abbrev pub checksum_end : ℕ
checksum_end = 26

-- the greatest number of lacing values of a page
abbrev pub most_values : ℕ
most_values = 255

-- the bytes of a whole segment: a lacing value that says that the packet goes on
abbrev pub full_value : ℕ
full_value = 255

-- the greatest number of bytes of a body
abbrev pub longest_body : ℕ
longest_body = most_values * full_value

-- the greatest number of bytes of a packet that lies whole in one page: the last lacing value is not a full one
abbrev pub longest_whole : ℕ
longest_whole = longest_body - 1

-- the greatest number of bytes of a page
abbrev pub longest_page : ℕ
longest_page = fixed_size + most_values + longest_body

-- the number of bytes of a page with one lacing value and no body, as that of an empty packet
abbrev pub empty_packet_page : ℕ
empty_packet_page = fixed_size + 1

-- ours: the number of bytes of the room in which a page is made, with the byte that closes a file after it
abbrev pub room_size : ℕ
room_size = longest_page + 1
