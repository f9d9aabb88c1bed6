-- What a line of the log has of a request's head (RFC 9112, sections 2 to 5).
use Rattle.std.specs.Prelude.{ℕ, zero, suc, ◌+◌, ◌-◌, Bool, nat_le, ◌==◌, ◌&&◌, if◌then◌else◌, List, [], length, take, drop, map, Option, Some, None, position, codes}
use Rattle.std.specs.Char.{is_ascii_whitespace, to_ascii_lowercase}
use Rattle.std.specs.List.{prefix_len, suffix_len}
use Rattle.std.specs.Str.{byte, bytes_eq}

-- where the first line ends
abbrev pub line_end : List ℕ → Option ℕ
line_end text = position (λ b. b == byte "\n") text

-- the text without the white space at its ends
abbrev pub trimmed_start : List ℕ → List ℕ
trimmed_start text = drop (prefix_len is_ascii_whitespace text) text

abbrev pub trimmed_end : List ℕ → List ℕ
trimmed_end text = take (length text - suffix_len is_ascii_whitespace text) text

abbrev pub trimmed : List ℕ → List ℕ
trimmed text = trimmed_end (trimmed_start text)

-- a request line ends in a version, as `GET / HTTP/1.1` does (section 3)
abbrev pub is_request_line : List ℕ → Bool
is_request_line line = nat_le 9 (length line) && bytes_eq (take 6 (drop (length line - 9) line)) (codes " HTTP/")

abbrev pub request_before : Option ℕ → List ℕ → List ℕ
request_before None head = []
request_before (Some end) head =
    let line = trimmed (take end head) in
    if is_request_line line then line else []

-- the request line, or nothing: the first line, if it is one
abbrev pub request_line : List ℕ → List ℕ
request_line head = request_before (line_end head) head

-- a field begins with its name and a colon; the name's case doesn't count (section 5)
abbrev pub is_field : List ℕ → List ℕ → Bool
is_field name line =
    nat_le (length name) (length line)
    && bytes_eq (map to_ascii_lowercase (take (length name) line)) (map to_ascii_lowercase name)

-- the value that the first line has or what is found after it; an empty line ends the fields
abbrev pub value_at : (List ℕ → List ℕ) → List ℕ → Option ℕ → List ℕ → List ℕ
value_at after name None text = []
value_at after name (Some end) text =
    let line = trimmed (take end text) in
    if length line == 0 then []
    else if is_field name line then trimmed (drop (length name) line)
    else after (drop (end + 1) text)

-- the value of the first field of this name among so many lines, or nothing
abbrev pub value_among : ℕ → List ℕ → List ℕ → List ℕ
value_among zero name text = []
value_among (suc lines) name text = value_at (value_among lines name) name (line_end text) text

abbrev pub after_line : Option ℕ → List ℕ → List ℕ
after_line None head = []
after_line (Some end) head = drop (end + 1) head

-- ours: a head has at most 64 fields
abbrev pub value_of : List ℕ → List ℕ → List ℕ
value_of name head = value_among 64 name (after_line (line_end head) head)
