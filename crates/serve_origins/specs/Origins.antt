-- The origin that a page has, as browsers write it (HTML, section 7.1.1, "serialization of an origin").
use Rattle.std.specs.Prelude.{ℕ, Bool, false, List, drop, length, nat_eq, nat_le, ◌==◌, ◌&&◌, ◌||◌, if◌then◌else◌, codes}
use Rattle.std.specs.Char.{is_ascii_digit, is_ascii_lowercase}
use Rattle.std.specs.List.{list_all, starts_with}
use Rattle.std.specs.Str.{byte, bytes_eq}

-- of a host and its port (RFC 3986, section 3.2), as they are written in lower case, without what is percent-encoded
abbrev pub is_place_byte : ℕ → Bool
is_place_byte b =
    is_ascii_lowercase b || is_ascii_digit b || b == byte "-" || b == byte "." || b == byte ":" || b == byte "[" || b == byte "]" || b == byte "_"

abbrev pub is_place : List ℕ → Bool
is_place text = nat_le 1 (length text) && list_all is_place_byte text

-- the schemes of pages
abbrev pub is_site : List ℕ → Bool
is_site text =
    if starts_with nat_eq text (codes "http://") then is_place (drop 7 text)
    else if starts_with nat_eq text (codes "https://") then is_place (drop 8 text)
    else false

-- any origin (Fetch, section 3.2.3), or this one
abbrev pub is_origin : List ℕ → Bool
is_origin text = bytes_eq text (codes "*") || is_site text
