-- The message fields of a fisbone (Xiph, Ogg Skeleton 3.0, "Message header fields"). Each is `Name: value`, CR and LF.
use Rattle.std.specs.Prelude.{◌≡◌, ◌≢◌, ℕ, ◌+◌, ◌-◌, Bool, not, cond, ◌&&◌, ◌||◌, ◌==◌, nat_eq, nat_le, List, [], ◌∷◌, ◌++◌, length, take, drop, map, filter, find, position, All, Option, Some, option_map, option_and_then, codes}
use Rattle.std.specs.Char.{to_ascii_lowercase}
use Rattle.std.specs.Borrow.{Bor}
use Rattle.std.specs.List.{list_all, list_any, prefix_len, suffix_len, slice_split, flat_map}
use Rattle.std.specs.Str.{bytes_eq, byte}
use Rattle.std.specs.Str.Lines.{strip_carriage_return}
use Rattle.skeleton3.specs.Sizes.{longest_value, longest_name}

-- Ours: a text is cut at each LF, a piece that ends with CR loses it, and empty pieces are passed over. So a line may
-- also end with LF alone, or with the text.
abbrev pub lines_of : List ℕ → List (List ℕ)
lines_of text = filter (λ line. not (length line == 0)) (map strip_carriage_return (slice_split (λ b. b == 10) text))

-- lines with this one in front, unless this one is empty
abbrev pub kept_line : List ℕ → List (List ℕ) → List (List ℕ)
kept_line line lines = cond (not (length line == 0)) (line ∷ lines) lines

-- a space or a tab
abbrev pub is_blank : ℕ → Bool
is_blank b = b == 32 || b == 9

abbrev pub without_front_blanks : List ℕ → List ℕ
without_front_blanks text = drop (prefix_len is_blank text) text

abbrev pub without_end_blanks : List ℕ → List ℕ
without_end_blanks text = take (length text - suffix_len is_blank text) text

abbrev pub trimmed : List ℕ → List ℕ
trimmed text = without_end_blanks (without_front_blanks text)

-- where the first colon stands
abbrev pub first_colon : List ℕ → Option ℕ
first_colon line = position (λ b. b == byte ":") line

-- a name and its value
abbrev pub NamedValue : Type 0
NamedValue = List ℕ × List ℕ

abbrev pub shown : Bor (List ℕ) × Bor (List ℕ) → NamedValue
shown lent = (lent.0.now, lent.1.now)

-- the name before the first colon, and the value after it without spaces and tabs at its ends
abbrev pub field_of : List ℕ → Option NamedValue
field_of line = option_map (λ at. (take at line, trimmed (drop (at + 1) line))) (first_colon line)

-- the fields of these lines, if each has a colon
abbrev pub fields_of_lines : List (List ℕ) → Option (List NamedValue)
fields_of_lines [] = Some []
fields_of_lines (line ∷ lines) =
    option_and_then (λ field. option_map (λ fields. field ∷ fields) (fields_of_lines lines)) (field_of line)

abbrev pub fields_of : List ℕ → Option (List NamedValue)
fields_of text = fields_of_lines (lines_of text)

-- a name's case doesn't count
abbrev pub is_content_type : List ℕ → Bool
is_content_type name = bytes_eq (map to_ascii_lowercase name) (codes "content-type")

-- the media type: the value of the first field that is named Content-Type, if each line has a colon
abbrev pub media_in : List ℕ → Option (List ℕ)
media_in text = option_and_then (λ fields. option_map (λ field. field.1) (find (λ field. is_content_type field.0) fields)) (fields_of text)

-- the media type's field, as it is written
abbrev pub content_type : List ℕ → List ℕ
content_type media = codes "Content-Type: " ++ media ++ codes "\r\n"

-- a field as it is written
abbrev pub field_line : NamedValue → List ℕ
field_line field = field.0 ++ codes ": " ++ field.1 ++ codes "\r\n"

-- the message fields that are written: the media type's, and then these
abbrev pub message_of : List ℕ → List NamedValue → List ℕ
message_of media fields = content_type media ++ flat_map field_line fields

-- what a field can carry as its value: no LF, and neither a space nor a tab at an end
pub record IsFieldValue (value : List ℕ) : Type 0 where
  pub line : All (λ b. b ≢ 10) value
  pub ends : trimmed value ≡ value

-- what a field can carry as its name: neither LF nor a colon
pub record IsFieldName (name : List ℕ) : Type 0 where
  pub line : All (λ b. b ≢ 10) name
  pub colon : All (λ b. b ≢ 58) name

-- what a field that is written can carry
abbrev pub IsField : NamedValue → Type 0
IsField field = IsFieldName field.0 × IsFieldValue field.1

-- ours: a media type is 1 to 255 printing ASCII characters, with a space at neither end
abbrev pub is_media_type : List ℕ → Bool
is_media_type media =
    nat_le 1 (length media) && nat_le (length media) longest_value && list_all (λ c. nat_le 0x20 c && nat_le c 0x7e) media
    && not (list_any (nat_eq 0x20) (take 1 media)) && not (list_any (nat_eq 0x20) (drop (length media - 1) media))

-- an ASCII letter, a digit or `-`
abbrev pub is_name_byte : ℕ → Bool
is_name_byte c = nat_le 0x41 c && nat_le c 0x5a || nat_le 0x61 c && nat_le c 0x7a || nat_le 0x30 c && nat_le c 0x39 || c == 0x2d

-- Ours: the name of a command's field is 1 to 64 letters, digits and `-`, and isn't that of the media type's field.
-- The value follows the rule for media types.
abbrev pub is_field_name : List ℕ → Bool
is_field_name name =
    nat_le 1 (length name) && nat_le (length name) longest_name && list_all is_name_byte name && not (is_content_type name)

abbrev pub is_field : NamedValue → Bool
is_field field = is_field_name field.0 && is_media_type field.1
