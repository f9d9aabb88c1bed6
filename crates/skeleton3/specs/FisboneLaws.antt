-- How long the packets of fisbones are, for the crates that lay them into pages.
use Rattle.std.proofs.Common.{◌≡◌, ℕ, ◌+◌, ◌*◌, ◌≤◌, List, [], ◌∷◌, ◌++◌, length, true, codes, arith, length-append}
use Rattle.std.specs.List.{flat_map, list_all}
use Rattle.std.proofs.lemmas.Bool.{and_parts, leb-true}
use Rattle.ogg_page.specs.Numbers.{u32_bytes, i64_bytes}
use Rattle.skeleton3.specs.Fields.{NamedValue, content_type, field_line, is_field, is_media_type, message_of}
use Rattle.skeleton3.specs.Fisbone.{Fisbone, fixed_part, fisbone_bytes_with}
use Rattle.skeleton3.specs.Sizes.{fixed_size, message_offset, longest_value, longest_name, longest_field, longest_media_field}

length-fixed : (fisbone : Fisbone) → length (fixed_part message_offset (0 ∷ 0 ∷ 0 ∷ []) fisbone) ≡ fixed_size
unfolding fixed_part u32_bytes i64_bytes
length-fixed fisbone = omega arith

-- 52 bytes, and the message fields
pub length-fisbone_bytes_with : (fields : List NamedValue) (fisbone : Fisbone) → length (fisbone_bytes_with fields fisbone) ≡ fixed_size + length (message_of fisbone.media fields)
length-fisbone_bytes_with fields fisbone =
    omega (arith, length-fixed fisbone, length-append (fixed_part message_offset (0 ∷ 0 ∷ 0 ∷ []) fisbone) (message_of fisbone.media fields))

length-content : (media : List ℕ) → length (content_type media) ≡ 16 + length media
length-content media =
    omega (arith, length-append (codes "Content-Type: ") media, length-append (codes "Content-Type: " ++ media) (codes "\r\n"))

length-line : (field : NamedValue) → length (field_line field) ≡ 4 + length field.0 + length field.1
length-line field =
    omega (arith, length-append field.0 (codes ": "), length-append (field.0 ++ codes ": ") field.1, length-append (field.0 ++ codes ": " ++ field.1) (codes "\r\n"))

media_size : (media : List ℕ) → is_media_type media ≡ true → length media ≤ longest_value
media_size media h =
    let first = and_parts _ _ (and_parts _ _ h).0 in
    leb-true (length media) longest_value (and_parts _ _ (and_parts _ _ first.0).0).1

name_size : (field : NamedValue) → is_field field ≡ true → length field.0 ≤ longest_name
name_size field h =
    let named = and_parts _ _ (and_parts _ _ h).0 in
    leb-true (length field.0) longest_name (and_parts _ _ (and_parts _ _ named.0).0).1

lines_size : (fields : List NamedValue) → list_all is_field fields ≡ true → length (flat_map field_line fields) ≤ length fields * longest_field
lines_size [] all = omega arith
lines_size (field ∷ fields) all =
    let parts : (is_field field ≡ true) × (list_all is_field fields ≡ true) = and_parts _ _ all in
    omega (
      arith,
      lines_size fields parts.1,
      length-append (field_line field) (flat_map field_line fields),
      length-line field,
      name_size field parts.0,
      media_size field.1 (and_parts _ _ parts.0).1,
    )

-- The message fields of a command are short: no longer than the longest field of a media type, and the longest other
-- field for each other.
pub message_size : (media : List ℕ) (fields : List NamedValue) → is_media_type media ≡ true → list_all is_field fields ≡ true
    → length (message_of media fields) ≤ longest_media_field + length fields * longest_field
message_size media fields is all =
    omega (arith, length-append (content_type media) (flat_map field_line fields), length-content media, media_size media is, lines_size fields all)
