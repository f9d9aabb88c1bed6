-- The definitions compute: one page byte by byte, written and read.
use Rattle.std.proofs.Common.{◌≡◌, ℕ, List, [], ◌∷◌, ◌++◌, refl, length, take, drop, Ok, Err}
use Rattle.page_checksum.specs.Checksum.{checksum_of, message_bits, number_of, remainder, bits_of, add, divisor}
use Rattle.ogg_page.specs.Page.{Page, page_bytes, fixed_part}
use Rattle.ogg_page.specs.Reading.{page_at}
use Rattle.ogg_page.specs.Pages.{located, fault_at}
use Rattle.ogg_page.specs.declared.fault.PageFault.TheVariants.{Short, Pattern, Version, Checksum}

pub first : Page
first = record { flags = 2; position = 0; serial = 1; sequence = 0; lacing = 3 ∷ []; body = 97 ∷ 98 ∷ 99 ∷ [] }

size_of_first : length (page_bytes first) ≡ 31
unfolding first page_bytes fixed_part checksum_of message_bits number_of remainder bits_of add divisor
size_of_first = refl

-- that page, byte by byte
bytes_of_first : List ℕ
bytes_of_first =
    0x4F ∷ 0x67 ∷ 0x67 ∷ 0x53 ∷ 0 ∷ 2 ∷ 0 ∷ 0 ∷ 0 ∷ 0 ∷ 0 ∷ 0 ∷ 0 ∷ 0 ∷ 1 ∷ 0 ∷ 0 ∷ 0 ∷ 0 ∷ 0 ∷ 0 ∷ 0
    ∷ 0x92 ∷ 0xDD ∷ 0xF6 ∷ 0x15 ∷ 1 ∷ 3 ∷ 0x61 ∷ 0x62 ∷ 0x63 ∷ []

first_is_written : page_bytes first ≡ bytes_of_first
unfolding first bytes_of_first page_bytes fixed_part checksum_of message_bits number_of remainder bits_of add divisor
first_is_written = refl

first_is_read : page_at bytes_of_first ≡ Ok first
unfolding first bytes_of_first page_at checksum_of message_bits number_of remainder bits_of add divisor
first_is_read = refl

cut_first_is_short : page_at (take 30 bytes_of_first) ≡ Err Short
unfolding bytes_of_first page_at
cut_first_is_short = refl

other_text_is_no_page : page_at (0x6F ∷ drop 1 bytes_of_first) ≡ Err Pattern
unfolding bytes_of_first page_at
other_text_is_no_page = refl

version_one_is_refused : page_at (take 4 bytes_of_first ++ 1 ∷ drop 5 bytes_of_first) ≡ Err Version
unfolding bytes_of_first page_at
version_one_is_refused = refl

changed_body_is_refused : page_at (take 28 bytes_of_first ++ 0x41 ∷ drop 29 bytes_of_first) ≡ Err Checksum
unfolding bytes_of_first page_at checksum_of message_bits number_of remainder bits_of add divisor
changed_body_is_refused = refl

-- two pages and a byte: the second page begins at 31, and nothing at 62
found_one_by_one : located 0 (first ∷ first ∷ []) ++ fault_at 62 (0x4F ∷ []) ≡ Ok (0, first) ∷ Ok (31, first) ∷ Err (62, Short) ∷ []
unfolding first page_at
found_one_by_one = refl
