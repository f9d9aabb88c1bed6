-- The page at the front of bytes, or the first thing that is wrong there (RFC 3533, section 6).
use Rattle.std.specs.Prelude.{◌≡◌, ◌≤◌, ℕ, ◌+◌, not, nat_eq, nat_lt, if◌then◌else◌, Result, Ok, Err, List, [], ◌∷◌, ◌++◌, length, take, drop, sum, slice_index, codes}
use Rattle.std.specs.List.{starts_with}
use Rattle.byteorder.specs.Endian.{little_number}
use Rattle.page_checksum.specs.Checksum.{checksum_of}
use Rattle.ogg_page.specs.Page.{Page}
use Rattle.ogg_page.specs.declared.head.PageHead.{PageHead}
use Rattle.ogg_page.specs.declared.head.PageHeader.{PageHeader}
use Rattle.ogg_page.specs.declared.fault.PageFault.{PageFault}
use Rattle.ogg_page.specs.declared.fault.PageFault.TheVariants.{Short, Pattern, Version, Checksum}
use Rattle.ogg_page.specs.Sizes.{fixed_size}

-- the lacing values; byte 26 is their number
abbrev pub lacing_at : List ℕ → List ℕ
lacing_at bytes = take (slice_index bytes 26) (drop fixed_size bytes)

abbrev pub behind_lacing : List ℕ → List ℕ
behind_lacing bytes = drop (slice_index bytes 26) (drop fixed_size bytes)

-- how many bytes the page has that begins with this head and these lacing values
abbrev pub size_at : List ℕ → ℕ
size_at bytes = fixed_size + slice_index bytes 26 + sum (lacing_at bytes)

-- the page with the fields at their places
abbrev pub fields_at : List ℕ → Page
fields_at bytes =
    record {
      flags = slice_index bytes 5;
      position = little_number 8 (drop 6 bytes);
      serial = little_number 4 (drop 14 bytes);
      sequence = little_number 4 (drop 18 bytes);
      lacing = lacing_at bytes;
      body = take (sum (lacing_at bytes)) (behind_lacing bytes);
    }

-- the numbers at their places that the page's writer chose
abbrev pub head_at : List ℕ → PageHead
head_at bytes =
    record {
      flags = slice_index bytes 5;
      position = little_number 8 (drop 6 bytes);
      serial = little_number 4 (drop 14 bytes);
      sequence = little_number 4 (drop 18 bytes);
    }

-- the header in front, whose body needn't be there, or the first fault in this order
unfoldable pub header_at : List ℕ → Result PageHeader PageFault
header_at bytes =
    if nat_lt (length bytes) fixed_size then Err Short
    else (if not (starts_with nat_eq bytes (codes "OggS")) then Err Pattern
    else (if not (nat_eq (slice_index bytes 4) 0) then Err Version
    else (if nat_lt (length bytes) (fixed_size + slice_index bytes 26) then Err Short
    else Ok (record {
      head = head_at bytes;
      checksum = little_number 4 (drop 22 bytes);
      values = slice_index bytes 26;
      body = sum (lacing_at bytes);
    }))))

-- a page's bytes with zeros in the checksum's place
abbrev pub blanked : List ℕ → List ℕ
blanked bytes = take 22 bytes ++ 0 ∷ 0 ∷ 0 ∷ 0 ∷ [] ++ drop 26 bytes

-- the page, or the first fault in this order
unfoldable pub page_at : List ℕ → Result Page PageFault
page_at bytes =
    if nat_lt (length bytes) fixed_size then Err Short
    else (if not (starts_with nat_eq bytes (codes "OggS")) then Err Pattern
    else (if not (nat_eq (slice_index bytes 4) 0) then Err Version
    else (if nat_lt (length bytes) (fixed_size + slice_index bytes 26) then Err Short
    else (if nat_lt (length (behind_lacing bytes)) (sum (lacing_at bytes)) then Err Short
    else (if not (nat_eq (little_number 4 (drop 22 bytes)) (checksum_of (blanked (take (size_at bytes) bytes)))) then Err Checksum
    else Ok (fields_at bytes))))))

-- the page at the front has this number of lacing values and this number of bytes of body
pub record IsPageOf (bytes : List ℕ) (values size : ℕ) : Type 0 where
  pub page : page_at bytes ≡ Ok (fields_at bytes)
  pub table : values ≡ slice_index bytes 26
  pub body : size ≡ sum (lacing_at bytes)
  pub whole : fixed_size + values + size ≤ length bytes
