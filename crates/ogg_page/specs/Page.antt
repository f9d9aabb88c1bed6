-- A page and its bytes (RFC 3533, section 6).
use Rattle.std.specs.Prelude.{◌≡◌, ℕ, ◌+◌, ◌<◌, ◌≤◌, ◌^◌, List, [], ◌∷◌, ◌++◌, length, sum, slice_index}
use Rattle.std.specs.List.{AllByRecursion, flat_map}
use Rattle.std.specs.Prelude.{codes}
use Rattle.byteorder.specs.Endian.{little_bytes}
use Rattle.ogg_page.specs.declared.head.PageHead.{PageHead}
use Rattle.page_checksum.specs.Checksum.{checksum_of}
use Rattle.ogg_page.specs.Sizes.{fixed_size, most_values}

-- a page, without where it lies in memory
pub record Page : Type 0 where
  pub flags : ℕ
  pub position : ℕ
  pub serial : ℕ
  pub sequence : ℕ
  pub lacing : List ℕ
  pub body : List ℕ

abbrev pub IsByte : ℕ → Type 0
IsByte x = x < 256

-- each number is a byte (after the end `slice_index` is 0)
abbrev pub AreBytes : List ℕ → Type 0
AreBytes bytes = (i : ℕ) → slice_index bytes i < 256

-- what has bytes as a page: each number is in its field's range, and the lacing values add up to the body
pub record IsPage (p : Page) : Type 0 where
  pub flags : p.flags < 256
  pub position : p.position < 2 ^ 64
  pub serial : p.serial < 2 ^ 32
  pub sequence : p.sequence < 2 ^ 32
  pub values : length p.lacing ≤ most_values
  pub lacing : AllByRecursion IsByte p.lacing
  pub body : AllByRecursion IsByte p.body
  pub whole : sum p.lacing ≡ length p.body

-- The 27 bytes that each page begins with: the capture pattern, the version, the flags, the position, the serial,
-- the sequence number, the checksum and the number of lacing values.
unfoldable pub fixed_part : ℕ → Page → List ℕ
fixed_part checksum p =
    codes "OggS" ++ 0 ∷ p.flags ∷ [] ++ little_bytes 8 p.position ++ little_bytes 4 p.serial ++ little_bytes 4 p.sequence
    ++ little_bytes 4 checksum ++ length p.lacing ∷ []

abbrev pub bytes_with : ℕ → Page → List ℕ
bytes_with checksum p = fixed_part checksum p ++ p.lacing ++ p.body

-- the bytes of a page: the checksum is taken with its own four bytes as zero
unfoldable pub page_bytes : Page → List ℕ
page_bytes p = bytes_with (checksum_of (bytes_with 0 p)) p

-- how many bytes a page has
abbrev pub page_size : Page → ℕ
page_size page = fixed_size + length page.lacing + length page.body

-- the bytes of pages, one after the other
abbrev pub bytes_of_pages : List Page → List ℕ
bytes_of_pages pages = flat_map page_bytes pages

-- the page with this head, these lacing values and this body
abbrev pub page_of : PageHead → List ℕ → List ℕ → Page
page_of head lacing body =
    record { flags = head.flags; position = head.position; serial = head.serial; sequence = head.sequence; lacing = lacing; body = body }
