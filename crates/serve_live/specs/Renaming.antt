-- The bytes of a page under another serial, with another number, and what that adds to the checksum (RFC 3533, section
-- 6). Ours.
use Rattle.std.specs.Prelude.{◌≡◌, ℕ, ◌-◌, List, [], ◌∷◌, ◌++◌, length, replicate, bit_xor, codes}
use Rattle.byteorder.specs.Endian.{little_bytes}
use Rattle.page_checksum.specs.Checksum.{checksum_of}
use Rattle.ogg_page.specs.Page.{Page, page_size}

-- the bytes of the page before its number, and those after its checksum
abbrev pub front_of : Page → List ℕ
front_of page = codes "OggS" ++ 0 ∷ page.flags ∷ [] ++ little_bytes 8 page.position ++ little_bytes 4 page.serial

abbrev pub back_of : Page → List ℕ
back_of page = length page.lacing ∷ (page.lacing ++ page.body)

-- each byte added to the one at its place, bit by bit without carrying
abbrev pub xor_bytes : List ℕ → List ℕ → List ℕ
xor_bytes [] ys = []
xor_bytes (x ∷ xs) [] = []
xor_bytes (x ∷ xs) (y ∷ ys) = bit_xor x y ∷ xor_bytes xs ys

-- ---- any change of the fields before the checksum
-- the bytes of the page before its checksum
abbrev pub fields_of : Page → List ℕ
fields_of page = front_of page ++ little_bytes 4 page.sequence

-- the pages differ in these fields alone
pub record HasSameRest (old new : Page) : Type 0 where
  pub lacing : new.lacing ≡ old.lacing
  pub body : new.body ≡ old.body

-- what the bits that differ add to the checksum: no byte after them counts
abbrev pub fields_change : Page → Page → ℕ
fields_change old new = checksum_of (xor_bytes (fields_of old) (fields_of new) ++ replicate (page_size old - 22) 0)

-- ---- another serial, and another number
abbrev pub retold : ℕ → ℕ → Page → Page
retold serial number page = record page { serial = serial; sequence = number }

-- the bytes of the page before its serial
abbrev pub head_of : Page → List ℕ
head_of page = codes "OggS" ++ 0 ∷ page.flags ∷ [] ++ little_bytes 8 page.position

abbrev pub names_of : ℕ → ℕ → List ℕ
names_of serial number = little_bytes 4 serial ++ little_bytes 4 number

-- what the two add to the checksum of a page of this size
abbrev pub names_change : ℕ → ℕ → ℕ → ℕ → ℕ → ℕ
names_change old_serial old_number serial number size =
    checksum_of (xor_bytes (names_of old_serial old_number) (names_of serial number) ++ replicate (size - 22) 0)

-- the same of a page
abbrev pub page_change : Page → ℕ → ℕ → ℕ
page_change page serial number = names_change page.serial page.sequence serial number (page_size page)
