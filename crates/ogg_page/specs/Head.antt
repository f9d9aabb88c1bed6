-- The head of a page that stands in front of bytes (RFC 3533, section 6).
use Rattle.std.specs.Prelude.{◌≡◌, ℕ, ◌+◌, List, ◌++◌, length}
use Rattle.page_checksum.specs.Checksum.{checksum_of}
use Rattle.ogg_page.specs.declared.head.PageHeader.{PageHeader}
use Rattle.ogg_page.specs.Page.{Page, IsPage, bytes_with, page_bytes}
use Rattle.ogg_page.specs.Sizes.{fixed_size}

-- the bytes begin with those of the page
pub record Stands (bytes : List ℕ) (page : Page) : Type 0 where
  pub is_page : IsPage page
  pub tail : List ℕ
  pub spelled : bytes ≡ page_bytes page ++ tail

-- the fixed part, and a byte for each lacing value
abbrev pub head_size : Page → ℕ
head_size page = fixed_size + length page.lacing

-- the checksum that stands in the page's bytes
abbrev pub checksum_in : Page → ℕ
checksum_in page = checksum_of (bytes_with 0 page)

-- the header of a page that has this checksum
abbrev pub header_with : ℕ → Page → PageHeader
header_with checksum page =
    record {
      head = record { flags = page.flags; position = page.position; serial = page.serial; sequence = page.sequence };
      checksum = checksum;
      values = length page.lacing;
      body = length page.body;
    }

-- the header of a page
abbrev pub header_of : Page → PageHeader
header_of page = header_with (checksum_in page) page
