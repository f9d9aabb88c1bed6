-- What the head of a page says of it (RFC 3533, section 6).
use Rattle.std.specs.Prelude.{◌≡◌, take}
use Rattle.ogg_page.specs.Page.{Page, IsPage, page_bytes, page_size}
use Rattle.ogg_page.specs.Head.{head_size, checksum_in}
use Rattle.ogg_page.specs.LogicalStream.{is_first, is_last}
use Rattle.page_heads.specs.declared.front.PageFacts.{PageFacts}
use Rattle.page_heads.specs.declared.front.PageFront.{PageFront}

-- what a page's head says
abbrev pub facts_of : Page → PageFacts
facts_of page =
    record {
      begins = is_first page;
      ends = is_last page;
      serial = page.serial;
      number = page.sequence;
      checksum = checksum_in page;
      len = head_size page;
      size = page_size page;
    }

-- what was read of the page: its head, and what the head says
pub record IsFrontOf (page : Page) (front : PageFront) : Type 0 where
  pub is_page : IsPage page
  pub facts : front.facts ≡ facts_of page
  pub bytes : take (head_size page) front.bytes ≡ take (head_size page) (page_bytes page)
