-- What the head of a page says of it (RFC 3533, section 6).
use Rattle.ogg_page.specs.Page.{Page, page_size}
use Rattle.serve_sending.specs.declared.extent.Extent.{Extent}

-- its stream, and how many bytes it has
abbrev pub extent_of : Page → Extent
extent_of page = record { serial = page.serial; size = page_size page }
