-- The head of a page, as it is heard.
use Rattle.std.specs.Prelude.{◌≡◌, ℕ, List, if◌then◌else◌, drop, take}
use Rattle.ogg_page.specs.Page.{Page, page_bytes, page_size}
use Rattle.ogg_page.specs.Head.{Stands, head_size}
use Rattle.ogg_page.specs.LogicalStream.{is_first}
use Rattle.serve_live.specs.Heard.{named_page}
use Rattle.serve_live.specs.Names.{name_in}
use Rattle.serve_live.specs.declared.names.StreamName.{StreamName}
use Rattle.serve_live.specs.declared.heads.HeardHead.{HeardHead}

-- the page, as it is heard after the moment of joining
abbrev pub next_heard : (ℕ → StreamName) → Page → Page
next_heard names page = if is_first page then page else named_page names page

-- the head that is kept is that of the page, as it is heard
pub record IsHeadOf (names : ℕ → StreamName) (page : Page) (head : HeardHead) : Type 0 where
  pub begins : head.begins ≡ is_first page
  pub len : head.len ≡ head_size page
  pub size : head.size ≡ page_size page
  pub bytes : take (head_size page) head.bytes ≡ take (head_size page) (page_bytes (next_heard names page))

-- the head that is kept is that of the page which stands at this place, whichever that is
abbrev pub IsHeadAt : List ℕ → ℕ → List StreamName → HeardHead → Type 0
IsHeadAt bytes place names head = (page : Page) → Stands (drop place bytes) page → IsHeadOf (name_in names) page head
