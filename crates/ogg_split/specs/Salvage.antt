-- The good pages of any bytes, damaged ones too. What a page is stands in RFC 3533, section 6; which of them are
-- listed is ours.
use Rattle.std.specs.Prelude.{◌≡◌, ◌⊎◌, ℕ, ◌+◌, ◌<◌, ◌≤◌, List, [], ◌∷◌, ◌++◌, drop, ⊤}
use Rattle.std.specs.List.{AllByRecursion}
use Rattle.ogg_page.specs.Page.{Page, IsPage, page_bytes, page_size}
use Rattle.ogg_split.specs.declared.salvaging.GoodPage.{GoodPage}

-- The bytes of this page stand at this place.
pub record StandsAt (bytes : List ℕ) (place : ℕ) (page : Page) : Type 0 where
  pub is_page : IsPage page
  pub rest : List ℕ
  pub spelled : drop place bytes ≡ page_bytes page ++ rest

-- the range has the bytes of a page, from its first one to its last
abbrev pub IsRange : List ℕ → GoodPage → Type 0
IsRange bytes range = (page : Page) × StandsAt bytes range.offset page × (range.length ≡ page_size page)

-- each range begins at this place or after it, and none begins before the end of the range before it
abbrev pub AreInOrder : ℕ → List GoodPage → Type 0
AreInOrder from [] = ⊤
AreInOrder from (range ∷ ranges) = (from ≤ range.offset) × AreInOrder (range.offset + range.length) ranges

-- the place lies before the range, or after it
abbrev pub IsOutside : ℕ → GoodPage → Type 0
IsOutside place range = (place < range.offset) ⊎ (range.offset + range.length ≤ place)

-- From this place on these are the good pages: the ranges rise and don't overlap, each is a page's bytes, and no page
-- begins at a place outside all of them.
pub record AreGoodFrom (from : ℕ) (bytes : List ℕ) (ranges : List GoodPage) : Type 0 where
  pub in_order : AreInOrder from ranges
  pub each : AllByRecursion (IsRange bytes) ranges
  pub no_other : (place : ℕ) (page : Page) → from ≤ place → AllByRecursion (IsOutside place) ranges → StandsAt bytes place page → ⊥

-- the good pages of all these bytes
abbrev pub AreGoodPages : List ℕ → List GoodPage → Type 0
AreGoodPages bytes ranges = AreGoodFrom 0 bytes ranges
