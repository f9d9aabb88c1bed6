-- How an ended stream ends once it is finished.
use Rattle.std.specs.Prelude.{◌≡◌, ◌⊎◌, ◌∷◌, ◌++◌, true, false, not, List, []}
use Rattle.std.specs.List.{AllByRecursion, list_any}
use Rattle.ogg_page.specs.Page.{Page}
use Rattle.ogg_page.specs.LogicalStream.{is_last}
use Rattle.ogg_finish.specs.Finishing.{is_full, mark_on, repeats}

-- the last page can carry the mark, and has it
pub record EndsMarked (pages : List Page) : Type 0 where
  pub front : List Page
  pub page : Page
  pub last : pages ≡ front ++ page ∷ []
  pub full : is_full page ≡ true
  pub marked : is_last page ≡ true

-- none of these pages can carry the mark
abbrev pub NoneFull : List Page → Type 0
NoneFull pages = AllByRecursion (λ page. is_full page ≡ false) pages

-- after the last page that can carry the mark, a page has another position
pub record TellsMore (pages : List Page) : Type 0 where
  pub front : List Page
  pub page : Page
  pub behind : List Page
  pub split : pages ≡ front ++ page ∷ behind
  pub full : is_full page ≡ true
  pub none : NoneFull behind
  pub other : list_any (λ later. not (repeats (mark_on page) later)) behind ≡ true

-- The finished pages of an ended stream end on a marked page with lacing values. Or nothing is changed: no page can
-- carry the mark, or a page without packets has the position of the stream's end, as some encoders write it.
abbrev pub EndsFull : List Page → List Page → Type 0
EndsFull old new = EndsMarked new ⊎ ((NoneFull old ⊎ TellsMore old) × (new ≡ old))
