-- Where pages are made, one after the other. Ours.
use Rattle.std.specs.Prelude.{◌≡◌, ℕ, ◌≤◌, Bool, true, false, List, [], ◌∷◌, ◌++◌}
use Rattle.ogg_page.specs.Page.{Page, bytes_with, page_bytes, page_of, page_size}
use Rattle.ogg_page.specs.declared.head.PageHead.{PageHead}

-- ---- a vector: what stands in it before and now, and its capacity before and now
-- the page's body so far is appended, behind all that comes before a body; the checksum is still zero
pub record IsAppending (before : List ℕ) (capacity : ℕ) (head : PageHead) (lacing body : List ℕ)
    (now : List ℕ) (capacity' : ℕ) : Type 0 where
  pub items : now ≡ before ++ bytes_with 0 (page_of head lacing body)
  pub room : capacity ≤ capacity'

-- the page is appended
pub record IsAppended (before : List ℕ) (capacity : ℕ) (page : Page) (now : List ℕ) (capacity' : ℕ) : Type 0 where
  pub items : now ≡ before ++ page_bytes page
  pub room : capacity ≤ capacity'

-- ---- any space
-- there is room for the first of these pages
abbrev pub NextFits : {S : Type 0} → (S → ℕ → Type 0) → S → List Page → Type 0
NextFits fits space pages = (page : Page) (rest : List Page) → pages ≡ page ∷ rest → fits space (page_size page)

-- the first of the pages that are left was made; or none is left, and nothing was done
abbrev pub NextMade : {S : Type 0} → (S → Page → S → Type 0) → S → List Page → Bool → List Page → S → Type 0
NextMade has_made before old true new now = (page : Page) × (old ≡ page ∷ new) × has_made before page now
NextMade has_made before old false new now = (old ≡ []) × (new ≡ []) × (now ≡ before)
