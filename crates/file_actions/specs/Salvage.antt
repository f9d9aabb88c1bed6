-- What `salvage` writes of a file, piece by piece. Ours.
use Rattle.std.specs.Prelude.{◌≡◌, ◌⊎◌, ◌≤◌, ℕ, ◌+◌, ◌-◌, ◌^◌, min, max, nat_lt, if◌then◌else◌, List, [], ◌∷◌, ◌++◌, codes}
use Rattle.std.specs.Fmt.{decimal}
use Rattle.ogg_page.specs.Sizes.{longest_page}
use Rattle.ogg_split.specs.Salvage.{AreGoodFrom}
use Rattle.ogg_split.specs.declared.salvaging.GoodPage.{GoodPage}
use Rattle.file_actions.specs.Lines.{line_end}

-- a sum, as far as there is room for it
abbrev pub sum_of : ℕ → ℕ → ℕ
sum_of a b = min (a + b) (2 ^ 64 - 1)

-- OFFSET LENGTH
abbrev pub page_line : ℕ → ℕ → List ℕ
page_line offset length = decimal offset ++ (codes " " ++ (decimal length ++ line_end))

-- a line for each page
abbrev pub page_lines : List GoodPage → List ℕ
page_lines [] = []
page_lines (page ∷ pages) = page_line page.offset page.length ++ page_lines pages

-- how many bytes a piece has that doesn't go to the end of the file
abbrev pub piece_size : ℕ
piece_size = 2 ^ 20 + (longest_page - 1)

-- a piece of this length, if the file ends `left` bytes after its front: it goes to the end of the file, or has all the
-- bytes of a piece
abbrev pub IsPiece : ℕ → ℕ → Type 0
IsPiece length left = (left ≤ length) ⊎ (piece_size ≤ length)

-- It is known which pages begin in the piece before this place: the file ends with the piece, or they show whole.
pub record IsSure (length left sure : ℕ) : Type 0 where
  pub inside : sure ≤ max length 1
  pub all : left ≤ length → length ≤ sure
  pub whole : (left ≤ length) ⊎ (sure + (longest_page - 1) ≤ length)

-- those pages of a piece that begin before this place in it, as they stand in the file, in which the piece begins at `at`
abbrev pub pages_before : ℕ → ℕ → List GoodPage → List GoodPage
pages_before at sure [] = []
pages_before at sure (page ∷ pages) =
    if nat_lt page.offset sure then record { offset = sum_of at page.offset; length = page.length } ∷ pages_before at sure pages else pages_before at sure pages

-- how far the piece has been searched with them: this far, or up to the end of the last of them
abbrev pub searched_with : ℕ → ℕ → List GoodPage → ℕ
searched_with searched sure [] = searched
searched_with searched sure (page ∷ pages) =
    if nat_lt page.offset sure then searched_with (max searched (sum_of page.offset page.length)) sure pages else searched_with searched sure pages

-- These are the good pages from `at` up to `to`: before those from `to` on, they are the good pages from `at` on.
abbrev pub AreGoodBetween : ℕ → ℕ → List ℕ → List GoodPage → Type 0
AreGoodBetween at to bytes pages = (more : List GoodPage) → AreGoodFrom to bytes more → AreGoodFrom at bytes (pages ++ more)
