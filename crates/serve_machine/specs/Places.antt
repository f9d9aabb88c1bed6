-- What is left of a response, as a place in the committed bytes, so that no copy of them has to be kept. Ours.
use Rattle.std.specs.Prelude.{◌≡◌, ℕ, ◌+◌, ◌≤◌, List, [], ◌∷◌, ◌++◌, length, take, drop, slice_get, Some, Ok, Err}
use Rattle.std.specs.List.{AllByRecursion}
use Rattle.ogg_page.specs.Page.{Page, IsPage, bytes_of_pages}
use Rattle.ogg_page.specs.Pages.{FoundPage, found_in}
use Rattle.link_chain.specs.Links.{pages_with}
use Rattle.link_index.specs.Index.{LinkEntry, index_of}

-- ---- a part of the committed bytes
-- this many of the bytes, from this place on
abbrev pub part_at : ℕ → ℕ → List ℕ → List ℕ
part_at place count bytes = take count (drop place bytes)

-- all of the part is there
abbrev pub LiesIn : ℕ → ℕ → List ℕ → Type 0
LiesIn place count bytes = place + count ≤ length bytes

-- ---- a part of one stream's pages
-- of the bytes of the stream's pages among these, the first `skip` are passed over, and the next `count` are the part
abbrev pub stream_part : ℕ → List Page → ℕ → ℕ → List ℕ
stream_part serial pages skip count = part_at skip count (bytes_of_pages (pages_with serial pages))

-- A page begins at the place, and the rest is this part of the stream's pages from there on.
pub record IsStreamRest (committed : List ℕ) (serial place skip count : ℕ) (rest : List ℕ) : Type 0 where
  pub front : List ℕ
  pub pages : List Page
  pub behind : List ℕ
  pub split : committed ≡ front ++ (bytes_of_pages pages ++ behind)
  pub place_is : length front ≡ place
  pub are_pages : AllByRecursion IsPage pages
  pub inside : skip + count ≤ length (bytes_of_pages (pages_with serial pages))
  pub rest_is : rest ≡ stream_part serial pages skip count

-- the pages that were found, up to a fault
abbrev pub pages_among : List FoundPage → List Page
pages_among [] = []
pages_among (Ok found ∷ more) = found.1 ∷ pages_among more
pages_among (Err fault ∷ more) = []

-- The same rest as a function, for definitions that cite it.
abbrev pub stream_rest : List ℕ → ℕ → ℕ → ℕ → ℕ → List ℕ
stream_rest committed serial place skip count =
    stream_part serial (pages_among (found_in 0 (drop place committed))) skip count

-- a part of this stream of the link, as a rest that begins where the index says that the link begins
pub record BeginsWithLink (bytes : List ℕ) (links : List (List Page)) (number : ℕ) (link : List Page) (serial skip count : ℕ) : Type 0 where
  pub entry : LinkEntry
  pub entry_is : slice_get (index_of links) number ≡ Some entry
  pub is_rest : IsStreamRest bytes serial entry.info.start skip count (stream_part serial link skip count)
