-- What a listener has still to hear of what is committed. Ours.
use Rattle.std.specs.Prelude.{◌≡◌, ℕ, ◌+◌, ◌<◌, ◌≤◌, ◌&&◌, ◌==◌, Bool, nat_le, List, [], ◌∷◌, ◌++◌, length, take, drop, min}
pub use Rattle.ogg_page.specs.Window.{HasFailed}
use Rattle.std.specs.List.{AllByRecursion}
use Rattle.ogg_page.specs.Page.{Page, IsPage, page_size, bytes_of_pages}
use Rattle.serve_live.specs.Heard.{named_after}
use Rattle.serve_live.specs.Names.{name_in}
use Rattle.serve_live.specs.declared.names.StreamName.{StreamName}

-- this many of the bytes, from this place on
abbrev pub part_at : ℕ → ℕ → List ℕ → List ℕ
part_at place count bytes = take count (drop place bytes)

-- so many bytes of the first page are heard; of no page none is
abbrev pub IsWithin : ℕ → List Page → Type 0
IsWithin skip [] = skip ≡ 0
IsWithin skip (page ∷ pages) = skip < page_size page

-- ---- the pages since the moment of joining
-- A page begins at the place, or the committed bytes end there. The rest is what is heard of the pages from there on,
-- after the bytes that were heard of the first of them.
pub record ArePagesLeft (committed : List ℕ) (names : List StreamName) (place skip : ℕ) (rest : List ℕ) : Type 0 where
  pub front : List ℕ
  pub pages : List Page
  pub split : committed ≡ front ++ bytes_of_pages pages
  pub place_is : length front ≡ place
  pub are_pages : AllByRecursion IsPage pages
  pub inside : IsWithin skip pages
  pub rest_is : rest ≡ drop skip (bytes_of_pages (named_after (name_in names) pages))

-- ---- the whole
pub record ListenerState : Type 0 where
  -- what isn't heard of the link's beginning lies here in the file
  pub begin_place : ℕ
  pub begin_left : ℕ
  -- what isn't heard of the pages that end streams
  pub text : List ℕ
  -- how the streams are heard, until another link begins
  pub names : List StreamName
  -- where the page stands that is heard next, and how many of its bytes were heard
  pub place : ℕ
  pub skip : ℕ

-- over these committed bytes, this is still to be heard
pub record IsLeft (committed : List ℕ) (listener : ListenerState) (rest : List ℕ) : Type 0 where
  pub begins : listener.begin_place + listener.begin_left ≤ length committed
  pub pages : List ℕ
  pub pages_left : ArePagesLeft committed listener.names listener.place listener.skip pages
  pub joined : rest ≡ part_at listener.begin_place listener.begin_left committed ++ (listener.text ++ pages)

-- nothing of this is left, if the committed bytes end there
abbrev pub has_heard_all : ℕ → ListenerState → Bool
has_heard_all end listener = (listener.begin_left == 0) && (nat_le (length listener.text) 0 && nat_le end listener.place)

-- what a pull takes: the first bytes of what was to be heard are in the buffer, as many as go in
pub record Gives (committed rest : List ℕ) (size : ℕ) (buffer : List ℕ) (count : ℕ) (after : ListenerState) : Type 0 where
  pub count_is : count ≡ min (length rest) size
  pub given : take count buffer ≡ take size rest
  pub left : IsLeft committed after (drop size rest)
