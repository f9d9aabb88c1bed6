-- A page that is made piece by piece in a room of 65,308 bytes. Ours.
use Rattle.std.specs.Prelude.{◌≡◌, ℕ, ◌+◌, ◌≤◌, Option, Some, None, List, [], ◌∷◌, ◌++◌, length, sum, take, drop, ⊤}
use Rattle.ogg_page.specs.Page.{Page, page_bytes, page_of}
use Rattle.ogg_page.specs.declared.head.PageHead.{PageHead}
use Rattle.ogg_page.specs.Sizes.{fixed_size, most_values, longest_body, room_size}

-- its lacing values, its body so far, and the page, once it is finished
pub record PageInWork : Type 0 where
  pub lacing : List ℕ
  pub body : List ℕ
  pub finished : Option Page

abbrev pub started : List ℕ → PageInWork
started lacing = record { lacing = lacing; body = []; finished = None }

-- where the values and the body lie in the room
abbrev pub lacing_in : ℕ → List ℕ → List ℕ
lacing_in values room = take values (drop fixed_size room)

abbrev pub body_in : ℕ → ℕ → List ℕ → List ℕ
body_in values size room = take size (drop (fixed_size + values) room)

abbrev pub page_in : PageHead → ℕ → ℕ → List ℕ → Page
page_in head values size room = page_of head (lacing_in values room) (body_in values size room)

abbrev pub finished_in : Option PageHead → ℕ → ℕ → List ℕ → Option Page
finished_in None values size room = None
finished_in (Some head) values size room = Some (page_in head values size room)

-- a finished page stands in front, and the byte after it is 0
abbrev pub IsClosed : Option PageHead → ℕ → ℕ → List ℕ → Type 0
IsClosed None values size room = ⊤
IsClosed (Some head) values size room =
    (size ≡ sum (lacing_in values room)) × (take (fixed_size + 1 + values + size) room ≡ page_bytes (page_in head values size room) ++ 0 ∷ [])

-- the room holds a page in work
pub record IsInRoom (head : Option PageHead) (values size : ℕ) (room : List ℕ) : Type 0 where
  pub whole : length room ≡ room_size
  pub few : values ≤ most_values
  pub small : sum (lacing_in values room) ≤ longest_body
  pub fits : size ≤ sum (lacing_in values room)
  pub closed : IsClosed head values size room
