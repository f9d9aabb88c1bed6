-- A packet as slices of its source.
use Rattle.std.specs.Prelude.{◌≡◌, ℕ, List, ◌++◌, [], map}
use Rattle.std.specs.List.{AllByRecursion}
use Rattle.ogg_page.specs.Page.{Page, IsPage, bytes_of_pages}
use Rattle.ogg_page.specs.Pages.{found_in}
use Rattle.packet_view.specs.Packets.{Part, with_part}
use Rattle.packet_view.specs.Walking.{parts_in}

-- the bytes are whole pages
pub record ArePages (bytes : List ℕ) : Type 0 where
  pub pages : List Page
  pub are_pages : AllByRecursion IsPage pages
  pub joined : bytes ≡ bytes_of_pages pages

-- these bytes at this place, and then the stream's parts in these pages
abbrev pub parts_of : ℕ → List ℕ → ℕ → ℕ → List ℕ → List Part
parts_of place first serial offset more = with_part [] place first ++ parts_in serial (found_in offset more)

-- the bytes of each part
abbrev pub slices_of : List Part → List (List ℕ)
slices_of parts = map (λ part. part.bytes) parts

-- the bytes of each of the stream's parts in these pages
abbrev pub slices_in : ℕ → List ℕ → List (List ℕ)
slices_in serial more = slices_of (parts_in serial (found_in 0 more))
