-- Pieces of a file that are added one after the other. Ours.
use Rattle.std.specs.Prelude.{◌≡◌, ℕ, List, [], ◌∷◌}
use Rattle.std.specs.List.{AllByRecursion}
use Rattle.ogg_page.specs.Page.{Page, IsPage, bytes_of_pages}
use Rattle.link_chain.specs.Taking.{AreTaken}

-- Each piece is the bytes of whole pages, which may follow those before it; in the end the links are these.
abbrev pub AreAdded : List (List Page) → List (List ℕ) → List (List Page) → Type 0
AreAdded start [] links = links ≡ start
AreAdded start (piece ∷ pieces) links =
    (pages : List Page) × (after : List (List Page))
    × AllByRecursion IsPage pages × (piece ≡ bytes_of_pages pages) × AreTaken start pages after × AreAdded after pieces links
