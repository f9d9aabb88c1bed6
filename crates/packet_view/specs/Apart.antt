-- Which page each part of a packet is of: no page has two parts of one packet (RFC 3533, section 5).
use Rattle.std.specs.Prelude.{◌≡◌, ◌≤◌, ◌+◌, ◌⊎◌, ℕ, Ok, Err, List, [], ◌∷◌, length, ⊤}
use Rattle.ogg_page.specs.Page.{Page}
use Rattle.ogg_page.specs.Pages.{FoundPage}
use Rattle.packet_view.specs.Packets.{Part, body_place}

-- the pages among what is found, each with its offset
abbrev pub pages_found : List FoundPage → List (ℕ × Page)
pages_found [] = []
pages_found (Ok at ∷ found) = at ∷ pages_found found
pages_found (Err fault ∷ found) = pages_found found

-- the part lies in the body of this page, which is the stream's
pub record LiesIn (serial : ℕ) (at : ℕ × Page) (part : Part) : Type 0 where
  pub its : at.1.serial ≡ serial
  pub from : body_place at.0 at.1 ≤ part.place
  pub to : part.place + length part.bytes ≤ body_place at.0 at.1 + length at.1.body

-- each of these parts lies in one of these pages, in the same order, and no two lie in one page
abbrev pub LieApart : ℕ → List (ℕ × Page) → List Part → Type 0
LieApart serial [] [] = ⊤
LieApart serial [] (part ∷ parts) = ⊥
LieApart serial (at ∷ pages) [] = ⊤
LieApart serial (at ∷ pages) (part ∷ parts) = (LiesIn serial at part × LieApart serial pages parts) ⊎ LieApart serial pages (part ∷ parts)
