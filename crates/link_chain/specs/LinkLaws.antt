-- What holds of links and of what they hold. These are laws, to be cited.
use Rattle.std.specs.Prelude.{◌≡◌, ◌↔◌, ℕ, List, []}
use Rattle.std.specs.List.{AllByRecursion}
use Rattle.ogg_page.specs.Page.{Page, IsPage, IsByte, bytes_of_pages}
use Rattle.link_chain.specs.Links.{AreLinks, flattened}
use Rattle.link_chain.specs.Recording.{Recording, HoldsLinks, Holds}
use Rattle.link_chain.specs.Taking.{AreTaken}
use Rattle.link_chain.specs.Laws.InTurn
use Rattle.link_chain.specs.Laws.OneChain

-- the same bytes are one chain of links at most
pub one_chain : (bytes : List ℕ) (links others : List (List Page)) → AreLinks bytes links → AreLinks bytes others → links ≡ others
one_chain bytes links others a b = OneChain.one_chain bytes links others a b

-- the same links hold one recording, and so do the same bytes
pub one_recording : (links : List (List Page)) (recording other : Recording) → HoldsLinks links recording → HoldsLinks links other → recording ≡ other
one_recording links recording other a b = OneChain.one_recording links recording other a b

pub one_held : (bytes : List ℕ) (recording other : Recording) → Holds bytes recording → Holds bytes other → recording ≡ other
one_held bytes recording other a b = OneChain.one_held bytes recording other a b

-- the bytes of links are below 256
pub all_bytes_of_links : (bytes : List ℕ) (links : List (List Page)) → AreLinks bytes links → AllByRecursion IsByte bytes
all_bytes_of_links bytes links l = OneChain.all_bytes_of_links bytes links l

-- the pages of links are pages, and their bytes are those of the links
pub pages_flattened : (links : List (List Page)) → AllByRecursion (AllByRecursion IsPage) links → AllByRecursion IsPage (flattened links)
pages_flattened links are = InTurn.pages_flattened links are

-- pages are taken in turn, from no links on, exactly if their bytes are links
pub in_turn : (pages : List Page) (links : List (List Page)) → AllByRecursion IsPage pages → AreTaken [] pages links ↔ AreLinks (bytes_of_pages pages) links
in_turn pages links are = InTurn.in_turn pages links are

-- the pages of links are taken in turn
pub only : (bytes : List ℕ) (links : List (List Page)) → AreLinks bytes links → AreTaken [] (flattened links) links
only bytes links l = InTurn.only bytes links l
