-- What the index of a file's committed bytes is. Ours.
use Rattle.std.specs.Prelude.{◌≡◌, ℕ, Some, List, [], ◌∷◌, ◌++◌, length}
use Rattle.std.specs.List.{AllByRecursion}
use Rattle.link_chain.specs.ChainState.{chain_state_of}
use Rattle.link_chain.specs.Links.{AreLinks}
use Rattle.link_chain.specs.Taking.{AreTaken, fault_of_page}
use Rattle.link_chain.specs.declared.chain_fault.ChainFault.{ChainFault}
use Rattle.link_index.specs.Adding.{IndexState, IsIndexOf}
use Rattle.ogg_page.specs.Page.{Page, IsPage, bytes_of_pages}

-- the bytes are links, and the index is theirs
pub record IsIndexed (bytes : List ℕ) (index : IndexState) : Type 0 where
  pub links : List (List Page)
  pub are_links : AreLinks bytes links
  pub is_index : IsIndexOf links index

-- The bytes are pages; those before this offset are taken in turn, and the page that stands there may not follow.
pub record IsBrokenAt (bytes : List ℕ) (offset : ℕ) (fault : ChainFault) : Type 0 where
  pub pages : List Page
  pub page : Page
  pub rest : List Page
  pub links : List (List Page)
  pub are_pages : AllByRecursion IsPage (pages ++ page ∷ rest)
  pub joined : bytes ≡ bytes_of_pages (pages ++ page ∷ rest)
  pub place : offset ≡ length (bytes_of_pages pages)
  pub taken : AreTaken [] pages links
  pub told : fault_of_page (chain_state_of links) page ≡ Some fault
