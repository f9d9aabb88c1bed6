-- What taking the pages of bytes into a chain leaves.
use Rattle.std.specs.Prelude.{◌≡◌, ◌≢◌, ◌⊎◌, ◌+◌, ℕ, Option, Some, None, Err, List, [], ◌++◌, length}
use Rattle.std.specs.List.{AllByRecursion}
use Rattle.ogg_page.specs.Page.{Page, IsPage, page_bytes, bytes_of_pages}
use Rattle.ogg_page.specs.Reading.{page_at}
use Rattle.link_chain.specs.ChainState.{ChainState, chain_state_of}
use Rattle.link_chain.specs.Taking.{AreTaken, fault_of_page}
use Rattle.link_chain.specs.declared.walking.Walk.{Walk}
use Rattle.link_chain.specs.declared.walking.WalkFault.{WalkFault}
use Rattle.link_chain.specs.declared.walking.WalkFault.TheVariants.{Page as PageOf, Chain as ChainOf}
use Rattle.link_chain.specs.declared.chain_fault.ChainFault.TheVariants.{Memory}

-- The bytes begin with these pages, which are taken in turn after the links, and then the rest is left.
pub record TakesSome (links : List (List Page)) (bytes : List ℕ) (chain : ChainState) (rest : List ℕ) : Type 0 where
  pub pages : List Page
  pub after : List (List Page)
  pub are_pages : AllByRecursion IsPage pages
  pub spelled : bytes ≡ bytes_of_pages pages ++ rest
  pub taken : AreTaken links pages after
  pub state : chain ≡ chain_state_of after

-- why nothing more is taken of what is left: memory may be refused for a page that would be taken otherwise
abbrev pub IsLeft : ChainState → List ℕ → Option WalkFault → Type 0
IsLeft chain rest None = rest ≡ []
IsLeft chain rest (Some (PageOf fault)) = (rest ≢ []) × (page_at rest ≡ Err fault)
IsLeft chain rest (Some (ChainOf fault)) =
    (page : Page) × (more : List ℕ) × IsPage page × (rest ≡ page_bytes page ++ more)
    × ((fault_of_page chain page ≡ Some fault) ⊎ ((fault_of_page chain page ≡ None) × (fault ≡ Memory)))

-- pages are taken up to where the walk ends, and nothing more can be taken there
pub record TakesPages (links : List (List Page)) (bytes : List ℕ) (chain : ChainState) (walk : Walk) : Type 0 where
  pub rest : List ℕ
  pub some : TakesSome links bytes chain rest
  pub end : walk.end + length rest ≡ length bytes
  pub left : IsLeft chain rest walk.fault
