-- Which links an index is of, and what adding bytes to it leaves. Ours.
use Rattle.std.specs.Prelude.{◌≡◌, ◌≢◌, ⊤, ℕ, true, Result, Ok, Err, Some, None, List, [], ◌++◌}
use Rattle.std.specs.List.{AllByRecursion}
use Rattle.ogg_page.specs.Page.{Page, IsPage, page_bytes, bytes_of_pages}
use Rattle.ogg_page.specs.LogicalStream.{is_first}
use Rattle.ogg_page.specs.Reading.{page_at}
use Rattle.link_chain.specs.ChainState.{ChainState, chain_state_of}
use Rattle.link_chain.specs.Room.{ChainWithRoom}
use Rattle.link_chain.specs.Taking.{AreTaken, fault_of_page}
use Rattle.link_chain.specs.declared.chain_fault.ChainFault.{ChainFault}
use Rattle.link_chain.specs.declared.chain_fault.ChainFault.TheVariants.{Memory as NoMemory}
use Rattle.link_index.specs.declared.fault.IndexFault.{IndexFault}
use Rattle.link_index.specs.declared.fault.IndexFault.TheVariants.{Page as PageOf, Chain as ChainOf, Memory}
use Rattle.link_index.specs.Index.{LinkEntry, index_of}

pub record IndexState : Type 0 where
  -- what decides which page may follow
  pub chain : ChainWithRoom
  pub entries : List LinkEntry
  -- for how many further links and streams there is room
  pub link_room : ℕ
  pub stream_room : ℕ

-- the index is that of these links
pub record IsIndexOf (links : List (List Page)) (index : IndexState) : Type 0 where
  pub chain_is : index.chain.chain ≡ chain_state_of links
  pub entries_are : index.entries ≡ index_of links

-- the fault if the page at this offset isn't taken
abbrev pub fault_at : ℕ → ChainFault → IndexFault
fault_at offset NoMemory = Memory
fault_at offset fault = ChainOf offset fault

-- Why nothing more is added of what is left: memory may be refused, but only for a stream's first page, which would be
-- added otherwise.
abbrev pub IsLeft : ChainState → List ℕ → Result ⊤ IndexFault → Type 0
IsLeft chain rest (Ok done) = rest ≡ []
IsLeft chain rest (Err (PageOf offset fault)) = (offset ≡ chain.length_of) × (rest ≢ []) × (page_at rest ≡ Err fault)
IsLeft chain rest (Err (ChainOf offset fault)) =
    (offset ≡ chain.length_of)
    × (page : Page) × (more : List ℕ) × IsPage page × (rest ≡ page_bytes page ++ more) × (fault_of_page chain page ≡ Some fault)
IsLeft chain rest (Err Memory) =
    (page : Page) × (more : List ℕ) × IsPage page × (rest ≡ page_bytes page ++ more) × (fault_of_page chain page ≡ None) × (is_first page ≡ true)

-- The bytes begin with these pages, which may follow the links in turn and were added, and then nothing more could be.
pub record AddsPages (links : List (List Page)) (bytes : List ℕ) (index : IndexState) (result : Result ⊤ IndexFault) : Type 0 where
  pub pages : List Page
  pub rest : List ℕ
  pub after : List (List Page)
  pub are_pages : AllByRecursion IsPage pages
  pub spelled : bytes ≡ bytes_of_pages pages ++ rest
  pub taken : AreTaken links pages after
  pub is_index : IsIndexOf after index
  pub left : IsLeft (chain_state_of after) rest result
