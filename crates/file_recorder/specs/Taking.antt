-- What the pages of a file are, once they were taken in turn.
use Rattle.std.specs.Prelude.{◌≡◌, ℕ, Some, List, [], ◌∷◌, ◌++◌, length}
use Rattle.std.specs.List.{AllByRecursion}
use Rattle.ogg_page.specs.Page.{Page, IsPage, bytes_of_pages}
use Rattle.gate_file.specs.declared.fault.OpenFault.{OpenFault}
use Rattle.gate_file.specs.declared.fault.OpenFault.TheVariants.{Memory as NoMemory, Chain}
use Rattle.link_chain.specs.ChainState.{ChainState, chain_state_of}
use Rattle.link_chain.specs.Links.{AreLinks}
use Rattle.link_chain.specs.Recording.{Recording, HoldsLinks}
use Rattle.link_chain.specs.Taking.{AreTaken, fault_of_page, unfinished_stream}
use Rattle.link_chain.specs.declared.chain_fault.ChainFault.{ChainFault}
use Rattle.link_chain.specs.declared.chain_fault.ChainFault.TheVariants.{Memory}
use Rattle.file_recorder.specs.Recovery.{Links}

-- the bytes are links that hold a recording, and the chain is theirs
pub record HoldsChain (bytes : List ℕ) (chain : ChainState) : Type 0 where
  pub links : Links
  pub recording : Recording
  pub chain_is : chain ≡ chain_state_of links
  pub are_links : AreLinks bytes links
  pub holds : HoldsLinks links recording

-- the chain is that of links that hold a recording
abbrev pub IsWholeChain : ChainState → Type 0
IsWholeChain chain = (bytes : List ℕ) × HoldsChain bytes chain

-- The bytes are pages; those before this offset are taken in turn, and the page that stands there may not follow.
pub record IsBrokenAt (bytes : List ℕ) (offset : ℕ) (fault : ChainFault) : Type 0 where
  pub pages : List Page
  pub page : Page
  pub rest : List Page
  pub links : Links
  pub are_pages : AllByRecursion IsPage (pages ++ page ∷ rest)
  pub joined : bytes ≡ bytes_of_pages (pages ++ page ∷ rest)
  pub place : offset ≡ length (bytes_of_pages pages)
  pub taken : AreTaken [] pages links
  pub told : fault_of_page (chain_state_of links) page ≡ Some fault

-- the bytes are links, and the last packet of this stream is unfinished
pub record IsUnfinished (bytes : List ℕ) (serial : ℕ) : Type 0 where
  pub links : Links
  pub are_links : AreLinks bytes links
  pub told : unfinished_stream (chain_state_of links) ≡ Some serial

-- how an opening reports that a page wasn't taken
abbrev pub open_fault : ℕ × ChainFault → OpenFault
open_fault (offset, Memory) = NoMemory
open_fault (offset, fault) = Chain offset fault
