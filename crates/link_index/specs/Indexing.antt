-- An index takes pages in turn, as a chain does. Ours.
use Rattle.std.specs.Prelude.{◌≡◌, ◌≤◌, true}
use Rattle.ogg_page.specs.Page.{Page}
use Rattle.ogg_page.specs.LogicalStream.{is_first}
use Rattle.link_chain.specs.Taking.{HasRoomFor, IsFaultOf}
use Rattle.link_chain.specs.declared.chain_fault.ChainFault.{ChainFault}
use Rattle.link_chain.specs.declared.in_turn.TakesInTurn.{Ghosts as Takes}
use Rattle.link_index.specs.Adding.{IndexState, IsIndexOf}

-- The index lacks room for this page, which is a stream's first.
pub record LacksRoomFor (index : IndexState) (page : Page) : Type 0 where
  pub first : is_first page ≡ true
  pub room : HasRoomFor index.chain page → 1 ≤ index.link_room → 1 ≤ index.stream_room → ⊥

-- The page isn't added, and the index is as it was, except for its room.
pub record IsRefused (old : IndexState) (page : Page) (fault : ChainFault) (new : IndexState) : Type 0 where
  pub why : IsFaultOf old.chain.chain page (LacksRoomFor old page) fault
  pub chain : new.chain.chain ≡ old.chain.chain
  pub entries : new.entries ≡ old.entries

-- how an index takes pages
abbrev pub indexing : Takes IndexState
indexing = record { is_of = IsIndexOf; size = λ index. index.chain.chain.length_of; refuses = IsRefused }
