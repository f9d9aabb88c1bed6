-- Room for the pages that end the open streams. Ours.
use Rattle.std.specs.Prelude.{◌≡◌, ◌⊎◌, ℕ, ◌+◌, ◌*◌, ◌≤◌, ◌<◌, ◌^◌, true, false, nat_eq, length, Some}
use Rattle.std.specs.List.{AllByRecursion}
use Rattle.ogg_page.specs.Page.{Page}
use Rattle.ogg_page.specs.Sizes.{fixed_size, longest_page}
use Rattle.import_gather.specs.Gathered.{Gathered}
use Rattle.link_chain.specs.declared.stream_state.StreamState.{StreamState}
use Rattle.link_chain.specs.ChainState.{ChainState, is_open}
use Rattle.link_chain.specs.Limits.{most_streams}
use Rattle.link_chain.specs.Taking.{fault_of_page}
use Rattle.link_chain.specs.declared.chain_fault.ChainFault.{ChainFault}
use Rattle.import_mend.specs.Gives.{open_streams}
use Rattle.import_mend.specs.Ways.{most_bytes}

-- an open stream has a number left for its last page
abbrev pub HasNumber : StreamState → Type 0
HasNumber stream = stream.ended ≡ false → stream.next_sequence < 2 ^ 32

-- each open stream can be ended
pub record HasRoom (chain : ChainState) : Type 0 where
  pub few : length chain.streams ≤ most_streams
  pub links : is_open chain ≡ true → nat_eq chain.links 0 ≡ false
  pub numbers : AllByRecursion HasNumber chain.streams
  pub small : chain.length_of < 2 ^ 62 + 2 ^ 20

-- so many streams of this number have been ended
pub record StillHasRoom (count turns : ℕ) (chain : ChainState) : Type 0 where
  pub some : count ≤ most_streams
  pub links : is_open chain ≡ true → nat_eq chain.links 0 ≡ false
  pub numbers : AllByRecursion HasNumber chain.streams
  pub small : chain.length_of < 2 ^ 62 + 2 ^ 20 + fixed_size * turns
  pub left : length (open_streams chain) + turns ≤ count

-- ---- want of room for a page
-- With the page a bound of the chain would be passed, or one of an import is met.
abbrev pub LacksPlace : Page → ChainState → Type 0
LacksPlace page chain = ((fault : ChainFault) × (fault_of_page chain page ≡ Some fault)) ⊎ (most_bytes ≤ chain.length_of)

-- The page can't begin a link of its own in this chain: a stream is open that couldn't be ended, or there is no place.
abbrev pub LacksRoomFor : Page → ChainState → Type 0
LacksRoomFor page chain = (is_open chain ≡ true) ⊎ LacksPlace page chain

-- ---- want of memory
-- A growth of what is gathered was refused, which is noted, or there was only so much room to make a page in.
abbrev pub LacksMemory : Gathered → ℕ → Type 0
LacksMemory gathered room = (gathered.refused ≡ true) ⊎ (room < longest_page)
