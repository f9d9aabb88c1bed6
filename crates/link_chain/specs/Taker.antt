-- A visitor that hands the pages it is shown to what takes them in turn: a chain, or an index of one. Ours.
use Rattle.std.specs.Prelude.{◌≡◌, ◌⊎◌, ℕ, ◌+◌, ◌<◌, ◌^◌, Option, Some}
use Rattle.std.specs.Borrow.{MutBor}
use Rattle.ogg_page.specs.Page.{Page, page_size}
use Rattle.ogg_page.specs.Window.{LentAt}
use Rattle.ogg_page.specs.declared.visiting.Visit.{Visit}
use Rattle.ogg_page.specs.declared.visiting.Visit.TheVariants.{GoesOn, Ends}
use Rattle.link_chain.specs.ChainState.{chain_state_of}
use Rattle.link_chain.specs.Room.{ChainWithRoom}
use Rattle.link_chain.specs.Taking.{IsRefused, IsTaken}
use Rattle.link_chain.specs.declared.chain_fault.ChainFault.{ChainFault}
use Rattle.link_chain.specs.declared.chain_fault.ChainFault.TheVariants.{Memory}
use Rattle.link_chain.specs.declared.in_turn.TakesInTurn.{Ghosts as Takes}

-- how a chain takes pages
abbrev pub chaining : Takes ChainWithRoom
chaining = record { is_of = λ links chain. chain.chain ≡ chain_state_of links; size = λ chain. chain.chain.length_of; refuses = IsRefused }

-- with the page there are fewer than 2^63 bytes
abbrev pub IsShort : {T : Type 0} → Takes T → T → Page → Type 0
IsShort takes old page = takes.size old + page_size page < 2 ^ 63

-- The page isn't taken: it is refused, or nothing has room for it.
abbrev pub IsLeft : {T : Type 0} → Takes T → T → Page → ChainFault → T → Type 0
IsLeft takes old page fault new =
    (IsShort takes old page × takes.refuses old page fault new) ⊎ ((IsShort takes old page → ⊥) × (fault ≡ Memory) × (new ≡ old))

-- what becomes of a page, and of the offset and the fault that are kept of the first one that isn't taken
abbrev pub IsHanded : {T : Type 0} → Takes T → T → Option (ℕ × ChainFault) → LentAt → Visit → T → Option (ℕ × ChainFault) → Type 0
IsHanded takes old before at GoesOn new after = IsShort takes old at.1 × IsTaken takes.is_of takes.size old at.1 new × (after ≡ before)
IsHanded takes old before at Ends new after = (fault : ChainFault) × (after ≡ Some (at.0, fault)) × IsLeft takes old at.1 fault new

-- a visitor that hands pages on through a reference: what it sees
pub record HandsPage {V T : Type 0} (takes : Takes T) (taken : V → MutBor T) (broken : V → Option (ℕ × ChainFault)) (old : V) (at : LentAt) (visit : Visit) (new : V)
    : Type 0 where
  pub same : (taken new).ghost_name ≡ (taken old).ghost_name
  pub handed : IsHanded takes (taken old).now (broken old) at visit (taken new).now (broken new)
