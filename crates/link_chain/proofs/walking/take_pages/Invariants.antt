use Rattle.std.proofs.Common.{◌≡◌, ◌≤◌, ◌+◌, List, length}
use Rattle.ogg_page.specs.Page.{Page}
use Rattle.link_chain.specs.ChainState.{chain_state_of}
use Rattle.link_chain.specs.Walk.{TakesSome}
use Rattle.link_chain.proofs.walking.take_pages.Given as goal

-- the pages in front of what is left were taken
abbrev pub invariant-loop-rest : goal.invariant-loop-rest
invariant-loop-rest l = record {
  some : (links : List (List Page)) → l.initial.chain.chain ≡ chain_state_of links → TakesSome links l.bytes l.chain.chain l.rest;
  within : length l.rest ≤ length l.bytes;
  grows : l.chain.chain.length_of + length l.rest ≡ l.initial.chain.chain.length_of + length l.bytes;
}

abbrev pub decreases-loop-rest : goal.decreases-loop-rest
decreases-loop-rest l = length l.rest
