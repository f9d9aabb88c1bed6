-- How a multiplexer keeps its progress. Ours.
use Rattle.std.specs.Prelude.{◌≡◌, ℕ}
use Rattle.link_chain.specs.ChainState.{ChainState, chain_state_of}
use Rattle.feed_mux.specs.Progress.{Progress}

-- the chain and the count are those of this progress
pub record HasReached (chain : ChainState) (count : ℕ) (progress : Progress) : Type 0 where
  pub chain_is : chain ≡ chain_state_of progress.links
  pub count_is : count ≡ progress.kept
