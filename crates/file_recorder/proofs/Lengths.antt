-- How many bytes a chain has.
use Rattle.std.proofs.Common.{◌≡◌, ℕ, List, length, sym, ◌∙◌, ap}
use Rattle.link_chain.specs.ChainState.{ChainState}
use Rattle.link_chain.specs.Laws.Lengths.{sizes_are}
use Rattle.file_recorder.specs.Taking.{HoldsChain}

-- as many as the bytes whose pages it is of
pub as_long : (bytes : List ℕ) (chain : ChainState) → HoldsChain bytes chain → chain.length_of ≡ length bytes
as_long bytes chain holds = ap (λ c. c.length_of) holds.chain_is ∙ sizes_are holds.links ∙ ap length (sym holds.are_links.spelled)
