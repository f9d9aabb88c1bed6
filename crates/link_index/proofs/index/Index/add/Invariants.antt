use Rattle.std.proofs.Common.{◌≡◌, ◌+◌, List, length}
use Rattle.ogg_page.specs.Page.{Page}
use Rattle.link_index.specs.Adding.{IsIndexOf}
use Rattle.link_index.proofs.Walking.{AddsSome}
use Rattle.link_index.proofs.index.Index.add.Given as goal

-- the pages in front of what is left were added
abbrev pub invariant-loop-rest : goal.invariant-loop-rest
invariant-loop-rest l = record {
  some : (links : List (List Page)) → IsIndexOf links l.initial.self → AddsSome links l.chunk l.self l.rest;
  grows : l.self.chain.chain.length_of + length l.rest ≡ l.initial.self.chain.chain.length_of + length l.chunk;
}

abbrev pub decreases-loop-rest : goal.decreases-loop-rest
decreases-loop-rest l = length l.rest
