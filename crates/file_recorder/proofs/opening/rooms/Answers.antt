use Rattle.std.proofs.Common.{refl, arith, []}
use Rattle.file_recorder.specs.Taking.{HoldsChain}
use Rattle.link_chain.specs.ChainState.{ChainState, chain_state_of}
use Rattle.link_chain.specs.Links.{AreLinks}
use Rattle.file_recorder.proofs.opening.rooms.Goals as goal

pub returns-clause-whole : goal.returns-clause-whole
returns-clause-whole c = (
  [],
  record {
    links = [];
    recording = [];
    chain_is = c.new-3.ensures;
    are_links = record { spelled = refl; pages = tt; few = omega arith; each = tt; ended = tt };
    holds = tt;
  },
)
