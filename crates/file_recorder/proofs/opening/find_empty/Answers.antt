use Rattle.std.proofs.Common.{[], refl, arith}
use Rattle.file_recorder.proofs.opening.find_empty.Goals as goal

pub returns-clause-chain : goal.returns-clause-chain
returns-clause-chain g c = record {
  links = [];
  recording = [];
  chain_is = c.new-3.ensures;
  are_links = record { spelled = refl; pages = tt; few = omega arith; each = tt; ended = tt };
  holds = tt;
}
