use Rattle.chain_rules.proofs.EndState.{end_state}
use Rattle.chain_rules.proofs.laws.ends_end_their_streams.Goals as goal

pub returns : goal.returns
returns c = end_state
