use Rattle.serve_live.proofs.Growing.{live_is_chain, live_fronts}
use Rattle.serve_live.proofs.laws.what_is_live_is_a_chain.Goals as goal

pub returns : goal.returns
returns c = record { whole = live_is_chain; fronts = live_fronts }
