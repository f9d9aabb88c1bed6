use Rattle.serve_live.proofs.Chain.{are_links, wait_links, fronts_are_chains, hold_links}
use Rattle.serve_live.proofs.laws.what_is_heard_is_a_chain.Goals as goal

pub returns : goal.returns
returns c = record { links = are_links; waits = wait_links; fronts = fronts_are_chains; holds = hold_links }
