use Rattle.link_chain.specs.LinkLaws.{one_chain, one_held, all_bytes_of_links}
use Rattle.link_chain.proofs.laws.bytes_are_one_chain.Goals as goal

pub returns-clause-links : goal.returns-clause-links
returns-clause-links c = one_chain

pub returns-clause-recording : goal.returns-clause-recording
returns-clause-recording c = one_held

pub returns-clause-bytes : goal.returns-clause-bytes
returns-clause-bytes c = all_bytes_of_links
