use Rattle.serve_responses.proofs.OneResponse.{one_response}
use Rattle.serve_responses.proofs.laws.responses_are_unambiguous.Goals as goal

pub returns : goal.returns
returns c = one_response c.bytes_are_one_chain.ensures.links
