use Rattle.serve_responses.proofs.Framing.{framed}
use Rattle.serve_responses.proofs.laws.responses_are_framed.Goals as goal

pub returns : goal.returns
returns c = framed c.ranges_lie_inside.ensures
