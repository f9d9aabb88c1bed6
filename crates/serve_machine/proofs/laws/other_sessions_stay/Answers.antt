use Rattle.serve_machine.proofs.Others.{others_stay}
use Rattle.serve_machine.proofs.laws.other_sessions_stay.Goals as goal

pub returns : goal.returns
returns c = others_stay
