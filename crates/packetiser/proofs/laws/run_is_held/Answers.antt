use Rattle.packetiser.specs.Laws.Pieces.{run_is_held}
use Rattle.packetiser.proofs.laws.run_is_held.Goals as goal

pub returns : goal.returns
returns c = run_is_held
