use Rattle.serve_machine.proofs.Seeing.{steps_of}
use Rattle.serve_machine.proofs.calls.calls_are_steps.Goals as goal

pub returns : goal.returns
returns c at = steps_of c.H.SeenAsHub.shows
