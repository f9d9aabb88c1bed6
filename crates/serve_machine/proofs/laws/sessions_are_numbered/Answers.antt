use Rattle.serve_machine.specs.Hub.{most_sessions}
use Rattle.serve_machine.proofs.Numbered.{at_first, kept, unused}
use Rattle.serve_machine.proofs.laws.sessions_are_numbered.Goals as goal

pub returns : goal.returns
returns c = record { new = at_first most_sessions; new_for = at_first; kept = kept; unused = unused }
