use Rattle.serve_machine.specs.Hub.{most_sessions}
use Rattle.serve_machine.proofs.Few.{few, few_of_new}
use Rattle.serve_machine.proofs.Rooms.{same_room}
use Rattle.serve_machine.proofs.laws.sessions_are_few.Goals as goal

pub returns : goal.returns
returns c = record { few = few; new = few_of_new most_sessions; new_for = few_of_new; room = same_room }
