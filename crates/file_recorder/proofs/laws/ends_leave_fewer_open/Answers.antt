use Rattle.file_recorder.proofs.EndsInTurn.{fewer}
use Rattle.file_recorder.proofs.laws.ends_leave_fewer_open.Goals as goal

pub returns : goal.returns
returns g c = fewer c.ends_end_their_streams.ensures
