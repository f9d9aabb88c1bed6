use Rattle.serve_machine.proofs.Own.{connects, receives, pulls, closes, keeps_file}
use Rattle.serve_machine.proofs.laws.calls_move_their_session.Goals as goal

pub returns : goal.returns
returns c = record { connect = connects; receive = receives; pull = pulls; close = closes; file = keeps_file }
