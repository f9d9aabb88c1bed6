use Rattle.file_recorder.specs.RecoveryLaws.{shows_one, new_shows}
use Rattle.file_recorder.proofs.laws.images_show_one_recording.Goals as goal

pub returns : goal.returns
returns c = record { one = shows_one; new = new_shows }
