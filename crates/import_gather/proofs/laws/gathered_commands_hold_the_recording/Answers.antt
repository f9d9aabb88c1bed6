use Rattle.import_gather.proofs.Gathering.{all_given}
use Rattle.import_gather.proofs.laws.gathered_commands_hold_the_recording.Goals as goal

pub returns : goal.returns
returns c = all_given
