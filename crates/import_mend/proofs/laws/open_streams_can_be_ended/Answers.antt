use Rattle.import_mend.proofs.Numbers.{room_from_start}
use Rattle.import_mend.proofs.laws.open_streams_can_be_ended.Goals as goal

pub returns : goal.returns
returns c pages start new mends given are begins taken = room_from_start pages start new mends given are begins taken
