use Rattle.import_commands.proofs.Front.{front_first}
use Rattle.import_commands.proofs.laws.packets_of_a_front_come_first.Goals as goal

pub returns : goal.returns
returns c = front_first
