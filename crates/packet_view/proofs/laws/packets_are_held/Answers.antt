use Rattle.packet_view.proofs.AllHeld.{all_held}
use Rattle.packet_view.proofs.laws.packets_are_held.Goals as goal

pub returns : goal.returns
returns c = all_held
