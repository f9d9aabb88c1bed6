use Rattle.packet_view.proofs.Placed.{all_in_order}
use Rattle.packet_view.proofs.laws.parts_are_in_order.Goals as goal

pub returns : goal.returns
returns c = all_in_order
