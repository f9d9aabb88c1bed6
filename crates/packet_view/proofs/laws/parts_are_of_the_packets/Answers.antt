use Rattle.packet_view.proofs.JoinedParts.{are_joined}
use Rattle.packet_view.proofs.laws.parts_are_of_the_packets.Goals as goal

pub returns : goal.returns
returns c = are_joined
