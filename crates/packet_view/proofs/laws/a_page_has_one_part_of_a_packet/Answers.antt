use Rattle.packet_view.proofs.Apart.{all_apart}
use Rattle.packet_view.proofs.laws.a_page_has_one_part_of_a_packet.Goals as goal

pub returns : goal.returns
returns c = all_apart
