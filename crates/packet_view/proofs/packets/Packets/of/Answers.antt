use Rattle.std.proofs.Common.{refl}
use Rattle.packet_view.specs.Packets.{packets_in, parts_behind}
use Rattle.packet_view.proofs.packets.Packets.of.Goals as goal

pub returns : goal.returns
unfolding packets_in parts_behind
returns c = rw (c.split_at.ensures.front) refl
