use Rattle.std.proofs.Common.{append_assoc}
use Rattle.skeleton3.proofs.fisbone.Fisbone.packet_with.Goals as goal

pub returns : goal.returns
returns c =
    rw (c.push_fields.ensures, c.push-4.ensures.items, c.push-3.ensures.items, c.push-2.ensures.items, c.push.ensures.items, c.fixed_part.ensures, c.new-packet.ensures)
    (simp append_assoc)
