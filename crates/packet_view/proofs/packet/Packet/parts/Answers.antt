use Rattle.std.proofs.Common.{◌∙◌, ap}
use Rattle.packet_view.specs.Packets.{PacketParts}
use Rattle.packet_view.specs.Packet.{slices_of}
use Rattle.packet_view.proofs.Slices.{packet_slices}
use Rattle.packet_view.proofs.packet.Packet.parts.Goals as goal

pub returns : goal.returns
returns c =
    let p = c.self.inside in
    c.new.ensures ∙ packet_slices p.place p.first.now p.serial p.offset p.more.now c.self.invariant.pages ∙ ap (λ (v : PacketParts). slices_of v.parts) c.self.view_is
