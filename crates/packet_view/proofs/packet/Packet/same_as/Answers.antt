use Rattle.std.proofs.Common.{◌≡◌, ◌∙◌, ap, sym}
use Rattle.std.specs.List.{concat}
use Rattle.packet_view.specs.Packets.{joined_parts}
use Rattle.packet_view.proofs.Slices.{joined_slices}
use Rattle.packet_view.proofs.packet.Packet.same_as.Goals as goal

pub returns : goal.returns
returns c =
    let all : concat c.parts.result ≡ joined_parts c.args.self.now.parts = ap concat c.parts.ensures ∙ joined_slices c.args.self.now.parts in
    (λ t. sym all ∙ c.are_bytes.ensures.0 t, λ e. c.are_bytes.ensures.1 (all ∙ e))
