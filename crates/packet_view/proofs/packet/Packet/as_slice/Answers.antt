use Rattle.std.proofs.Common.{◌≤◌, ◌∙◌, length, sym, subst, refl}
use Rattle.packet_view.specs.Packets.{PacketParts}
use Rattle.packet_view.proofs.Slices.{few_parts, all_first}
use Rattle.packet_view.proofs.packet.Packet.as_slice.Goals as goal

pub returns-then-self-clause-some : goal.returns-then-self-clause-some
returns-then-self-clause-some c =
    let p = c.self.inside in (
      λ _. subst (λ (v : PacketParts). length v.parts ≤ 1) c.self.view_is (few_parts p.place p.first.now p.serial p.offset p.more.now (c.if-self.true ∙ c.self.invariant.size)),
      λ _. refl,
    )

pub returns-else-self-clause-some : goal.returns-else-self-clause-some
returns-else-self-clause-some c =
    let p = c.self.inside in (
      λ e. cc,
      λ few. absurd (c.if-self.false
          (all_first p.place p.first.now p.serial p.offset p.more.now c.self.invariant.begins (subst (λ (v : PacketParts). length v.parts ≤ 1) (sym c.self.view_is) few)
          ∙ sym c.self.invariant.size)),
    )
