use Rattle.std.proofs.Common.{◌≡◌, ◌<◌, ◌∙◌, ℕ, List, length, ap, sym, subst}
use Rattle.std.specs.Prelude.{slice_index}
use Rattle.std.specs.List.{concat}
use Rattle.packet_view.specs.Packets.{joined_parts}
use Rattle.packet_view.proofs.Slices.{joined_slices}
use Rattle.packet_view.proofs.packet.Packet.byte_at.Goals as goal

pub byte_at-requires : goal.byte_at-requires
byte_at-requires c =
    let all : concat c.parts.result ≡ joined_parts c.args.self.now.parts = ap concat c.parts.ensures ∙ joined_slices c.args.self.now.parts in
    subst (λ (l : List ℕ). c.args.index < length l) (sym all) c.requires

pub returns : goal.returns
returns c =
    let all : concat c.parts.result ≡ joined_parts c.args.self.now.parts = ap concat c.parts.ensures ∙ joined_slices c.args.self.now.parts in
    c.byte_at.ensures ∙ ap (λ l. slice_index l c.args.index) all
