use Rattle.std.proofs.Common.{◌≡◌, ◌∙◌, ℕ, List, ap, subst}
use Rattle.std.specs.Prelude.{OnOk, OnErr}
use Rattle.std.specs.List.{concat}
use Rattle.std.specs.Io.KnownBytes.{Appends}
use Rattle.ogg_page.specs.Output.{WritesPart}
use Rattle.packet_view.specs.Packets.{joined_parts}
use Rattle.packet_view.proofs.Slices.{joined_slices}
use Rattle.packet_view.proofs.packet.Packet.write_to.Goals as goal

pub returns-clause-ok : goal.returns-clause-ok
returns-clause-ok g c =
    let all : concat c.parts.result ≡ joined_parts c.args.self.now.parts = ap concat c.parts.ensures ∙ joined_slices c.args.self.now.parts in
    subst (λ (l : List ℕ). OnOk c.write_parts.result (Appends (g.W.Write.contents c.args.writer.now) (g.W.Write.contents c.write_parts.new.writer) l)) all c.write_parts.ensures.ok

pub returns-clause-err : goal.returns-clause-err
returns-clause-err g c =
    let all : concat c.parts.result ≡ joined_parts c.args.self.now.parts = ap concat c.parts.ensures ∙ joined_slices c.args.self.now.parts in
    subst (λ (l : List ℕ). OnErr c.write_parts.result (WritesPart (g.W.Write.contents c.args.writer.now) (g.W.Write.contents c.write_parts.new.writer) l)) all c.write_parts.ensures.err
