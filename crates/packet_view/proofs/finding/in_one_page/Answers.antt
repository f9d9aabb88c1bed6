use Rattle.std.proofs.Common.{◌∙◌, [], length, ap, sym}
use Rattle.packet_view.specs.Packets.{with_part, joined_parts}
use Rattle.packet_view.proofs.Opened.{joined-with_part, no_parts}
use Rattle.packet_view.proofs.finding.in_one_page.Goals as goal

pub new-requires-clause-size : goal.new-requires-clause-size
new-requires-clause-size c =
    sym (ap (λ l. length (joined_parts l)) (no_parts c.args.place.unread.place c.args.piece.now c.args.serial c.args.place.offset c.split_at.result.0.now c.split_at.ensures.front)
    ∙ ap length (joined-with_part [] c.args.place.unread.place c.args.piece.now))

pub returns : goal.returns
returns c =
    c.new.ensures
    ∙ ap (λ l. record { parts = l; position = c.position_behind.result }) (no_parts c.args.place.unread.place c.args.piece.now c.args.serial c.args.place.offset c.split_at.result.0.now c.split_at.ensures.front)
    ∙ ap (λ p. record { parts = with_part [] c.args.place.unread.place c.args.piece.now; position = p }) c.position_behind.ensures
