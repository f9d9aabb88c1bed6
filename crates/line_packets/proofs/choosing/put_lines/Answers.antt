use Rattle.std.proofs.Common.{◌++◌, ap, ◌∙◌, append_assoc}
use Rattle.line_packets.proofs.Writing.{all_written, one_more}
use Rattle.line_packets.proofs.choosing.put_lines.Goals as goal

pub loop-packet-preserved : goal.loop-packet-preserved
loop-packet-preserved c =
    let so_far = c.loop-packet.invariant in
    let line = c.in_ok-put_line.ensures in (
      so_far.0 ++ line.0,
      line.2 ∙ ap (λ l. l ++ line.0) so_far.1 ∙ append_assoc c.args.lines.now.items so_far.0 line.0,
      one_more c.args.json c.args.told c.args.packets.now c.loop-packet.rest.now so_far.0 so_far.2 c.in-Some.packet.now _ c.in-Some.others.now line.0
          c.in-Some.ensures.cases.0 c.as_slice.ensures line.1,
    )

pub returns : goal.returns
returns c =
    let so_far = c.loop-packet.invariant in
    (so_far.0, all_written c.args.json c.args.told c.args.packets.now c.loop-packet.rest.now so_far.0 so_far.2 c.in_default.ensures.cases, so_far.1)
