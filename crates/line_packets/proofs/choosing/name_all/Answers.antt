use Rattle.std.proofs.Common.{◌++◌, ap, ◌∙◌, append_assoc}
use Rattle.line_packets.proofs.Writing.{all_named, one_named}
use Rattle.line_packets.proofs.choosing.name_all.Goals as goal

pub loop-packet-preserved : goal.loop-packet-preserved
loop-packet-preserved c =
    let so_far = c.loop-packet.invariant in
    let one = c.in_ok-name_by.ensures in (
      so_far.0 ++ one.0,
      one.2 ∙ ap (λ l. l ++ one.0) so_far.1 ∙ append_assoc c.args.names.now.items so_far.0 one.0,
      one_named c.args.packets.now c.loop-packet.rest.now so_far.0 so_far.2 c.in-Some.packet.now _ c.in-Some.others.now one.0 c.in-Some.ensures.cases.0
          c.as_slice.ensures one.1,
    )

pub returns : goal.returns
returns c =
    let so_far = c.loop-packet.invariant in
    (so_far.0, all_named c.args.packets.now c.loop-packet.rest.now so_far.0 so_far.2 c.in_default.ensures.cases, so_far.1)
