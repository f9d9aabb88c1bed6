use Rattle.line_packets.proofs.Writing.{all_begun, one_begun}
use Rattle.line_packets.proofs.choosing.names_from.Goals as goal

pub loop-stream-preserved : goal.loop-stream-preserved
loop-stream-preserved c =
    let one = c.in_ok-name_streams.ensures in
    one_begun c.args.streams.now c.loop-stream.rest.now c.loop-stream.names.items _ c.loop-stream.invariant c.in-Some.stream.now c.in-Some.others.now _ one.0
    c.in-Some.ensures.cases.0 c.as_slice.ensures one.1 one.2

pub returns : goal.returns
returns c = all_begun c.args.streams.now c.loop-stream.rest.now c.loop-stream.names.items c.loop-stream.invariant c.in_default.ensures.cases
