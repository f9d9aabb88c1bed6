use Rattle.std.proofs.Common.{◌<◌, length, refl, arith}
use Rattle.serve_live.proofs.Beginning.{more_text}
use Rattle.serve_live.proofs.listener.ends_of.Goals as goal

pub loop-stream-preserved : goal.loop-stream-preserved
loop-stream-preserved c =
    let small : c.loop-stream.stream-index < length c.args.streams.now = omega arith in
    more_text c.args.streams.now c.loop-stream.stream-index _ _ c.loop-stream.text.items c.add_end.new.text.items c.in_ok-add_end.ensures refl c.loop-stream.invariant small
