use Rattle.std.proofs.Common.{◌++◌, ap, ◌∙◌, append_assoc}
use Rattle.line_packets.proofs.Writing.{all_headers, one_header}
use Rattle.line_packets.proofs.choosing.Link.write_headers.Goals as goal

pub loop-stream-preserved : goal.loop-stream-preserved
loop-stream-preserved c =
    let so_far = c.loop-stream.invariant in
    let more = c.in_ok-write_one.ensures in (
      so_far.0 ++ more.0,
      more.2 ∙ ap (λ l. l ++ more.0) so_far.1 ∙ append_assoc c.args.lines.now.items so_far.0 more.0,
      one_header c.args.wanted.now c.args.when c.args.self.now c.args.streams.now c.loop-stream.rest.now so_far.0 so_far.2 c.in-Some.stream.now
          c.in-Some.others.now more.0 c.in-Some.ensures.cases.0 more.1,
    )

pub returns : goal.returns
returns c =
    let so_far = c.loop-stream.invariant in (
      so_far.0,
      all_headers c.args.wanted.now c.args.when c.args.self.now c.args.streams.now c.loop-stream.rest.now so_far.0 so_far.2
          c.in_default.ensures.cases,
      so_far.1,
    )
