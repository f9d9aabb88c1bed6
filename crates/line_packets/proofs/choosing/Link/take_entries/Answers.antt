use Rattle.line_packets.proofs.Writing.{all_taken}
use Rattle.line_packets.proofs.choosing.Link.take_entries.Goals as goal

pub returns : goal.returns
returns c =
    let so_far = c.loop-entry.invariant in (
      so_far.0,
      all_taken c.args.wanted.now c.args.when c.args.self.now c.loop-entry.self c.args.entries.now c.loop-entry.rest.now so_far.0 so_far.2
          c.in_default.ensures.cases,
      so_far.1,
    )
