use Rattle.std.proofs.Common.{map}
use Rattle.line_packets.specs.Choosing.{coming}
use Rattle.line_packets.proofs.Writing.{all_commands, no_more}
use Rattle.line_packets.proofs.choosing.Choosing.take_all.Goals as goal

pub returns-clause-writes : goal.returns-clause-writes
returns-clause-writes c =
    let so_far = c.loop-command.invariant in (
      so_far.1,
      all_commands c.args.self.now.wanted c.args.self.now.link c.loop-command.self.link (map (coming c.args.when) c.args.commands.now)
          (map (coming c.args.when) c.loop-command.rest.now) so_far.1 so_far.3 (no_more c.args.when c.loop-command.rest.now c.in_default.ensures.cases),
      so_far.2,
    )
