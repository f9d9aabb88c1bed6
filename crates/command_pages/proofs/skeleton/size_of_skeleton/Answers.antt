use Rattle.std.proofs.Common.{◌+◌, length, arith}
use Rattle.command_pages.proofs.skeleton.size_of_skeleton.Goals as goal

pub returns-clause-value : goal.returns-clause-value
returns-clause-value c =
    omega (
      arith,
      c.size_of_fishead.ensures.value,
      c.size_of_fisbones.ensures.value c.args.head.now.serial,
      c.size_of_skeleton_end.ensures.value c.args.head.now.serial (length c.args.streams.now + 1),
    )
