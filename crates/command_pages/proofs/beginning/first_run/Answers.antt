use Rattle.std.proofs.Common.{arith}
use Rattle.command_pages.proofs.LaidHeaders.{first_count}
use Rattle.command_pages.proofs.beginning.first_run.Goals as goal

pub of-requires-clause-numbers : goal.of-requires-clause-numbers
of-requires-clause-numbers c =
    omega (arith, first_count c.args.stream.now c.split_headers.result.0.now c.as_slice.result.now c.split_headers.ensures.first c.as_slice.ensures c.requires.short c.requires.few)
