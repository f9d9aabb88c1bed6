use Rattle.std.proofs.Common.{arith}
use Rattle.command_pages.proofs.LaidHeaders.{others_count}
use Rattle.command_pages.proofs.beginning.other_run.Goals as goal

pub of-requires-clause-numbers : goal.of-requires-clause-numbers
of-requires-clause-numbers c =
    omega (arith, others_count c.args.stream.now c.split_headers.result.1.now c.as_slice.result.now c.split_headers.ensures.others c.as_slice.ensures c.requires.short c.requires.few)
