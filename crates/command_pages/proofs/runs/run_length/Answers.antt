use Rattle.command_pages.proofs.RunLength.{first_run, first_some}
use Rattle.command_pages.proofs.runs.run_length.Goals as goal

pub returns-clause-run : goal.returns-clause-run
returns-clause-run c = first_run c.args.entries.now c.index-entries-0.result c.like.result c.requires c.index-entries-0.is c.like.ensures

pub returns-clause-some : goal.returns-clause-some
returns-clause-some c = first_some c.args.entries.now c.index-entries-0.result c.like.result c.requires c.index-entries-0.is c.like.ensures
