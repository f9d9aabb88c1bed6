use Rattle.command_pages.proofs.RunLength.{last_read}
use Rattle.command_pages.proofs.runs.run_position.Goals as goal

pub returns : goal.returns
returns c = last_read c.args.run.now c.index-run-run.result c.requires c.index-run-run.is
