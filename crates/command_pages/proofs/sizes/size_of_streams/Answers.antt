use Rattle.command_pages.proofs.BeginPages.{begin_numbered, each_small}
use Rattle.command_pages.proofs.sizes.size_of_streams.Goals as goal

pub returns-clause-numbered : goal.returns-clause-numbered
returns-clause-numbered c = begin_numbered c.args.streams.now (each_small c.args.streams.now c.requires.few c.requires.short)
