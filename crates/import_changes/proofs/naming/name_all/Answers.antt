use Rattle.std.specs.Map.{values_of}
use Rattle.import_changes.proofs.Names.{low_more}
use Rattle.import_changes.proofs.naming.name_all.Goals as goal

pub rename_all-requires-clause-low : goal.rename_all-requires-clause-low
rename_all-requires-clause-low c = low_more c.args.given.now.listed (values_of c.keep_all.new.names.items) c.args.low c.requires
