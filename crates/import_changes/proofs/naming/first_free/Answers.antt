use Rattle.std.specs.Map.{values_of}
use Rattle.import_changes.proofs.Names.{all_of_low, first_of_low}
use Rattle.import_changes.proofs.naming.first_free.Goals as goal

pub returns-in-Some-clause-free : goal.returns-in-Some-clause-free
returns-in-Some-clause-free c =
    first_of_low c.args.given.now.listed (values_of c.args.names.now) c.args.low c.in-Some.free c.requires c.in-Some.ensures

pub returns-in-None-clause-full : goal.returns-in-None-clause-full
returns-in-None-clause-full c =
    all_of_low c.args.given.now.listed (values_of c.args.names.now) c.args.low c.requires c.in-None.ensures
