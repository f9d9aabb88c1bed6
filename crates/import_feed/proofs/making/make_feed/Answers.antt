use Rattle.std.proofs.Common.{refl}
use Rattle.feed_records.specs.Record.{announcement}
use Rattle.import_feed.proofs.Ends.{breaks_first, finished_made, finished_stopped}
use Rattle.import_feed.proofs.Turns.{none_prefix}
use Rattle.import_feed.proofs.making.make_feed.Goals as goal

pub returns-in-Err-clause-stopped : goal.returns-in-Err-clause-stopped
returns-in-Err-clause-stopped g c =
    let (gathered, gathers) = c.in-Err.ensures.err in
    breaks_first c.args.options _ _ _ gathered gathers (none_prefix _ _ announcement refl)

pub returns-in-Ok-clause-made : goal.returns-in-Ok-clause-made
returns-in-Ok-clause-made g c = finished_made c.args.options c.make_of.result _ _ _ _ (c.make_of.ensures c.args.options c.in-Ok.ensures.ok)

pub returns-in-Ok-clause-stopped : goal.returns-in-Ok-clause-stopped
returns-in-Ok-clause-stopped g c = finished_stopped c.args.options c.make_of.result _ _ _ _ (c.make_of.ensures c.args.options c.in-Ok.ensures.ok)
