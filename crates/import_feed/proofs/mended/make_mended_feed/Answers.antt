use Rattle.std.proofs.Common.{[], refl}
use Rattle.feed_records.specs.Record.{announcement}
use Rattle.import_feed.proofs.MendedSteps.{mended_made, mended_stopped, no_feed}
use Rattle.import_feed.proofs.Turns.{none_prefix}
use Rattle.import_feed.proofs.mended.make_mended_feed.Goals as goal

pub returns-in-Err-clause-stopped : goal.returns-in-Err-clause-stopped
returns-in-Err-clause-stopped g c =
    ([], no_feed g.M.Mends.tells c.args.options _ _ c.args.mends.now c.in-Err.ensures.err (none_prefix _ _ announcement refl))

pub returns-in-Ok-clause-made : goal.returns-in-Ok-clause-made
returns-in-Ok-clause-made g c =
    mended_made g.M.Mends.tells c.args.options c.mend_input.result _ _ c.args.mends.now _ (c.mend_input.ensures c.args.options c.in-Ok.ensures.ok)

pub returns-in-Ok-clause-stopped : goal.returns-in-Ok-clause-stopped
returns-in-Ok-clause-stopped g c =
    mended_stopped g.M.Mends.tells c.args.options c.mend_input.result _ _ c.args.mends.now _ (c.mend_input.ensures c.args.options c.in-Ok.ensures.ok)
