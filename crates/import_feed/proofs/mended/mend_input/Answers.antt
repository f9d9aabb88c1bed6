use Rattle.std.proofs.Common.{refl}
use Rattle.import_feed.proofs.MendedSteps.{no_announcement, starts_mended}
use Rattle.import_feed.proofs.mended.mend_input.Goals as goal

pub returns-in-Err : goal.returns-in-Err
returns-in-Err g c options start =
    no_announcement g.M.Mends.tells options c.in-Err.fault _ _ c.args.mends.now (record {
      state = c.args.mending.now.changes;
      changed = start.changed;
      asked = start.asked;
    }) c.in-Err.ensures.err

pub returns : goal.returns
returns g c options start =
    c.finish_mended.ensures options _ c.args.mends.now
    (c.mend_all-outcome.ensures options _ c.args.mends.now
    (starts_mended g.M.Mends.tells options _ _ c.args.mends.now c.args.mending.now _ start refl refl refl c.in-Ok.ensures.ok))
