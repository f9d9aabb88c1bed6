use Rattle.import_feed.proofs.MendedSteps.{mended_false, mended_true}
use Rattle.import_feed.proofs.mended.mend_all.Goals as goal

pub returns-in-Ok-false : goal.returns-in-Ok-false
returns-in-Ok-false g c = λ options before unaware still.
    mended_false g.M.Mends.tells options c.in-Ok-false.field-0 before _ unaware _ c.turn.new.self c.in-Ok-false.field-0-test
    (c.in-Ok-false.ensures options before unaware (c.loop.invariant options before unaware still))

pub returns-in-Err : goal.returns-in-Err
returns-in-Err g c = λ options before unaware still.
    c.in-Err.ensures options before unaware (c.loop.invariant options before unaware still)

pub loop-preserved : goal.loop-preserved
loop-preserved g c = λ options before unaware still.
    mended_true g.M.Mends.tells options c.in-Ok-true.field-0 before _ unaware _ c.turn.new.self c.in-Ok-true.field-0-test
    (c.in-Ok-true.ensures options before unaware (c.loop.invariant options before unaware still))

pub returns : goal.returns
returns g c = λ options before unaware still. record {
  last = c.loop.mending.import;
  still = c.loop.invariant options before unaware still;
}
