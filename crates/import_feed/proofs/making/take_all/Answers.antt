use Rattle.std.proofs.Common.{ap, Ok, arith}
use Rattle.import_feed.proofs.Ends.{turns_false, turns_true}
use Rattle.import_feed.proofs.making.take_all.Goals as goal

pub returns-in-Ok-false : goal.returns-in-Ok-false
returns-in-Ok-false g c = λ options before is written.
    let was = c.loop.invariant.2 options before is written in
    turns_false options c.in-Ok-false.field-0 _ _ before _ c.turn.new.self c.in-Ok-false.field-0-test (c.in-Ok-false.ensures.made options _ before was.links was.given was.made)

pub returns-in-Err : goal.returns-in-Err
returns-in-Err g c = λ options before is written.
    let was = c.loop.invariant.2 options before is written in
    c.in-Err.ensures.made options _ before was.links was.given was.made

pub loop-preserved : goal.loop-preserved
loop-preserved g c =
    let goes = c.in-Ok-true.ensures.goes (ap Ok c.in-Ok-true.field-0-test) in (
      goes.0,
      omega (arith, c.loop.invariant.1, goes.1),
      λ options before is written.
          let was = c.loop.invariant.2 options before is written in
          turns_true options c.in-Ok-true.field-0 _ _ before _ c.turn.new.self c.in-Ok-true.field-0-test (c.in-Ok-true.ensures.made options _ before was.links was.given was.made),
    )
