use Rattle.std.proofs.Common.{arith}
use Rattle.archive_fetch.proofs.bodies.Body.of.Goals.{else-start-end-via-then-start-end+else-end, else-start-end-via-else-start-end}
use Rattle.archive_fetch.proofs.bodies.Body.of.Goals as goal

pub returns-else-start-end : goal.returns-else-start-end
returns-else-start-end g c fits within =
    let (order, inside) = c.stretch_of-start.ensures.inside c.args.source.end fits within in
    elim c.else-start-end.branch [
      | else-start-end-via-then-start-end+else-end w ↦ absurd (omega (arith, inside, w.if-end.false))
      | else-start-end-via-else-start-end w ↦ absurd (omega (arith, order, w.if-start-end.false))
    ]
