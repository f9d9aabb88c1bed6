use Rattle.std.proofs.Common.{◌≡◌, ℕ, ◌-◌, ◌*◌, Some, arith, ap}
use Rattle.archive_clock.proofs.Spans.{some_same}
use Rattle.archive_clock.proofs.span.read_back.Goals as goal

pub returns-in-Some-clause-each : goal.returns-in-Some-clause-each
returns-in-Some-clause-each c seconds time is e =
    let same : c.in-Some.seconds ≡ seconds = some_same _ _ (c.in-Some.ensures.each seconds is) in
    ap (λ (n : ℕ). Some n) (let t : c.args.now - c.in-Some.seconds * 1000 ≡ time = omega (arith, same, e) in t)

pub returns-in_default-clause-each : goal.returns-in_default-clause-each
returns-in_default-clause-each c seconds time is e =
    let same : c.in-Some.seconds ≡ seconds = some_same _ _ (c.in-Some.ensures.each seconds is) in
    let late = c.if-seconds-now.false in
    absurd (omega (arith, same, e, late))

pub returns-in_default-2-clause-each : goal.returns-in_default-2-clause-each
returns-in_default-2-clause-each c seconds time is e =
    let none = c.in_default.ensures.each seconds is in
    cc
