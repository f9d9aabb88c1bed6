use Rattle.std.proofs.Common.{sym, ◌∙◌, ap, arith}
use Rattle.station_files.specs.declared.seats.Past.{Past}
use Rattle.station_files.proofs.Placed.{place_end, place_here, place_later}
use Rattle.station_files.proofs.seats.place_of.Goals as goal

pub returns-then-past-at : goal.returns-then-past-at
returns-then-past-at g c =
    sym (place_here c.args.number c.loop-at.at c.loop-at.at c.args.past.now c.index-past-at.result c.loop-at-test.true c.index-past-at.is
    (ap (λ (it : Past _). it.number) c.index-past-at.is ∙ c.if-past-at.true))
    ∙ c.loop-at.invariant

pub loop-at-preserved : goal.loop-at-preserved
loop-at-preserved g c =
    sym (place_later c.args.number c.loop-at.at c.loop-at.at c.args.past.now c.index-past-at.result c.loop-at-test.true c.index-past-at.is
    (λ same. c.if-past-at.false (sym (ap (λ (it : Past _). it.number) c.index-past-at.is) ∙ same)))
    ∙ c.loop-at.invariant

pub returns : goal.returns
returns g c = sym (place_end c.args.number c.loop-at.at c.loop-at.at c.args.past.now (omega (arith, c.loop-at-test.false))) ∙ c.loop-at.invariant
