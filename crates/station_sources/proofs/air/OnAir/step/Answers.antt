use Rattle.std.proofs.Common.{inl, inr, arith}
use Rattle.import_record.specs.declared.reading.Step.TheVariants.{Ended}
use Rattle.station_sources.specs.Air.{HasAllTaken}
use Rattle.station_sources.proofs.Ending.{flush_waits, needs_none}
use Rattle.station_sources.proofs.air.OnAir.step.Goals as goal

pub returns-then-not-waits-clause-steps : goal.returns-then-not-waits-clause-steps
returns-then-not-waits-clause-steps g c before step is_in is =
    let (after, in_after, stepped) = c.take_page.ensures.steps before step is_in is in
    let full = c.waits.ensures.no c.if-not-waits.true in (
      after,
      in_after,
      record {
        needs = inl (needs_none step c.args.self.now.import full);
        flushes = λ reply e. absurd (full (flush_waits step reply e _ c.args.self.now.import c.take_page.new.self.import (c.take_page.ensures.due before step is_in is)));
        stepped = stepped;
      },
    )

pub returns-then-not-waits-clause-ends : goal.returns-then-not-waits-clause-ends
returns-then-not-waits-clause-ends g c before offset junk taken is_in is =
    let (after, in_after, ended) = c.take_page.ensures.ends before offset junk taken is_in is in
    (after, in_after, record { needs = inl (needs_none (Ended junk) c.args.self.now.import (c.waits.ensures.no c.if-not-waits.true)); ended = ended })

pub returns-then-self-2-clause-steps : goal.returns-then-self-2-clause-steps
returns-then-self-2-clause-steps g c before step is_in is =
    let (after, in_after, stepped) = c.take_page-then-self-2.ensures.steps before step is_in is in
    let over : HasAllTaken c.args.self.now = (c.if-self-2.true, c.if-not-self.false, omega (arith, c.if-self-gt0.false)) in
    (after, in_after, record { needs = inr over; flushes = λ reply e. over; stepped = stepped })

pub returns-then-self-2-clause-ends : goal.returns-then-self-2-clause-ends
returns-then-self-2-clause-ends g c before offset junk taken is_in is =
    let (after, in_after, ended) = c.take_page-then-self-2.ensures.ends before offset junk taken is_in is in
    (after, in_after, record { needs = inr (c.if-self-2.true, c.if-not-self.false, omega (arith, c.if-self-gt0.false)); ended = ended })
