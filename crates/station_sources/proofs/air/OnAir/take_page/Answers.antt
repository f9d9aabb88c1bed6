use Rattle.std.proofs.Common.{rules, ◌≡◌, ◌≢◌, ℕ, Option, Some, None, Err, [], refl, sym, ap, subst, inr}
use Rattle.import_record.specs.declared.fault.RecordFault.{RecordFault}
use Rattle.import_record.specs.declared.fault.RecordFault.TheVariants.{Memory, Read, Write}
use Rattle.import_mend.specs.declared.mend.Mend.{Mend}
use Rattle.import_record.specs.Reading.{IsDue, Steps}
use Rattle.import_record.specs.Steps.{Ends, state_of}
use Rattle.import_record.specs.declared.intake.Taken.{Taken}
use Rattle.import_record.specs.declared.reading.ImportRun.{ImportRun}
use Rattle.import_record.specs.declared.reading.Step.{Step}
use Rattle.station_sources.specs.declared.air.OnAir.{OnAir}
use Rattle.station_sources.specs.Taking.{HasEndedBy, LacksMemoryOnceEnded, StopsFor}
use Rattle.station_sources.proofs.Ending.{same_end}
use Rattle.station_sources.proofs.air.OnAir.take_page.Goals as goal

pub returns-in_ok-taken-in-Ok-Ended-clause-ends : goal.returns-in_ok-taken-in-Ok-Ended-clause-ends
returns-in_ok-taken-in-Ok-Ended-clause-ends g c before offset junk taken is_in is =
    let (reached, in_reached, steps) = c.in-Ok-Ended.ensures.steps before is_in in
    let (after, in_after, ends) = c.in_ok-taken-in-Ok-Ended.ensures.ends reached in_reached in
    let old = c.args.self.now.import in
    let between = c.step.new.self in
    same_end
    (λ (o : ℕ) (j : Option Mend) (t : Taken). (x : g.T.Runner.State) × g.T.Runner.is_in x c.finish.new.runner × HasEndedBy g.T.Runner.answers o j t old c.note.new.self.import before x)
    c.offset-offset.result offset c.in-Ok-Ended.junk junk c.in_ok-taken-in-Ok-Ended.taken taken is (
      after,
      in_after,
      record {
        between = between;
        reached = reached;
        finds = record {
          output = None;
          new_output = None;
          steps = subst (λ (step : Step). Steps g.T.Runner.answers step old.input.pages (state_of old) (Some []) None before between.input.pages (state_of between) (Some []) None reached) c.in-Ok-Ended.field-0-is steps;
          lent_is = refl;
        };
        offset_is = c.offset-offset.ensures;
        ends = subst (λ (o : ℕ). Ends g.T.Runner.answers o (state_of between) (state_of c.note.new.self.import) c.in_ok-taken-in-Ok-Ended.taken reached after None None) (sym c.offset-offset.ensures)
            (subst (λ (run : ImportRun). Ends g.T.Runner.answers between.input.pages.offset (state_of between) (state_of run) c.in_ok-taken-in-Ok-Ended.taken reached after None None) (sym (ap (λ (air : OnAir). air.import) c.note.ensures)) ends);
      },
    )

-- ---- why it stops
at_end : (fault : RecordFault) (old new : ImportRun) → fault ≢ Read → (fault ≡ Memory → LacksMemoryOnceEnded old new) → StopsFor fault old new
at_end Read old new unread lacks = absurd (unread refl)
at_end Memory old new unread lacks = inr (lacks refl)
at_end Write old new unread lacks = tt

pub returns-in_err-taken-in-Ok-Ended-clause-cause : goal.returns-in_err-taken-in-Ok-Ended-clause-cause
returns-in_err-taken-in-Ok-Ended-clause-cause g c before is_in =
    let old = c.args.self.now.import in
    let between = c.step.new.self in
    let new = c.finish.new.self in
    let fault = c.in_err-taken-in-Ok-Ended.field-0.0 in
    let told = c.in_err-taken-in-Ok-Ended.ensures in
    let (reached, in_reached, steps) = c.in-Ok-Ended.ensures.steps before is_in in
    let finds = subst (λ (step : Step). Steps g.T.Runner.answers step old.input.pages (state_of old) (Some []) None before between.input.pages (state_of between) (Some []) None reached) c.in-Ok-Ended.field-0-is steps in
    let due = subst (λ (step : Step). IsDue step (g.T.Runner.held_in before) old.input.pages between.input.pages) c.in-Ok-Ended.field-0-is (c.in-Ok-Ended.ensures.due before is_in) in
    let stops : StopsFor fault old new =
    at_end fault old new (λ is. told.unread (ap Err is)) (λ is. record { between = between; found = due; same = finds.1.1; lacks = told.memory (ap Err is) }) in
    search (rules, stops)
