use Rattle.std.proofs.Common.{◌≡◌, Option, Result, Ok, is_some, true, refl, sym, ◌∙◌, ap, subst}
use Rattle.import_record.specs.declared.fault.RecordFault.{RecordFault}
use Rattle.ogg_command.specs.declared.refusal.Refusal.{Refusal}
use Rattle.serve_hub.specs.Running.{Answers}
use Rattle.serve_sources.specs.declared.outcome.Outcome.{Outcome}
use Rattle.station_sources.specs.Air.{GoesOn, HasAllTaken, KeepsBytes, noted}
use Rattle.station_sources.specs.Taking.{GivesUpFor, TakesEnd, TakesStep}
use Rattle.station_sources.specs.declared.air.OnAir.{OnAir}
use Rattle.station_sources.specs.declared.air.Took.{Took}
use Rattle.station.specs.Parting.{HasParted}
use Rattle.station.specs.declared.stepping.Done.TheVariants.{GivenUp}
use Rattle.station.proofs.Leaving.{foreign_parts, has_no_page, lost_answer, same_air, same_answer}
use Rattle.station.proofs.Reopening.{parts_given}
use Rattle.station_hub.specs.LiveLaws.{is_live_in, records_then}
use Rattle.station_hub.specs.LiveRunning.{live_in}
use Rattle.station.proofs.Recorded.{hub_ended, hub_stepped, took as took_led}
use Rattle.station.proofs.station.Station.step_air.Goals as goal

abbrev took : Took → Result Took RecordFault
took one = Ok one

pub returns-in-Ok-Bytes-clause-takes : goal.returns-in-Ok-Bytes-clause-takes
returns-in-Ok-Bytes-clause-takes g c air is =
    let same : c.in-Some.air ≡ air = same_air c.in-Some.air air (sym c.in-Some.is ∙ is) in
    let (stays, goes) = c.step.ensures.bytes (c.in-Ok-Bytes.is ∙ ap took c.in-Ok-Bytes.field-0-is) in
    record { source = c.step.new.self; on_air = refl; goes_on = subst (λ (one : OnAir). GoesOn one c.step.new.self) same goes; same = stays }

pub returns-in-Ok-Stepped-clause-takes : goal.returns-in-Ok-Stepped-clause-takes
returns-in-Ok-Stepped-clause-takes g c air is before is_in =
    let same : c.in-Some.air ≡ air = same_air c.in-Some.air air (sym c.in-Some.is ∙ is) in
    let new = c.step.new.self in
    let stepped = c.in-Ok-Stepped.is ∙ ap took c.in-Ok-Stepped.field-0-is in
    let live = c.args.self.now.live in
    let (after, in_after, takes) = c.step.ensures.steps (live_in before live) c.in-Ok-Stepped.step (is_live_in g.D.Disk before live is_in) stepped in
    let (seen, pending, short, feeder, lost, has_page) = c.step.ensures.kept c.in-Ok-Stepped.step stepped in
    record {
      source = new;
      after = after.hub;
      on_air = refl;
      keeps = subst (λ (one : OnAir). KeepsBytes c.in-Ok-Stepped.step one new) same (record { seen = seen; pending = pending; feeder = feeder; short = short; lost = lost; has_page = has_page });
      reached = in_after.hub;
      takes = subst (λ (one : OnAir). TakesStep (Answers g.D.Disk) (HasAllTaken one) c.in-Ok-Stepped.step one.import new.import before after.hub) same
          (hub_stepped g.D.Disk (HasAllTaken c.in-Some.air) c.in-Ok-Stepped.step c.in-Some.air.import new.import (live_in before live) after takes);
    }

pub returns-in-Ok-Ended-clause-takes : goal.returns-in-Ok-Ended-clause-takes
returns-in-Ok-Ended-clause-takes g c air is before is_in =
    let same : c.in-Some.air ≡ air = same_air c.in-Some.air air (sym c.in-Some.is ∙ is) in
    let new = c.step.new.self in
    let offset = c.in-Ok-Ended.offset in
    let junk = c.in-Ok-Ended.junk in
    let taken = c.in-Ok-Ended.taken in
    let live = c.args.self.now.live in
    let (after, in_after, ends) =
    c.step.ensures.ends (live_in before live) offset junk taken (is_live_in g.D.Disk before live is_in) (c.in-Ok-Ended.is ∙ ap took c.in-Ok-Ended.field-0-is) in
    record {
      run = new.import;
      after = after.hub;
      takes = subst (λ (one : OnAir). TakesEnd (Answers g.D.Disk) (HasAllTaken one) offset junk taken one.import new.import before after.hub) same
          (hub_ended g.D.Disk (HasAllTaken c.in-Some.air) offset junk taken c.in-Some.air.import new.import (live_in before live) after ends);
    }

pub returns-in-Ok-Ended-clause-parts : goal.returns-in-Ok-Ended-clause-parts
returns-in-Ok-Ended-clause-parts g c air is key client feeder found feeding =
    let same : c.in-Some.air ≡ air = same_air c.in-Some.air air (sym c.in-Some.is ∙ is) in
    let new = c.step.new.self in
    let taken = c.in-Ok-Ended.taken in
    let ended = c.in-Ok-Ended.is ∙ ap took c.in-Ok-Ended.field-0-is in
    let stays = c.step.ensures.same c.in-Ok-Ended.offset c.in-Ok-Ended.junk taken ended in
    let (after, left, parted) = c.leave_the_air-refused-in-Ok-Ended.ensures.parts new refl key client (stays.0 ∙ ap (λ (one : OnAir). one.feeder) same ∙ feeder) found feeding in (
      after,
      left,
      subst (λ (answer : Option Outcome). HasParted answer client after)
          (same_answer (is_some c.leave_the_air-refused-in-Ok-Ended.result) new (noted taken air) (stays.1 ∙ ap (λ (one : OnAir). one.body) same)
          (c.step.ensures.lost c.in-Ok-Ended.offset c.in-Ok-Ended.junk taken ended ∙ ap (λ (one : OnAir). (noted taken one).lost) same) (stays.2 ∙ ap (λ (one : OnAir). one.complete) same) (stays.3 ∙ ap (λ (one : OnAir). one.foreign) same)) parted,
    )

pub returns-in-Err-clause-parts : goal.returns-in-Err-clause-parts
returns-in-Err-clause-parts g c air is =
    let same : c.in-Some.air ≡ air = same_air c.in-Some.air air (sym c.in-Some.is ∙ is) in
    let new = c.step.new.self in
    let stays = c.in-Err.ensures.err in
    let (refused, done, rests) = c.give_up.ensures.done in
    parts_given c.give_up.result _ refused air c.args.self.now.clients.slots c.give_up.new.self.clients.slots done (λ key client feeder found feeding.
    let (after, left, parted) = c.give_up.ensures.parts new refl key client (stays.0 ∙ ap (λ (one : OnAir). one.feeder) same ∙ feeder) found feeding in
    (after, left, lost_answer new air client after (stays.1 ∙ ap (λ (one : OnAir). one.body) same) (stays.2 ∙ ap (λ (one : OnAir). one.foreign) same) parted))

given_up : (one other : RecordFault) (refused later : Option Refusal) → GivenUp one refused ≡ GivenUp other later → one ≡ other
given_up one other refused later e = cc e

pub returns-in-Err-clause-cause : goal.returns-in-Err-clause-cause
returns-in-Err-clause-cause g c air fault refused is gave before is_in =
    let same : c.in-Some.air ≡ air = same_air c.in-Some.air air (sym c.in-Some.is ∙ is) in
    let last = c.step.new.self.import in
    let live = c.args.self.now.live in
    let (first, done, rests) = c.give_up.ensures.done in (
      last,
      subst (λ (one : RecordFault). GivesUpFor one air.short air.import last) (given_up c.in-Err.fault fault first refused (sym done ∙ gave))
          (subst (λ (one : OnAir). GivesUpFor c.in-Err.fault one.short one.import last) same (c.in-Err.ensures.cause (live_in before live) (is_live_in g.D.Disk before live is_in))),
    )

pub returns-in-Ok-Nothing-clause-records : goal.returns-in-Ok-Nothing-clause-records
returns-in-Ok-Nothing-clause-records g c =
    took_led g.D.Disk c.args.self.now.live c.step.new.runner c.in-Some.air c.step.new.self _ c.step.result c.step.ensures.steps c.step.ensures.ends
    (λ e. (c.step.ensures.bytes e).0) (λ e. (c.step.ensures.nothing e).0) (λ passed e. (c.step.ensures.foreign passed e).2) c.step.ensures.stops

pub returns-in-Ok-Bytes-clause-records : goal.returns-in-Ok-Bytes-clause-records
returns-in-Ok-Bytes-clause-records g c =
    took_led g.D.Disk c.args.self.now.live c.step.new.runner c.in-Some.air c.step.new.self _ c.step.result c.step.ensures.steps c.step.ensures.ends
    (λ e. (c.step.ensures.bytes e).0) (λ e. (c.step.ensures.nothing e).0) (λ passed e. (c.step.ensures.foreign passed e).2) c.step.ensures.stops

pub returns-in-Ok-Stepped-clause-records : goal.returns-in-Ok-Stepped-clause-records
returns-in-Ok-Stepped-clause-records g c =
    took_led g.D.Disk c.args.self.now.live c.step.new.runner c.in-Some.air c.step.new.self _ c.step.result c.step.ensures.steps c.step.ensures.ends
    (λ e. (c.step.ensures.bytes e).0) (λ e. (c.step.ensures.nothing e).0) (λ passed e. (c.step.ensures.foreign passed e).2) c.step.ensures.stops

pub returns-in-Ok-Ended-clause-records : goal.returns-in-Ok-Ended-clause-records
returns-in-Ok-Ended-clause-records g c =
    records_then g.D.Disk c.args.self.now.live c.step.new.runner c.leave_the_air-refused-in-Ok-Ended.new.self.live
    (took_led g.D.Disk c.args.self.now.live c.step.new.runner c.in-Some.air c.step.new.self _ c.step.result c.step.ensures.steps c.step.ensures.ends
    (λ e. (c.step.ensures.bytes e).0) (λ e. (c.step.ensures.nothing e).0) (λ passed e. (c.step.ensures.foreign passed e).2) c.step.ensures.stops)
    c.leave_the_air-refused-in-Ok-Ended.ensures.records

pub returns-in-Err-clause-records : goal.returns-in-Err-clause-records
returns-in-Err-clause-records g c =
    records_then g.D.Disk c.args.self.now.live c.step.new.runner c.give_up.new.self.live
    (took_led g.D.Disk c.args.self.now.live c.step.new.runner c.in-Some.air c.step.new.self _ c.step.result c.step.ensures.steps c.step.ensures.ends
    (λ e. (c.step.ensures.bytes e).0) (λ e. (c.step.ensures.nothing e).0) (λ passed e. (c.step.ensures.foreign passed e).2) c.step.ensures.stops)
    c.give_up.ensures.records

-- ---- a stream that isn't Ogg
pub returns-in-Ok-Foreign-clause-takes : goal.returns-in-Ok-Foreign-clause-takes
returns-in-Ok-Foreign-clause-takes g c air is =
    let same : c.in-Some.air ≡ air = same_air c.in-Some.air air (sym c.in-Some.is ∙ is) in
    let (none, passed, stays, marked) = c.step.ensures.foreign c.in-Ok-Foreign.passed (c.in-Ok-Foreign.is ∙ ap took c.in-Ok-Foreign.field-0-is) in
    has_no_page c.in-Some.air air c.feeder-feeder.result c.in-Ok-Foreign.passed same none passed (c.feeder-feeder.ensures ∙ ap (λ (one : OnAir). one.feeder) marked)

pub returns-in-Ok-Foreign-clause-parts : goal.returns-in-Ok-Foreign-clause-parts
returns-in-Ok-Foreign-clause-parts g c air is key client feeder found feeding =
    let same : c.in-Some.air ≡ air = same_air c.in-Some.air air (sym c.in-Some.is ∙ is) in
    let new = c.step.new.self in
    let (none, passed, stays, marked) = c.step.ensures.foreign c.in-Ok-Foreign.passed (c.in-Ok-Foreign.is ∙ ap took c.in-Ok-Foreign.field-0-is) in
    let becomes = marked ∙ ap (λ (one : OnAir). record one { foreign = true }) same in
    let (after, left, parted) = c.leave_the_air-refused.ensures.parts new refl key client (ap (λ (one : OnAir). one.feeder) becomes ∙ feeder) found feeding in
    (after, left, subst (λ (answer : Option Outcome). HasParted answer client after) (foreign_parts (is_some c.leave_the_air-refused.result) new air becomes) parted)

pub returns-in-Ok-Foreign-clause-records : goal.returns-in-Ok-Foreign-clause-records
returns-in-Ok-Foreign-clause-records g c =
    records_then g.D.Disk c.args.self.now.live c.step.new.runner c.leave_the_air-refused.new.self.live
    (took_led g.D.Disk c.args.self.now.live c.step.new.runner c.in-Some.air c.step.new.self _ c.step.result c.step.ensures.steps c.step.ensures.ends
    (λ e. (c.step.ensures.bytes e).0) (λ e. (c.step.ensures.nothing e).0) (λ passed e. (c.step.ensures.foreign passed e).2) c.step.ensures.stops)
    c.leave_the_air-refused.ensures.records
