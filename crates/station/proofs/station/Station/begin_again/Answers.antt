use Rattle.std.proofs.Common.{None, [], ◌||◌, refl, sym, ◌∙◌, ap, subst}
use Rattle.import_record.specs.Running.{HasRun}
use Rattle.serve_hub.specs.Running.{Answers}
use Rattle.station_sources.specs.Beginning.{GoesOnIn}
use Rattle.station_sources.specs.declared.air.OnAir.{OnAir}
use Rattle.station_hub.specs.LiveLaws.{is_live_in, records_then}
use Rattle.station_hub.specs.LiveRunning.{live_in}
use Rattle.station.proofs.Leaving.{answered_so, same_air}
use Rattle.station.proofs.Recorded.{by_flush, hub_ran, ran}
use Rattle.station.proofs.station.Station.begin_again.Goals as goal

pub returns-in-Ok-ran-clause-begins : goal.returns-in-Ok-ran-clause-begins
returns-in-Ok-ran-clause-begins g c air told before is is_in done =
    let source = c.resume.new.self in
    let same = c.note_loss.ensures
    ∙ ap (λ (one : OnAir). record one { lost = c.args.is_lost || one.lost }) (same_air c.in-Some.air air (sym c.in-Some.is ∙ is)) in
    let live = c.args.self.now.live in
    let (begun, reached, ran) = c.in-Ok-ran.ensures.ok (live_in before live) (is_live_in g.D.Disk before live is_in) in
    let (after, kept, at_last) = c.run_flush.ensures.answers begun reached in record {
      source = source;
      begun = begun.hub;
      after = after.hub;
      reply = c.run_flush.result;
      on_air = refl;
      resumed = record {
        commands = c.in-Ok.commands.items;
        answered = c.in-Ok-ran.answered;
        goes_on = subst (λ (one : OnAir). GoesOnIn [] c.args.serials.now c.in-Ok.commands.items one source) same c.in-Ok.ensures.resumes;
        ran = subst (λ commands. HasRun (Answers g.D.Disk) commands c.in-Ok-ran.answered before begun.hub None None) c.as_slice.ensures.value
            (hub_ran g.D.Disk c.as_slice.result.now c.in-Ok-ran.answered (live_in before live) begun None None ran);
      };
      told = answered_so c.in-Ok-ran.answered told done;
      kept = kept.hub;
      reached = at_last.hub;
    }

pub returns-in-Ok-ran-clause-records : goal.returns-in-Ok-ran-clause-records
returns-in-Ok-ran-clause-records g c =
    records_then g.D.Disk c.args.self.now.live c.run_all-ran.new.runner c.run_flush.new.self
    (ran g.D.Disk c.args.self.now.live c.run_all-ran.new.runner c.as_slice.result.now c.run_all-ran.result _ _
    c.run_all-ran.ensures.ok c.run_all-ran.ensures.err)
    (by_flush g.D.Disk c.run_all-ran.new.runner c.run_flush.new.self c.run_flush.result c.run_flush.ensures.answers)

pub returns-in-Err-ran-clause-records : goal.returns-in-Err-ran-clause-records
returns-in-Err-ran-clause-records g c =
    records_then g.D.Disk c.args.self.now.live c.run_all-ran.new.runner c.run_flush.new.self
    (ran g.D.Disk c.args.self.now.live c.run_all-ran.new.runner c.as_slice.result.now c.run_all-ran.result _ _
    c.run_all-ran.ensures.ok c.run_all-ran.ensures.err)
    (by_flush g.D.Disk c.run_all-ran.new.runner c.run_flush.new.self c.run_flush.result c.run_flush.ensures.answers)
