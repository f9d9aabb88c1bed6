use Rattle.std.proofs.Common.{None, true, sym, ◌∙◌, ap, subst, refl}
use Rattle.import_record.specs.Running.{HasRun}
use Rattle.serve_hub.specs.Parts.{HubParts, serials_in, streams_in}
use Rattle.serve_hub.specs.Running.{Answers}
use Rattle.station_sources.specs.Beginning.{GoesOnIn}
use Rattle.station.proofs.Leaving.{lost_answer, resumed, same_air, same_answered}
use Rattle.station_sources.specs.declared.air.OnAir.{OnAir}
use Rattle.station_hub.specs.LiveLaws.{is_live_in, records_then}
use Rattle.station_hub.specs.LiveRunning.{live_in}
use Rattle.station.proofs.Recorded.{hub_ran, ran}
use Rattle.station.proofs.station.Station.resume.Goals as goal

pub returns-in-Err-clause-parts : goal.returns-in-Err-clause-parts
returns-in-Err-clause-parts g c air fault refused is apart key client feeder found feeding =
    let now = c.resume.new.self in
    let same = resumed c.in-Some.air c.lose.new.self now air (same_air c.in-Some.air air (sym c.in-Some.is ∙ is)) c.lose.ensures c.resume.ensures.same in
    let (after, left, parted) = c.give_up.ensures.parts now refl key client (ap (λ (one : OnAir). one.feeder) same ∙ feeder) found feeding in
    (after, left, lost_answer now air client after (ap (λ (one : OnAir). one.body) same) (ap (λ (one : OnAir). one.foreign) same) parted)

pub returns-in-Err-resumed-clause-parts : goal.returns-in-Err-resumed-clause-parts
returns-in-Err-resumed-clause-parts g c air fault refused is apart key client feeder found feeding =
    let now = c.resume.new.self in
    let same = resumed c.in-Some.air c.lose.new.self now air (same_air c.in-Some.air air (sym c.in-Some.is ∙ is)) c.lose.ensures c.resume.ensures.same in
    let (after, left, parted) = c.give_up-in-Err-resumed.ensures.parts now refl key client (ap (λ (one : OnAir). one.feeder) same ∙ feeder) found feeding in
    (after, left, lost_answer now air client after (ap (λ (one : OnAir). one.body) same) (ap (λ (one : OnAir). one.foreign) same) parted)

pub returns-in-Ok-resumed-clause-noted : goal.returns-in-Ok-resumed-clause-noted
returns-in-Ok-resumed-clause-noted g c air answered is done =
    (c.resume.new.self, refl, resumed c.in-Some.air c.lose.new.self c.resume.new.self air (same_air c.in-Some.air air (sym c.in-Some.is ∙ is)) c.lose.ensures c.resume.ensures.same)

pub returns-in-Ok-resumed-clause-resumes : goal.returns-in-Ok-resumed-clause-resumes
returns-in-Ok-resumed-clause-resumes g c air told before is is_in done =
    let source = c.resume.new.self in
    let same = c.lose.ensures ∙ ap (λ (one : OnAir). record one { lost = true }) (same_air c.in-Some.air air (sym c.in-Some.is ∙ is)) in
    let hub = c.hub-hub.ensures ∙ sym is_in.0 in
    let live = c.args.self.now.live in
    let (after, reached, ran) = c.in-Ok-resumed.ensures.ok (live_in before live) (is_live_in g.D.Disk before live is_in) in record {
      source = source;
      after = after.hub;
      on_air = refl;
      resumed = record {
        commands = c.in-Ok.commands.items;
        answered = c.in-Ok-resumed.answered;
        goes_on = subst (λ streams. GoesOnIn streams (serials_in before.now.file) c.in-Ok.commands.items (record air { lost = true }) source)
            (c.streams.ensures.streams ∙ ap (λ (one : HubParts _). streams_in one.file) hub)
            (subst (λ serials. GoesOnIn c.streams.result.now serials c.in-Ok.commands.items (record air { lost = true }) source)
            (c.serials.ensures.serials ∙ ap (λ (one : HubParts _). serials_in one.file) hub)
            (subst (λ (one : OnAir). GoesOnIn c.streams.result.now c.serials.result.now c.in-Ok.commands.items one source) same c.in-Ok.ensures.resumes));
        ran = subst (λ commands. HasRun (Answers g.D.Disk) commands c.in-Ok-resumed.answered before after.hub None None) c.as_slice.ensures.value
            (hub_ran g.D.Disk c.as_slice.result.now c.in-Ok-resumed.answered (live_in before live) after None None ran);
      };
      reached = reached.hub;
      told = same_answered c.in-Ok-resumed.answered told done;
    }

pub returns-in-Ok-resumed-clause-records : goal.returns-in-Ok-resumed-clause-records
returns-in-Ok-resumed-clause-records g c =
    ran g.D.Disk c.args.self.now.live c.run_all-resumed.new.runner c.as_slice.result.now c.run_all-resumed.result _ _
    c.run_all-resumed.ensures.ok c.run_all-resumed.ensures.err

pub returns-in-Err-resumed-clause-records : goal.returns-in-Err-resumed-clause-records
returns-in-Err-resumed-clause-records g c =
    records_then g.D.Disk c.args.self.now.live c.run_all-resumed.new.runner c.give_up-in-Err-resumed.new.self.live
    (ran g.D.Disk c.args.self.now.live c.run_all-resumed.new.runner c.as_slice.result.now c.run_all-resumed.result _ _
    c.run_all-resumed.ensures.ok c.run_all-resumed.ensures.err) c.give_up-in-Err-resumed.ensures.records
