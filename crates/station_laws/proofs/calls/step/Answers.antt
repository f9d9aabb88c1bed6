use Rattle.std.proofs.Common.{subst}
use Rattle.station.specs.Stepping.{HasFlushed}
use Rattle.station.specs.declared.stepping.Done.{Done}
use Rattle.station_laws.proofs.calls.step.Goals as goal

pub returns-clause-time : goal.returns-clause-time
returns-clause-time g c = record {
  since = c.step.ensures.since;
  due = c.step.ensures.due;
  commits = λ machine shows works due.
      let has = c.step.ensures.commits machine shows works due in
      (has.reply, subst (λ (done : Done). HasFlushed g.D.Disk done c.args.station.now.live c.step.new.self.live) has.flushed has);
  rest = (c.step.ensures.rest.0, c.step.ensures.rest.1);
}
