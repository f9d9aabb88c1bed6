use Rattle.serve_hub.proofs.Linked.{linked_flush, recorded_in}
use Rattle.file_recorder.specs.AnswerLaws.{flushed_by}
use Rattle.serve_hub.proofs.Stepping.{flushes}
use Rattle.serve_hub.proofs.commanding.flush_commands.Goals as goal

pub returns-clause-step : goal.returns-clause-step
returns-clause-step g c = λ before s.
    let d = g.D.Disk in
    let e = c.flush-answer.ensures in
    let new = c.flush-answer.new.self in
    let honest = e.frame.honest.0 s.honest in
    flushes d c.args.recorder.now new before s c.end-before.ensures.always c.end-after.ensures.always honest (g.met.D.Disk.laws new.file.disk honest)
    (c.end-before.ensures.inside s.honest) (c.end-after.ensures.inside honest) c.flush-answer.result e.by_failed e.refusals e.nothing e.faulted e.tells e.good e.grows (e.front s.honest) (e.any_moment s.honest)

pub returns-clause-disk : goal.returns-clause-disk
returns-clause-disk g c =
    let e = c.flush-answer.ensures in
    record {
      any_moment = e.any_moment;
      step = e.step;
      frame = e.frame;
    }

pub returns-clause-linked : goal.returns-clause-linked
returns-clause-linked g c = λ before after s step linked.
    let d = g.D.Disk in
    linked_flush before after c.flush-answer.result step linked (recorded_in d c.args.recorder.now before c.end-before.ensures.always s)

pub returns-clause-whole : goal.returns-clause-whole
returns-clause-whole g c = c.end-before.ensures.always.chain

pub returns-clause-replied : goal.returns-clause-replied
returns-clause-replied g c =
    let e = c.flush-answer.ensures in
    let old = c.args.recorder.now in
    flushed_by old.file.failed c.flush-answer.result old c.flush-answer.new.self e.by_failed e.refusals e.nothing e.faulted e.tells e.good
