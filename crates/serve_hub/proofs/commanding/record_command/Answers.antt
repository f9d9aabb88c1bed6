use Rattle.chain_rules.specs.Decision.{decision}
use Rattle.serve_hub.proofs.Linked.{linked_command, recorded_in}
use Rattle.file_recorder.specs.AnswerLaws.{answered_by}
use Rattle.serve_hub.proofs.Stepping.{commands, not_disk}
use Rattle.serve_hub.proofs.commanding.record_command.Goals as goal

pub returns-clause-step : goal.returns-clause-step
returns-clause-step g c = λ before s.
    let d = g.D.Disk in
    let e = c.command-answer.ensures in
    let new = c.command-answer.new.self in
    let honest = e.frame.honest.0 s.honest in
    commands d c.args.recorder.now new before s c.end-before.ensures.always c.end-after.ensures.always honest (g.met.D.Disk.laws new.file.disk honest)
    (c.end-before.ensures.inside s.honest) (c.end-after.ensures.inside honest) c.args.command.now c.command-answer.result
    (c.refusals_are_of_the_table.ensures c.args.recorder.now.chain c.args.command.now) e.by_failed e.by_rules e.otherwise e.accepted e.same e.faulted e.tells e.good e.grows (e.front s.honest)
    (e.any_moment s.honest)

pub returns-clause-disk : goal.returns-clause-disk
returns-clause-disk g c =
    let e = c.command-answer.ensures in
    record {
      any_moment = e.any_moment;
      waits = e.waits;
      step = e.step;
      frame = e.frame;
    }

pub returns-clause-linked : goal.returns-clause-linked
returns-clause-linked g c = λ before after s step linked.
    let d = g.D.Disk in
    linked_command c.command_adds_its_packets.ensures.holds before after c.args.command.now c.command-answer.result c.command_is_in_range.ensures step linked
    (recorded_in d c.args.recorder.now before c.end-before.ensures.always s)

pub returns-clause-whole : goal.returns-clause-whole
returns-clause-whole g c = c.end-before.ensures.always.chain

pub returns-clause-replied : goal.returns-clause-replied
returns-clause-replied g c =
    let e = c.command-answer.ensures in
    let old = c.args.recorder.now in
    let command = c.args.command.now in
    answered_by old.file.failed (decision old.chain command) c.command-answer.result old c.command-answer.new.self command e.by_failed e.by_rules e.otherwise e.same
    e.faulted e.tells e.good e.links (λ refusal is. not_disk refusal (c.refusals_are_of_the_table.ensures old.chain command refusal is).1) e.memory
