use Rattle.std.proofs.Common.{sym, subst}
use Rattle.feed_records.specs.declared.item.Record.TheVariants.{Command as CommandOf}
use Rattle.feed_replies.specs.declared.reply.Reply.{Reply}
use Rattle.chain_rules.specs.Decision.{decision}
use Rattle.file_recorder.specs.Answer.{call_of, command_step}
use Rattle.file_recorder.proofs.Refused.{not_disk}
use Rattle.file_recorder.specs.Running.{Replies, progress}
use Rattle.file_recorder.specs.AnswerLaws.{answered_by}
use Rattle.file_recorder.proofs.Answered.{ComesTo, at_reached, one_step, step_is, command_fault, writes_command}
use Rattle.file_recorder.proofs.recorder.Recorder.answer.Goals as goal

pub returns-clause-replies : goal.returns-clause-replies
returns-clause-replies g c =
    let old = c.args.self.now in
    let new = c.command-answer.new.self in
    let r = c.command-answer.result in
    let e = c.command-answer.ensures in
    let command = c.args.command.now in
    subst (λ (reply : Reply). Replies old (CommandOf command) reply new) (sym c.reply_to.ensures)
    (answered_by old.file.failed (decision old.chain command) r old new command e.by_failed e.by_rules e.otherwise e.same e.faulted e.tells e.good e.links
    (λ refusal is. not_disk refusal (c.refusals_are_of_the_table.ensures old.chain command refusal is).1) e.memory)

pub returns-clause-answers : goal.returns-clause-answers
returns-clause-answers g c = λ before reached.
    let d = g.D.Disk in
    let old = c.args.self.now in
    let new = c.command-answer.new.self in
    let r = c.command-answer.result in
    let e = c.command-answer.ensures in
    let command = c.args.command.now in
    let given = CommandOf command in
    at_reached before old (λ b. ComesTo d given c.reply_to.result new b) reached
    (subst (λ (reply : Reply). ComesTo d given reply new (progress before.first before.world old)) (sym c.reply_to.ensures)
    (one_step d before.first before.world old new given _ (command_step r (call_of old.most before.world command) command)
    (step_is r old.most before.world command new.file.disk)
    (answered_by old.file.failed (decision old.chain command) r old new command e.by_failed e.by_rules e.otherwise e.same e.faulted e.tells e.good e.links
    (λ refusal is. not_disk refusal (c.refusals_are_of_the_table.ensures old.chain command refusal is).1) e.memory)
    (λ honest. writes_command honest d.state r old new command e.grows (e.stays honest) e.none_waits (e.front honest))
    (λ is_in honest. e.step before.first before.world is_in honest) e.frame.honest e.frame.later (λ told. e.frame.cause (command_fault r told))))
