use Rattle.std.proofs.Common.{refl, sym, subst}
use Rattle.feed_records.specs.declared.item.Record.TheVariants.{Flush}
use Rattle.feed_replies.specs.declared.reply.Reply.{Reply}
use Rattle.file_recorder.specs.Running.{progress}
use Rattle.file_recorder.specs.AnswerLaws.{flushed_by}
use Rattle.file_recorder.proofs.Answered.{ComesTo, at_reached, flush_answered, flush_fault, writes_flush}
use Rattle.file_recorder.proofs.running.RecorderRunner.run_flush.Goals as goal

pub returns-clause-answers : goal.returns-clause-answers
returns-clause-answers g c = λ before reached.
    let d = g.D.Disk in
    let old = c.args.self.now in
    let new = c.flush-answer.new.self in
    let r = c.flush-answer.result in
    let e = c.flush-answer.ensures in
    at_reached before old (λ b. ComesTo d Flush c.reply_to_flush.result new b) reached
    (subst (λ (reply : Reply). ComesTo d Flush reply new (progress before.first before.world old)) (sym c.reply_to_flush.ensures)
    (flush_answered d before.first before.world old new old.file.failed r refl e.by_failed e.refusals
    (flushed_by old.file.failed r old new e.by_failed e.refusals e.nothing e.faulted e.tells e.good)
    (λ honest. writes_flush honest d.state r old new e.grows e.none_waits (e.front honest))
    (λ is_in opened honest. e.step before.first before.world is_in opened honest) e.frame.honest e.frame.later (λ told. e.frame.cause (flush_fault r told))))
