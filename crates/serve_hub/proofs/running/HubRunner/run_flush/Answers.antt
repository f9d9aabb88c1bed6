use Rattle.std.proofs.Common.{◌≡◌, ◌≢◌, refl, sym, subst}
use Rattle.std.specs.Prelude.{IfErr}
use Rattle.ogg_command.specs.declared.refusal.Refusal.TheVariants.{Disk}
use Rattle.feed_records.specs.declared.item.Record.TheVariants.{Flush as FlushOf}
use Rattle.feed_replies.specs.declared.reply.Reply.{Reply}
use Rattle.serve_hub.specs.Running.{RepliesIn}
use Rattle.serve_hub.specs.Images.{IfFile, Flushes}
use Rattle.serve_hub.specs.Parts.{HubParts, OnlyFile}
use Rattle.serve_hub.proofs.running.HubRunner.run_flush.Goals as goal

pub returns-clause-answers : goal.returns-clause-answers
returns-clause-answers g c = λ before is_in.
    let d = g.D.Disk in
    let e = c.flush-answer.ensures in
    let s = e.step before.machine is_in.1 in
    let disk = subst (λ (hub : HubParts _). IfFile (Flushes d c.flush-answer.result) hub.file c.flush-answer.new.self.file) (sym is_in.0) e.disk in
    let only = subst (λ (hub : HubParts _). OnlyFile hub c.flush-answer.new.self) (sym is_in.0) e.parts in
    let same = subst (λ (hub : HubParts _). IfErr c.flush-answer.result (λ refusal. refusal ≢ Disk → c.flush-answer.new.self ≡ hub)) (sym is_in.0) e.same in
    let replied = subst (λ (hub : HubParts _). RepliesIn hub.file FlushOf c.reply_to_flush.result c.flush-answer.new.self.file) (sym is_in.0) (subst (λ (reply : Reply). RepliesIn c.args.self.now.file FlushOf reply c.flush-answer.new.self.file) (sym c.reply_to_flush.ensures) e.replied) in
    (record { now = c.flush-answer.new.self; machine = s.0 }, (refl, record { answer = c.flush-answer.result; told = c.reply_to_flush.ensures; step = s.2; disk = disk; only = only; same = same; replied = replied }), (refl, s.1))

pub returns-clause-replied : goal.returns-clause-replied
returns-clause-replied g c =
    subst (λ (reply : Reply). RepliesIn c.args.self.now.file FlushOf reply c.flush-answer.new.self.file) (sym c.reply_to_flush.ensures) c.flush-answer.ensures.replied
