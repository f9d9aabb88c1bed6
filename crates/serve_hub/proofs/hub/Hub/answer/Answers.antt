use Rattle.std.proofs.Common.{◌≡◌, ◌≢◌, refl, sym, subst}
use Rattle.std.specs.Prelude.{IfErr}
use Rattle.feed_records.specs.declared.item.Record.TheVariants.{Command as CommandOf}
use Rattle.feed_replies.specs.declared.reply.Reply.{Reply}
use Rattle.ogg_command.specs.declared.refusal.Refusal.TheVariants.{Disk}
use Rattle.serve_hub.specs.Images.{IfFile, Records}
use Rattle.serve_hub.specs.Parts.{HubParts, OnlyFile}
use Rattle.serve_hub.specs.Running.{RepliesIn}
use Rattle.serve_hub.proofs.hub.Hub.answer.Goals as goal

pub returns-clause-replied : goal.returns-clause-replied
returns-clause-replied g c =
    subst (λ (reply : Reply). RepliesIn c.args.self.now.file (CommandOf c.args.command.now) reply c.command-answer.new.self.file) (sym c.reply_to.ensures)
    c.command-answer.ensures.replied

pub returns-clause-answers : goal.returns-clause-answers
returns-clause-answers g c = λ before is_in.
    let d = g.D.Disk in
    let e = c.command-answer.ensures in
    let s = e.step before.machine is_in.1 in
    let disk = subst (λ (hub : HubParts _). IfFile (Records d c.args.command.now c.command-answer.result) hub.file c.command-answer.new.self.file) (sym is_in.0) e.disk in
    let only = subst (λ (hub : HubParts _). OnlyFile hub c.command-answer.new.self) (sym is_in.0) e.parts in
    let same = subst (λ (hub : HubParts _). IfErr c.command-answer.result (λ refusal. refusal ≢ Disk → c.command-answer.new.self ≡ hub)) (sym is_in.0) e.same in
    let replied = subst (λ (hub : HubParts _). RepliesIn hub.file (CommandOf c.args.command.now) c.reply_to.result c.command-answer.new.self.file) (sym is_in.0) (returns-clause-replied g c) in (
      record { now = c.command-answer.new.self; machine = s.0 },
      (refl, record { answer = c.command-answer.result; told = c.reply_to.ensures; replied = replied; step = s.2; disk = disk; only = only; same = same }),
      (refl, s.1),
    )
