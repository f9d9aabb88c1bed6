use Rattle.std.proofs.Common.{◌≡◌, ◌-◌, ◌∙◌, List, ℕ, take, drop, subst, arith, length-drop}
use Rattle.std.specs.Prelude.{OnErr}
use Rattle.std.proofs.lemmas.List.{take_all}
use Rattle.feed_replies.specs.Reply.{reply_line}
use Rattle.ogg_page.specs.Output.{WritesPart}
use Rattle.feed_replies.proofs.reply.write_reply.Goals as goal

pub returns-clause-err : goal.returns-clause-err
returns-clause-err g c =
    let start : ℕ = c.put_line-start.result in
    let line : List ℕ = c.put_line-start.new.line in
    let whole : take (48 - start) (drop start line) ≡ reply_line c.args.reply.now =
    take_all (48 - start) (drop start line) (omega (arith, length-drop start line, c.put_line-start.array_long)) ∙ c.put_line-start.ensures.line in
    subst (λ l. OnErr c.write_whole.result (WritesPart (g.W.Write.contents c.args.writer.now) (g.W.Write.contents c.write_whole.new.writer) l)) whole c.write_whole.ensures.err
