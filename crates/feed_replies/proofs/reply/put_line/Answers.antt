use Rattle.std.proofs.Common.{◌++◌, ◌∙◌, drop, sym, ap}
use Rattle.std.specs.Prelude.{codes, decimal}
use Rattle.ogg_command.specs.Refusal.{code_of, name_of}
use Rattle.feed_replies.specs.Reply.{reply_line, line_end}
use Rattle.feed_replies.proofs.ReplyFacts.{ends_line, in_a_row}
use Rattle.feed_replies.proofs.reply.put_line.Goals as goal

pub returns-in-Kept-clause-line : goal.returns-in-Kept-clause-line
returns-in-Kept-clause-line c =
    let end = ends_line c.args.line.now (drop c.put_text-end.result c.put_text-end.new.line) c.told-line c.put_text-end.ensures.text in
    in_a_row (codes "kept ") (decimal c.in-Kept.kept.count) (codes " ") (decimal c.in-Kept.kept.end) line_end _ _ _ _ _
    c.put_text.ensures.text c.put_number-end-in-Kept.ensures.text c.put_text-end-in-Kept.ensures.text c.put_number-end.ensures.text end
    ∙ ap reply_line (sym c.in-Kept.is)

pub returns-in-Refused-clause-line : goal.returns-in-Refused-clause-line
returns-in-Refused-clause-line c =
    let end = ends_line c.args.line.now (drop c.put_text-end.result c.put_text-end.new.line) c.told-line c.put_text-end.ensures.text in
    let code = c.put_number-end-in-Refused.ensures.text
    ∙ ap (λ n. decimal n ++ drop c.put_text-end-in-Refused.result c.put_text-end-in-Refused.new.line) (c.from.ensures ∙ c.code.ensures) in
    let name = c.put_name-end.ensures.text
    ∙ ap (λ l. l ++ drop c.put_text-end.result c.put_text-end.new.line) (c.as_bytes.ensures.value ∙ c.name.ensures) in
    in_a_row (codes "refused ") (decimal (code_of c.in-Refused.refusal)) (codes " ") (name_of c.in-Refused.refusal) line_end _ _ _ _ _
    c.put_text-in-Refused.ensures.text code c.put_text-end-in-Refused.ensures.text name end
    ∙ ap reply_line (sym c.in-Refused.is)
