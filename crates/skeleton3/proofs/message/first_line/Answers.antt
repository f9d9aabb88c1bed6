use Rattle.std.proofs.Common.{◌+◌, ◌∙◌, [], sym, ap, drop, arith}
use Rattle.std.proofs.lemmas.List.{take_all}
use Rattle.std.proofs.lemmas.Grind.{common_steps}
use Rattle.skeleton3.specs.Fields.{kept_line, lines_of}
use Rattle.skeleton3.proofs.LineFacts.{line_in_front, last_line}
use Rattle.skeleton3.proofs.message.first_line.Goals as goal

pub returns-in-Some-clause-lines : goal.returns-in-Some-clause-lines
returns-in-Some-clause-lines c =
    let at = c.in-Some.at in
    let text = c.args.text.now in
    line_in_front text at (sym c.first_feed.ensures ∙ c.in-Some.is)
    ∙ ap (λ line. kept_line line (lines_of (drop (at + 1) text))) (sym c.without_return.ensures)
    ∙ ap (λ rest. kept_line c.without_return.result.now (lines_of rest)) (sym (take_all _ (drop (at + 1) text) (grind (arith, common_steps))))

pub returns-in-None-clause-lines : goal.returns-in-None-clause-lines
returns-in-None-clause-lines c =
    last_line c.args.text.now (sym c.first_feed.ensures ∙ c.in-None.is) ∙ ap (λ line. kept_line line (lines_of [])) (sym c.without_return-in-None.ensures)
