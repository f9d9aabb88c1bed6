use Rattle.std.proofs.Common.{◌++◌, ◌∙◌, List, ℕ, ap}
use Rattle.std.specs.Prelude.{codes}
use Rattle.serve_actions.proofs.lines.foreign_line.Goals as goal

pub returns : goal.returns
returns c =
    c.put_text-3.ensures.text ∙ ap (λ (l : List ℕ). codes "fault archive 4 NoPage: " ++ l)
    (c.put_text-2.ensures.text ∙ ap (λ (l : List ℕ). c.args.address.now ++ l)
    (c.put_text.ensures.text ∙ ap (λ (l : List ℕ). codes " sends no Ogg" ++ l) c.new-line.ensures.text))
