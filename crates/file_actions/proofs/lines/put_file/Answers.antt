use Rattle.std.proofs.Common.{◌≡◌, ◌++◌, List, ℕ, ◌∙◌, ap, length, take, ◌-◌}
use Rattle.file_actions.specs.Lines.{line_end}
use Rattle.file_actions.proofs.Fronts.{other_end}
use Rattle.file_actions.proofs.lines.put_file.Goals as goal

pub returns-in-Ok : goal.returns-in-Ok
returns-in-Ok c =
    let it = c.file_front-front in
    let text = it.result.text in
    let name : List ℕ = c.args.name.now ++ line_end in
    let front : c.without_last.result.now ≡ take (length text - 1) text =
    c.without_last.ensures ∙ ap (λ (l : List ℕ). take (length l - 1) l) c.as_slice.ensures in (
      c.without_last.result.now ++ name,
      record {
        begin = it.ensures.begin;
        end = it.ensures.end;
        is_begin = it.ensures.is_begin;
        is_end = it.ensures.is_end;
        text_is = ap (λ (l : List ℕ). l ++ name) front
            ∙ other_end c.args.number it.ensures.begin it.ensures.end c.args.bytes text name it.ensures.text_is;
      },
      c.in-Ok.ensures,
    )
