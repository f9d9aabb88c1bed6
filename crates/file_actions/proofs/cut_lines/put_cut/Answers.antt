use Rattle.std.proofs.Common.{◌≡◌, ◌++◌, ◌-◌, List, ℕ, length, take, ◌∙◌, ap}
use Rattle.file_actions.specs.CutLines.{counts_text}
use Rattle.file_actions.proofs.CutFronts.{other_end}
use Rattle.file_actions.proofs.cut_lines.put_cut.Goals as goal

pub returns-in-Ok : goal.returns-in-Ok
returns-in-Ok c =
    let it = c.times_line-front in
    let text = it.result.text in
    let counts : List ℕ = counts_text c.args.told in
    let front : c.without_last.result.now ≡ take (length text - 1) text =
    c.without_last.ensures ∙ ap (λ (l : List ℕ). take (length l - 1) l) c.as_slice.ensures in (
      c.without_last.result.now ++ counts,
      record {
        from = it.ensures.from;
        to = it.ensures.to;
        is_from = it.ensures.is_from;
        is_to = it.ensures.is_to;
        text_is = ap (λ (l : List ℕ). l ++ counts) front ∙ other_end it.ensures.from it.ensures.to text counts it.ensures.text_is;
      },
      c.in-Ok.ensures ∙ ap (λ (l : List ℕ). c.args.out.now.items ++ (c.without_last.result.now ++ l)) (c.as_slice-2.ensures ∙ c.counts_line-counts.ensures),
    )
