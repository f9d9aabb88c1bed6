use Rattle.std.proofs.Common.{◌≡◌, ℕ, ◌≤◌, List, Option, None, length, drop, min, sym, ◌∙◌, ap, subst, arith, length-append, length-drop}
use Rattle.archive_times.specs.Times.{AreLinesOf, last_of, times_text}
use Rattle.archive_times.specs.declared.line.Line.{Line}
use Rattle.file_actions.specs.Times.{first_text, most}
use Rattle.file_actions.proofs.Passing.{front_fits, lines_left, times_both}
use Rattle.file_actions.proofs.checks.Places.step.Goals as goal

pub returns-clause-line : goal.returns-clause-line
returns-clause-line c front left rest of next_is end_is =
    let text = c.args.self.now.text.items in
    let n : ℕ = length (times_text front) in
    let fits : n ≤ length text = front_fits text front left rest of in
    let cut : min c.args.self.now.end (length text) ≡ n = omega (arith, end_is, fits) in
    let here : c.rest.result.now ≡ drop n text = c.rest.ensures ∙ ap (λ (k : ℕ). drop k text) cut in
    let lines : AreLinesOf most c.args.self.now.next c.rest.result.now left rest =
    subst (λ (last : Option Line). AreLinesOf most last c.rest.result.now left rest) (sym next_is)
    (subst (λ (l : List ℕ). AreLinesOf most (last_of None front) l left rest) (sym here) (lines_left text front left rest of)) in
    let (first, size) = c.line_on-next.ensures left rest lines in
    let long = ap length here ∙ length-drop n text in
    let both = ap length (times_both front (first_text left)) ∙ length-append (times_text front) (times_text (first_text left)) in
    (first, omega (arith, size, long, both, fits, c.len.ensures, c.saturating_sub-self.ensures))
