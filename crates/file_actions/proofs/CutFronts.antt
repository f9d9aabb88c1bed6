-- The front of a cut's line, without its line feed.
use Rattle.std.proofs.Common.{◌≡◌, ℕ, ◌-◌, List, [], ◌++◌, length, take, sym, ◌∙◌, ap, arith, append_assoc, length-append, take_at}
use Rattle.std.specs.Prelude.{codes}
use Rattle.file_actions.specs.CutLines.{times_text}
use Rattle.file_actions.specs.Lines.{line_end}

-- what follows the times stands behind them
apart : (from to rest : List ℕ) → times_text from to rest ≡ times_text from to [] ++ rest
apart from to rest =
    let space : List ℕ = codes " " in
    ap (λ l. codes "cut " ++ l)
    (ap (λ l. from ++ l) (ap (λ l. space ++ l) (sym (append_assoc to space rest))) ∙ sym (append_assoc from (space ++ (to ++ space)) rest))

without_end : (l : List ℕ) → take (length (l ++ line_end) - 1) (l ++ line_end) ≡ l
without_end l = take_at l line_end (length (l ++ line_end) - 1) (let size = length-append l line_end in omega (arith, size))

-- the times, and then another text
pub other_end : (from to text rest : List ℕ) → text ≡ times_text from to line_end → take (length text - 1) text ++ rest ≡ times_text from to rest
other_end from to text rest is =
    let front : List ℕ = times_text from to [] in
    let whole : text ≡ front ++ line_end = is ∙ apart from to line_end in
    ap (λ l. take (length l - 1) l ++ rest) whole ∙ ap (λ l. l ++ rest) (without_end front) ∙ sym (apart from to rest)
