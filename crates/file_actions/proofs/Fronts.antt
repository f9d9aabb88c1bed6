-- The front of a file's line, without its line feed.
use Rattle.std.proofs.Common.{◌≡◌, ℕ, ◌-◌, List, [], ◌++◌, length, take, sym, ◌∙◌, ap, arith, append_assoc, length-append, take_at}
use Rattle.std.specs.Prelude.{codes}
use Rattle.std.specs.Fmt.{decimal}
use Rattle.file_actions.specs.Lines.{file_front, line_end, number_then, told_then}

numbers_apart : (n : ℕ) (a b : List ℕ) → number_then n (a ++ b) ≡ number_then n a ++ b
numbers_apart n a b = ap (λ (l : List ℕ). codes " " ++ l) (sym (append_assoc (decimal n) a b))

told_apart : (told a b : List ℕ) → told_then told (a ++ b) ≡ told_then told a ++ b
told_apart told a b = ap (λ (l : List ℕ). codes " " ++ l) (sym (append_assoc told a b))

-- what follows the front stands behind it
apart : (number : ℕ) (begin end : List ℕ) (bytes : ℕ) (rest : List ℕ) → file_front number begin end bytes rest ≡ file_front number begin end bytes [] ++ rest
apart number begin end bytes rest =
    let space : List ℕ = codes " " in
    let four = numbers_apart bytes space rest in
    let three = ap (told_then end) four ∙ told_apart end (number_then bytes space) rest in
    let two = ap (told_then begin) three ∙ told_apart begin (told_then end (number_then bytes space)) rest in
    let one = ap (number_then number) two ∙ numbers_apart number (told_then begin (told_then end (number_then bytes space))) rest in
    ap (λ (l : List ℕ). codes "file" ++ l) one

without_end : (l : List ℕ) → take (length (l ++ line_end) - 1) (l ++ line_end) ≡ l
without_end l = take_at l line_end (length (l ++ line_end) - 1) (let size = length-append l line_end in omega (arith, size))

-- the front, and then another text
pub other_end : (number : ℕ) (begin end : List ℕ) (bytes : ℕ) (text rest : List ℕ) → text ≡ file_front number begin end bytes line_end
    → take (length text - 1) text ++ rest ≡ file_front number begin end bytes rest
other_end number begin end bytes text rest is =
    let front : List ℕ = file_front number begin end bytes [] in
    let whole : text ≡ front ++ line_end = is ∙ apart number begin end bytes line_end in
    ap (λ (l : List ℕ). take (length l - 1) l ++ rest) whole
    ∙ ap (λ (l : List ℕ). l ++ rest) (without_end front)
    ∙ sym (apart number begin end bytes rest)
