-- What goes into a buffer of a text and of what follows it, and what is left of both.
use Rattle.std.proofs.Common.{◌≡◌, inl, inr, ℕ, ◌+◌, ◌-◌, ◌≤◌, List, ◌++◌, length, take, drop, min, sym, ◌∙◌, ap, arith, length-append, take_all, drop_of_length-le, append-nil}
use Rattle.std.proofs.lemmas.Bool.{cases_lt}
use Rattle.std.proofs.lemmas.List.{take-append-le, drop-append-le}
use Rattle.std.proofs.Math.Seq.{take-append-add, drop-append-add}

pub record Halves (text body : List ℕ) (size k : ℕ) : Type 0 where
  pub given : take size (text ++ body) ≡ take size text ++ take (size - k) body
  pub left : drop size (text ++ body) ≡ drop k text ++ drop (size - k) body
  pub count : (n : ℕ) → n ≡ min (length body) (size - k) → k + n ≡ min (length (text ++ body)) size

pub halves : (text body : List ℕ) (size k : ℕ) → k ≡ min (length text) size → Halves text body size k
halves text body size k is = elim (cases_lt (length text) size) [
  | inl more ↦
      let all : k ≡ length text = grind (arith, is, more) in
      let both : size ≡ length text + (size - k) = omega (arith, more, all) in
      record {
        given = ap (λ i. take i (text ++ body)) both ∙ take-append-add text body (size - k) ∙ ap (λ l. l ++ take (size - k) body) (sym (take_all size text (omega (arith, more))));
        left = ap (λ i. drop i (text ++ body)) both ∙ drop-append-add text body (size - k)
            ∙ ap (λ l. l ++ drop (size - k) body) (sym (drop_of_length-le text (let e : length text ≤ k = omega (arith, all) in e)));
        count = λ n e. let len = length-append text body in grind (arith, e, len, both, all);
      }
  | inr le ↦
      let all : k ≡ size = grind (arith, is, le) in
      let none : size - k ≡ 0 = omega (arith, all) in
      record {
        given = take-append-le size text body le ∙ sym (append-nil (take size text)) ∙ ap (λ i. take size text ++ take i body) (sym none);
        left = drop-append-le size text body le ∙ ap (λ i. drop i text ++ body) (sym all) ∙ ap (λ i. drop k text ++ drop i body) (sym none);
        count = λ n e. let len = length-append text body in grind (arith, e, len, all, none, le);
      }
]
