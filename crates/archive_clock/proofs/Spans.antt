-- The text of a span.
use Rattle.std.proofs.Common.{◌≡◌, ℕ, ◌*◌, ◌<◌, ◌≤◌, ◌^◌, ◌==◌, zero, suc, Bool, true, false, Some, inl, inr, subst, List, [], ◌∷◌, ◌++◌, length, take, drop, ap, sym, ◌∙◌, arith, length-append}
use Rattle.std.proofs.Math.Nat.{mul-le-mul_left}
use Rattle.std.proofs.Math.Seq.{drop-append_seam, take-append_seam}
use Rattle.std.proofs.lemmas.Bool.{and_parts, cases_Bool, cond-false, leb-true, ne_eqb}
use Rattle.std.specs.Char.{is_ascii_digit}
use Rattle.std.specs.Fmt.{decimal}
use Rattle.archive_times.specs.Reading.{number_on}
use Rattle.archive_times.specs.Numbers.{number_is_read}
use Rattle.archive_clock.specs.Span.{IsSpan, seconds_in}

-- a text is one front and one last byte
same_parts : (a b : List ℕ) (x y : ℕ) → a ++ x ∷ [] ≡ b ++ y ∷ [] → (a ≡ b) × (x ≡ y)
same_parts a b x y e =
    let long : length a ≡ length b = omega (arith, ap length e, length-append a (x ∷ []), length-append b (y ∷ [])) in
    let front : a ≡ b = sym (take-append_seam a (x ∷ [])) ∙ ap (λ t. take (length a) t) e ∙ ap (λ n. take n (b ++ y ∷ [])) long ∙ take-append_seam b (y ∷ []) in
    let last : x ∷ [] ≡ y ∷ [] = sym (drop-append_seam a (x ∷ [])) ∙ ap (λ t. drop (length a) t) e ∙ ap (λ n. drop n (b ++ y ∷ [])) long ∙ drop-append_seam b (y ∷ []) in
    (front, cc)

-- the letter of a unit is no digit
none_of_digit : (letter : ℕ) → letter ≤ 57 → seconds_in letter ≡ 0
none_of_digit letter small =
    cond-false (letter == 115) _ _ (ne_eqb letter 115 (λ e. omega (arith, e, small)))
    ∙ cond-false (letter == 109) _ _ (ne_eqb letter 109 (λ e. omega (arith, e, small)))
    ∙ cond-false (letter == 104) _ _ (ne_eqb letter 104 (λ e. omega (arith, e, small)))
    ∙ cond-false (letter == 100) _ _ (ne_eqb letter 100 (λ e. omega (arith, e, small)))
    ∙ cond-false (letter == 119) _ _ (ne_eqb letter 119 (λ e. omega (arith, e, small)))

no_digit : (letter : ℕ) → 0 < seconds_in letter → is_ascii_digit letter ≡ false
no_digit letter some =
    elim (cases_Bool (is_ascii_digit letter)) [
      | inl is_digit ↦ absurd (omega (arith, some, none_of_digit letter (leb-true letter 57 (and_parts _ _ is_digit).1)))
      | inr isn_t ↦ isn_t
    ]

positive : (a b : ℕ) → 0 < a * b → 0 < b
positive a zero h = absurd (omega (arith, h))
positive a (suc b) h = omega arith

below : (a b : ℕ) → 0 < b → a * b < 2 ^ 64 → a < 2 ^ 64
below a zero some h = absurd (omega (arith, some))
below a (suc b) some h = let more : a * 1 ≤ a * suc b = mul-le-mul_left a (omega arith) in omega (arith, h, more)

-- what is read of a span's text
pub span_parts : (text digits : List ℕ) (letter number seconds : ℕ) → IsSpan text seconds → text ≡ digits ++ letter ∷ []
    → number ≡ (number_on 0 text).0 → (digits ≡ decimal number) × (number * seconds_in letter ≡ seconds)
span_parts text digits letter number seconds is split read =
    let (digits_are, letter_is) = same_parts digits (decimal is.number) letter is.letter (sym split ∙ is.text_is) in
    let unit : 0 < seconds_in is.letter = positive is.number (seconds_in is.letter) (subst (λ n. 0 < n) is.seconds_are is.some) in
    let small : is.number < 2 ^ 64 = below is.number (seconds_in is.letter) unit (subst (λ n. n < 2 ^ 64) is.seconds_are is.fits) in
    let number_is : number ≡ is.number =
    read ∙ ap (λ t. (number_on 0 t).0) is.text_is
    ∙ ap (λ (p : ℕ × List ℕ). p.0) (number_is_read is.number is.letter [] small (no_digit is.letter unit)) in
    (digits_are ∙ ap decimal (sym number_is), ap (λ n. n * seconds_in letter) number_is ∙ ap (λ l. is.number * seconds_in l) letter_is ∙ sym is.seconds_are)

pub clash : (b : Bool) → b ≡ true → b ≡ false → ⊥
clash b is isn_t = cc

pub some_same : (a b : ℕ) → Some a ≡ Some b → a ≡ b
some_same a b e = cc
