-- A number that is written is read.
use Rattle.std.proofs.Common.{◌≡◌, ℕ, ◌+◌, ◌-◌, ◌*◌, ◌^◌, ◌<◌, ◌≤◌, min, true, List, [], ◌∷◌, arith, refl, ap, ◌∙◌}
use Rattle.std.proofs.lemmas.Bool.{cond-true, and_from, le-leb}
use Rattle.std.proofs.lemmas.Fmt.{decimal_is_IsNumeral}
use Rattle.std.proofs.lemmas.Str.{digit_value_digit}
use Rattle.std.proofs.lemmas.Str.Parse.{digit_from_value}
use Rattle.std.specs.Char.{digit_value, is_ascii_digit}
use Rattle.std.specs.Fmt.{decimal}
use Rattle.std.specs.Str.Parse.{AllDigits, digits_value_after}
use Rattle.archive_times.specs.Reading.{number_on}

-- more digits give no smaller number
grows : (value : ℕ) (digits : List ℕ) → value ≤ digits_value_after 10 value digits
grows value [] = omega arith
grows value (c ∷ digits) =
    let rest : value * 10 + digit_value c ≤ digits_value_after 10 (value * 10 + digit_value c) digits = grows (value * 10 + digit_value c) digits in
    omega (arith, rest)

-- digits are read to their end
digits_are_read : (value : ℕ) (digits : List ℕ) → AllDigits 10 digits → digits_value_after 10 value digits < 2 ^ 64
    → number_on value digits ≡ (digits_value_after 10 value digits, [])
digits_are_read value [] all fits = refl
digits_are_read value (c ∷ digits) all fits =
    let range = digit_from_value c all.0 in
    let value_is : digit_value c + 48 ≡ c = digit_value_digit c range in
    let is_digit : is_ascii_digit c ≡ true = and_from _ _ (le-leb 48 c range.0) (le-leb c 57 range.1) in
    let more : value * 10 + digit_value c ≤ digits_value_after 10 (value * 10 + digit_value c) digits = grows (value * 10 + digit_value c) digits in
    let same : min (min (value * 10) (2 ^ 64 - 1) + (c - 48)) (2 ^ 64 - 1) ≡ value * 10 + digit_value c = omega (arith, value_is, more, fits) in
    cond-true (is_ascii_digit c) (number_on (min (min (value * 10) (2 ^ 64 - 1) + (c - 48)) (2 ^ 64 - 1)) digits) (value, digits) is_digit
    ∙ ap (λ n. number_on n digits) same
    ∙ digits_are_read (value * 10 + digit_value c) digits all.1 fits

pub number_is_read : (n : ℕ) → n < 2 ^ 64 → (number_on 0 (decimal n)).0 ≡ n
number_is_read n small =
    let (numeral, value) = decimal_is_IsNumeral n small in
    ap (λ (p : ℕ × List ℕ). p.0) (digits_are_read 0 (decimal n) numeral.1 (omega (arith, value, small))) ∙ value
