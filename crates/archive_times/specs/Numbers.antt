-- A number at the front of a text.
use Rattle.std.proofs.Common.{◌≡◌, ℕ, ◌+◌, ◌-◌, ◌*◌, ◌^◌, ◌<◌, ◌≤◌, min, true, false, List, [], ◌∷◌, ◌++◌, arith, ap, ◌∙◌}
use Rattle.std.proofs.lemmas.Bool.{cond-true, cond-false, and_from, le-leb}
use Rattle.std.proofs.lemmas.Fmt.{decimal_is_IsNumeral}
use Rattle.std.proofs.lemmas.Str.{digit_value_digit}
use Rattle.std.proofs.lemmas.Str.Parse.{digit_from_value}
use Rattle.std.specs.Char.{digit_value, is_ascii_digit}
use Rattle.std.specs.Fmt.{decimal}
use Rattle.std.specs.Str.Parse.{AllDigits, digits_value_after}
use Rattle.archive_times.specs.Reading.{number_on}

-- more digits give no smaller number
grows : (value : ℕ) (digits : List ℕ) → value ≤ digits_value_after 10 value digits
grows value [] = omega arith
grows value (c ∷ digits) =
    let rest : value * 10 + digit_value c ≤ digits_value_after 10 (value * 10 + digit_value c) digits = grows (value * 10 + digit_value c) digits in
    omega (arith, rest)

-- digits are read up to a byte that is none
pub digits_are_read : (value : ℕ) (digits : List ℕ) (sep : ℕ) (rest : List ℕ) → AllDigits 10 digits → is_ascii_digit sep ≡ false
    → digits_value_after 10 value digits < 2 ^ 64 → number_on value (digits ++ sep ∷ rest) ≡ (digits_value_after 10 value digits, rest)
digits_are_read value [] sep rest all other fits = cond-false (is_ascii_digit sep) _ (value, rest) other
digits_are_read value (c ∷ digits) sep rest all other fits =
    let range = digit_from_value c all.0 in
    let value_is : digit_value c + 48 ≡ c = digit_value_digit c range in
    let is_digit : is_ascii_digit c ≡ true = and_from _ _ (le-leb 48 c range.0) (le-leb c 57 range.1) in
    let more : value * 10 + digit_value c ≤ digits_value_after 10 (value * 10 + digit_value c) digits = grows (value * 10 + digit_value c) digits in
    let same : min (min (value * 10) (2 ^ 64 - 1) + (c - 48)) (2 ^ 64 - 1) ≡ value * 10 + digit_value c = omega (arith, value_is, more, fits) in
    cond-true (is_ascii_digit c) (number_on (min (min (value * 10) (2 ^ 64 - 1) + (c - 48)) (2 ^ 64 - 1)) (digits ++ sep ∷ rest)) (value, digits ++ sep ∷ rest) is_digit
    ∙ ap (λ n. number_on n (digits ++ sep ∷ rest)) same
    ∙ digits_are_read (value * 10 + digit_value c) digits sep rest all.1 other fits

-- a number that is written is read, if no digit follows
pub number_is_read : (n sep : ℕ) (rest : List ℕ) → n < 2 ^ 64 → is_ascii_digit sep ≡ false → number_on 0 (decimal n ++ sep ∷ rest) ≡ (n, rest)
number_is_read n sep rest small other =
    let (numeral, value) = decimal_is_IsNumeral n small in
    digits_are_read 0 (decimal n) sep rest numeral.1 other (omega (arith, value, small)) ∙ ap (λ v. (v, rest)) value
