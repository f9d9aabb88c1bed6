use Rattle.std.proofs.Common.{◌≡◌, ℕ, ◌+◌, ◌-◌, ◌*◌, ◌%◌, ◌^◌, ◌<◌, ◌≤◌, true, min, List, length, take, arith, rules, ap, sym, ◌∙◌, get_or}
use Rattle.std.specs.Str.Parse.{digits_value}
use Rattle.std.specs.Char.{digit_value, is_ascii_digit}
use Rattle.std.proofs.lemmas.Int.Digits.{digits_value_more}
use Rattle.std.proofs.lemmas.List.Folds.{list_all_at}
use Rattle.std.proofs.lemmas.Str.{digit_value_digit}
use Rattle.ogg_http.specs.Digits.{is_number}
use Rattle.ogg_http.proofs.digits.value_of.Goals as goal

-- one more digit, if the value is cut at a largest one
cut_more : (v w m d : ℕ) → w ≡ min v m → min (min (w * 10) m + d) m ≡ min (v * 10 + d) m
cut_more v w m d e = omega (arith, e)

-- each byte of a number is a digit
digit_at : (xs : List ℕ) (i : ℕ) → is_number xs ≡ true → i < length xs → is_ascii_digit (get_or xs i 0) ≡ true
digit_at xs i number inside = grind (arith, list_all_at is_ascii_digit xs i 0 inside)

-- the value of a digit, as the code computes it
digit_code : (b : ℕ) → is_ascii_digit b ≡ true → (b + 208) % 256 ≡ digit_value b
digit_code b digit =
    let span : (48 ≤ b) × (b ≤ 57) = grind (arith, digit) in
    let value : digit_value b + 48 ≡ b = digit_value_digit b (search rules) in
    omega (arith, span.0, span.1, value)

pub loop-digit-preserved : goal.loop-digit-preserved
loop-digit-preserved c =
    let xs = c.args.digits.now in
    let i = c.loop-digit.digit-index in
    let inside : i < length xs = c.loop-digit-test.true in
    let code : c.from.result ≡ digit_value (get_or xs i 0) = c.from.ensures ∙ digit_code _ (digit_at xs i c.requires inside) in
    c.saturating_add-value.ensures
    ∙ ap (λ v. min (v + c.from.result) (2 ^ 64 - 1)) c.saturating_mul.ensures
    ∙ cut_more (digits_value 10 (take i xs)) c.loop-digit.value (2 ^ 64 - 1) c.from.result c.loop-digit.invariant
    ∙ ap (λ v. min v (2 ^ 64 - 1)) (ap (λ d. digits_value 10 (take i xs) * 10 + d) code ∙ sym (digits_value_more 10 xs i inside))
