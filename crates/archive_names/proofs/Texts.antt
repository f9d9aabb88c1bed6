-- The texts of names.
use Rattle.std.proofs.Common.{◌≡◌, ℕ, ◌+◌, ◌-◌, ◌*◌, ◌/◌, ◌%◌, ◌<◌, ◌^◌, Bool, List, [], ◌∷◌, ◌++◌, length, take, replicate, suc, zero, true, false, Some, lit<, refl, ap, sym, ◌∙◌, arith, append_assoc, length-append}
use Rattle.std.proofs.lemmas.Fmt.{decimal_is_IsNumeral}
use Rattle.std.proofs.lemmas.List.{take_at}
use Rattle.std.specs.Fmt.{decimal}
use Rattle.std.specs.Str.Parse.{AllDigits, digits_value_after}
use Rattle.std.specs.Char.{is_ascii_digit}
use Rattle.jiff_core.specs.declared.civil.date.Date.{Date}
use Rattle.archive_times.specs.Numbers.{digits_are_read}
use Rattle.archive_times.specs.Reading.{number_on}
use Rattle.archive_names.specs.Name.{IsName, IsText, clock_digits, day_digits, kind_text, on_text, padded, second_of, text_before}
use Rattle.archive_names.specs.declared.name.Kind.{Kind}
use Rattle.archive_names.specs.declared.name.Name.{Name}
use Rattle.archive_names.proofs.Dates.{digits_small, same_digits}

-- what stands behind a name stands at its end
pub text_ends : (name : Name) (date : Date) (second : ℕ) (a b : List ℕ) → text_before name date second a ++ b ≡ text_before name date second (a ++ b)
text_ends name date second a b = simp append_assoc

-- without its last byte
pub without_last : (text : List ℕ) (last : ℕ) → take (length (text ++ last ∷ []) - 1) (text ++ last ∷ []) ≡ text
without_last text last =
    let at : length (text ++ last ∷ []) - 1 ≡ length text = omega (arith, length-append text (last ∷ [])) in
    ap (λ n. take n (text ++ last ∷ [])) at ∙ take_at text (last ∷ []) (length text) refl

-- ---- numbers with zeros in front
zeros_value : (k : ℕ) (digits : List ℕ) → digits_value_after 10 0 (replicate k 48 ++ digits) ≡ digits_value_after 10 0 digits
zeros_value zero digits = refl
zeros_value (suc k) digits = zeros_value k digits

zeros_are_digits : (k : ℕ) (digits : List ℕ) → AllDigits 10 digits → AllDigits 10 (replicate k 48 ++ digits)
zeros_are_digits zero digits all = all
zeros_are_digits (suc k) digits all = (lit< tt, zeros_are_digits k digits all)

pub padded_is_read : (width n sep : ℕ) (rest : List ℕ) → n < 2 ^ 64 → is_ascii_digit sep ≡ false → number_on 0 (padded width n ++ sep ∷ rest) ≡ (n, rest)
padded_is_read width n sep rest small other =
    let (numeral, value) = decimal_is_IsNumeral n small in
    let zeros : ℕ = width - length (decimal n) in
    let same : digits_value_after 10 0 (padded width n) ≡ n = zeros_value zeros (decimal n) ∙ value in
    digits_are_read 0 (padded width n) sep rest (zeros_are_digits zeros (decimal n) numeral.1) other (omega (arith, same, small))
    ∙ ap (λ v. (v, rest)) same

-- ---- what is read of a name's text
pub record IsRead (kind : Kind) (name : Name) (date : Date) (number day clock : ℕ) (rest : List ℕ) : Type 0 where
  pub number_is : number ≡ name.number
  pub day_is : day ≡ day_digits date
  pub clock_is : clock ≡ clock_digits (second_of name % 86400)
  pub rest_is : rest ≡ on_text name.goes_on ++ kind_text kind

clock_small : (second : ℕ) → second < 86400 → clock_digits second < 2 ^ 64
clock_small second small = omega (arith, small)

pub is_read : (kind : Kind) (name : Name) (text : List ℕ) (is : IsText kind name text) → IsName name
    → (a b c : ℕ × List ℕ) → a ≡ number_on 0 text → b ≡ number_on 0 a.1 → c ≡ number_on 0 b.1
    → IsRead kind name is.date a.0 b.0 c.0 c.1
is_read kind name text is is_name a b c a_is b_is c_is =
    let second : ℕ = second_of name % 86400 in
    let rest : List ℕ = on_text name.goes_on ++ kind_text kind in
    let behind : List ℕ = padded 6 (clock_digits second) ++ 90 ∷ rest in
    let front : List ℕ = padded 8 (day_digits is.date) ++ 84 ∷ behind in
    let first : a ≡ (name.number, front) = a_is ∙ ap (number_on 0) is.text_is ∙ padded_is_read 6 name.number 45 front is_name.0 refl in
    let next : b ≡ (day_digits is.date, behind) =
    b_is ∙ ap (λ (p : ℕ × List ℕ). number_on 0 p.1) first
    ∙ padded_is_read 8 (day_digits is.date) 84 behind (digits_small is.date (second_of name / 86400) is.day_is) refl in
    let last : c ≡ (clock_digits second, rest) =
    c_is ∙ ap (λ (p : ℕ × List ℕ). number_on 0 p.1) next ∙ padded_is_read 6 (clock_digits second) 90 rest (clock_small second (omega arith)) refl in
    record {
      number_is = ap (λ (p : ℕ × List ℕ). p.0) first;
      day_is = ap (λ (p : ℕ × List ℕ). p.0) next;
      clock_is = ap (λ (p : ℕ × List ℕ). p.0) last;
      rest_is = ap (λ (p : ℕ × List ℕ). p.1) last;
    }

abbrev make : ℕ → ℕ → Bool → Name
make number begin goes_on = record { number = number; begin = begin; goes_on = goes_on }

-- the name that has what was read
pub name_of : (name : Name) (number day second : ℕ) (goes_on : Bool) → IsName name → number ≡ name.number → day ≡ second_of name / 86400
    → second ≡ second_of name % 86400 → goes_on ≡ name.goes_on → make number (day * 86400 + second) goes_on ≡ name
name_of name number day second goes_on is n d s g =
    let begin : day * 86400 + second ≡ name.begin = omega (arith, d, s, is.1) in
    ap (λ x. make x (day * 86400 + second) goes_on) n ∙ ap (λ x. make name.number x goes_on) begin ∙ ap (make name.number name.begin) g

-- a name has one text
pub same_text : (kind : Kind) (name : Name) (a b : List ℕ) → IsText kind name a → IsText kind name b → a ≡ b
same_text kind name a b is_a is_b =
    is_a.text_is
    ∙ ap (λ n. padded 6 name.number ++ 45 ∷ (padded 8 n ++ 84 ∷ (padded 6 (clock_digits (second_of name % 86400)) ++ 90 ∷ (on_text name.goes_on ++ kind_text kind))))
    (same_digits is_a.date is_b.date (is_a.day_is ∙ sym is_b.day_is))
    ∙ sym is_b.text_is

-- two parts are those of a pair
pub pair_is : (p : ℕ × List ℕ) (x : ℕ) (y : List ℕ) → x ≡ p.0 → y ≡ p.1 → let q : ℕ × List ℕ = (x, y) in q ≡ p
pair_is p x y e f = ap (λ (n : ℕ). let q : ℕ × List ℕ = (n, y) in q) e ∙ ap (λ (l : List ℕ). let q : ℕ × List ℕ = (p.0, l) in q) f

-- ---- small steps
pub same_parts : (p q : Name × Kind) → Some p ≡ Some q → (p.0 ≡ q.0) × (p.1 ≡ q.1)
same_parts p q e = let same : p ≡ q = cc in (ap (λ (x : Name × Kind). x.0) same, ap (λ (x : Name × Kind). x.1) same)

pub clash : (b : Bool) → b ≡ true → b ≡ false → ⊥
clash b is isn_t = cc
