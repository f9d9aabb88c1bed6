-- Splitting a text after its digits.
use Rattle.std.proofs.Common.{◌≡◌, ℕ, ◌+◌, ◌<◌, suc, List, ◌∷◌, ◌++◌, length, take, drop, get_or, Bool, true, false, cond, nat_lt, ◌==◌, Option, Some, None, option_map, unwrap_or, arith, rules, refl, ap, sym, ◌∙◌}
use Rattle.std.proofs.lemmas.List.{length-append, take-append-drop}
use Rattle.std.proofs.Math.Seq.{drop-cons, get_or-append_seam}
use Rattle.std.proofs.Math.ListN.{get_or-append}
use Rattle.std.proofs.lemmas.Bool.{eqb-true, eq-eqb, ne_eqb, lt-ltb, le-ltb, cond-true, cond-false}
use Rattle.std.proofs.lemmas.List.Quantifiers.{position-Some}
use Rattle.std.proofs.lemmas.List.Sums.{position_or_len_is}
use Rattle.std.proofs.lemmas.Str.Parse.{IsNumeralModel, numerals_by_value, not_in_digits}
use Rattle.std.specs.Char.{is_ascii_digit}
use Rattle.std.specs.Int.{IsInRange}
use Rattle.std.specs.List.{list_all, position, position_or_len}
use Rattle.std.specs.Str.Parse.{digits_value}

-- the texts of digits and their values, as std's lemmas speak of them
pub digits_model : IsNumeralModel (λ ds. list_all is_ascii_digit ds ≡ true) (digits_value 10)
digits_model = numerals_by_value _ (search rules)

-- a byte that is no digit isn't in a text of digits
misses : (c : ℕ) (a : List ℕ) → list_all is_ascii_digit a ≡ true → ¬ (IsInRange 48 57 c) → (k : ℕ) → k < length a → (get_or a k 0 == c) ≡ false
misses c a digits other k lt = ne_eqb _ _ (not_in_digits digits_model a c digits other k lt)

-- so it is first found after the digits
pub first_behind : (c : ℕ) (a b : List ℕ) → list_all is_ascii_digit a ≡ true → ¬ (IsInRange 48 57 c) → position (λ x. x == c) (a ++ c ∷ b) ≡ Some (length a)
first_behind c a b digits other =
    let p : ℕ → Bool = λ x. x == c in
    let whole : length (a ++ c ∷ b) ≡ length a + length (c ∷ b) = length-append a (c ∷ b) in
    let at : position_or_len p (a ++ c ∷ b) ≡ length a =
    position_or_len_is p (a ++ c ∷ b) (length a) 0 (omega (arith, whole))
    (λ k lt. ap p (get_or-append a (c ∷ b) 0 k lt) ∙ misses c a digits other k lt)
    (λ _. ap p (get_or-append_seam a c b 0) ∙ eq-eqb c c refl) in
    let inside : length a < length (a ++ c ∷ b) = omega (arith, whole) in
    ap (λ n. cond (nat_lt n (length (a ++ c ∷ b))) (Some n) None) at
    ∙ cond-true _ (Some (length a)) None (lt-ltb _ _ inside)

-- and if there are only digits, it is found nowhere
pub nowhere : (c : ℕ) (a : List ℕ) → list_all is_ascii_digit a ≡ true → ¬ (IsInRange 48 57 c) → position (λ x. x == c) a ≡ None
nowhere c a digits other =
    let p : ℕ → Bool = λ x. x == c in
    let at : position_or_len p a ≡ length a =
    position_or_len_is p a (length a) 0 (omega arith) (λ k lt. misses c a digits other k lt) (λ h. absurd (omega (arith, h))) in
    ap (λ n. cond (nat_lt n (length a)) (Some n) None) at
    ∙ cond-false _ (Some (length a)) None (le-ltb _ _ (omega arith))

-- a text is what stands before the byte that was found, that byte, and what stands after it
pub split_at : (c : ℕ) (xs : List ℕ) (i : ℕ) → position (λ x. x == c) xs ≡ Some i → xs ≡ take i xs ++ c ∷ drop (i + 1) xs
split_at c xs i found =
    let (inside, hit, before) = position-Some (λ x. x == c) xs i 0 found in
    let next : suc i ≡ i + 1 = omega arith in
    let from : drop i xs ≡ c ∷ drop (i + 1) xs =
    drop-cons xs i 0 inside ∙ ap (λ x. x ∷ drop (suc i) xs) (eqb-true _ _ hit) ∙ ap (λ n. c ∷ drop n xs) next in
    sym (take-append-drop i xs) ∙ ap (λ t. take i xs ++ t) from

-- what a choice that has a value says of its test
pub cond_some : {X : Type 0} (b : Bool) (o : Option X) (x : X) → cond b o None ≡ Some x → (b ≡ true) × (o ≡ Some x)
cond_some true o x e = (refl, e)
cond_some false o x e = absurd (cc e)

-- equal values are equal, if there are values
pub some_injective : {X : Type 0} (x y : X) → Some x ≡ Some y → x ≡ y
some_injective x y e = ap (λ o. unwrap_or o x) e

-- a value that was made from a value
pub map_some : {X Y : Type 0} (f : X → Y) (o : Option X) (y : Y) → option_map f o ≡ Some y → (x : X) × (o ≡ Some x) × (f x ≡ y)
map_some f None y e = absurd (cc e)
map_some f (Some x) y e = (x, refl, some_injective (f x) y e)
