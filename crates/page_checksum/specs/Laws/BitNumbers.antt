-- Lists of bits as numbers.
use Rattle.std.proofs.Common.{◌≡◌, ℕ, zero, suc, ◌+◌, ◌*◌, ◌/◌, ◌%◌, ◌^◌, ◌<◌, Bool, true, false, List, [], ◌∷◌, ◌++◌, length, refl, sym, ◌∙◌, ap, subst, arith, length-append}
use Rattle.std.specs.Prelude.{nat_eq, if◌then◌else◌, bit_xor}
use Rattle.std.proofs.lemmas.Nat.{mod-pow-add, xor_block, pow-add, same_from_place}
use Rattle.std.proofs.Math.Nat.{pow-suc, mod-eq_of_lt}
use Rattle.page_checksum.specs.Checksum.{bits_of, number_of, exclusive_or, add}
use Rattle.page_checksum.specs.Laws.Division.{zeros, length-add}

abbrev pub digit : Bool → ℕ
digit true = 1
digit false = 0

number-cons : (b : Bool) (bits : List Bool) → number_of (b ∷ bits) ≡ digit b * 2 ^ length bits + number_of bits
unfolding number_of
number-cons true bits = omega arith
number-cons false bits = omega arith

pub number_lt : (bits : List Bool) → number_of bits < 2 ^ length bits
unfolding number_of
number_lt [] = omega arith
number_lt (true ∷ bits) = let e : 2 ^ suc (length bits) ≡ 2 ^ length bits * 2 = pow-suc 2 (length bits) in omega (arith, number_lt bits)
number_lt (false ∷ bits) = let e : 2 ^ suc (length bits) ≡ 2 ^ length bits * 2 = pow-suc 2 (length bits) in omega (arith, number_lt bits)

xor_digits : (x y : Bool) → bit_xor (digit x) (digit y) ≡ digit (exclusive_or x y)
xor_digits true true = refl
xor_digits true false = refl
xor_digits false true = refl
xor_digits false false = refl

-- to add polynomials is to add their numbers bit by bit, without carrying
pub number-add : (xs ys : List Bool) → length xs ≡ length ys → number_of (add xs ys) ≡ bit_xor (number_of xs) (number_of ys)
unfolding add number_of
number-add [] [] h = refl
number-add [] (y ∷ ys) h = absurd (omega arith)
number-add (x ∷ xs) [] h = absurd (omega arith)
number-add (x ∷ xs) (y ∷ ys) h =
    let e : length xs ≡ length ys = omega arith in
    let w : number_of ys < 2 ^ length xs = subst (λ n. number_of ys < 2 ^ n) (sym e) (number_lt ys) in
    number-cons (exclusive_or x y) (add xs ys)
    ∙ ap (λ n. digit (exclusive_or x y) * 2 ^ n + number_of (add xs ys)) (length-add xs ys)
    ∙ ap (λ n. digit (exclusive_or x y) * 2 ^ length xs + n) (number-add xs ys e)
    ∙ ap (λ n. n * 2 ^ length xs + bit_xor (number_of xs) (number_of ys)) (sym (xor_digits x y))
    ∙ sym (xor_block (length xs) (digit x) (digit y) (number_of xs) (number_of ys) (number_lt xs) w)
    ∙ ap (λ n. bit_xor n (digit y * 2 ^ length xs + number_of ys)) (sym (number-cons x xs))
    ∙ ap (λ n. bit_xor (number_of (x ∷ xs)) (digit y * 2 ^ n + number_of ys)) e
    ∙ ap (λ n. bit_xor (number_of (x ∷ xs)) n) (sym (number-cons y ys))

pub number-append : (xs ys : List Bool) → number_of (xs ++ ys) ≡ number_of xs * 2 ^ length ys + number_of ys
unfolding number_of
number-append [] ys = omega arith
number-append (true ∷ xs) ys =
    let split : 2 ^ (length xs + length ys) ≡ 2 ^ length xs * 2 ^ length ys = pow-add 2 (length xs) (length ys) in
    ap (λ n. 2 ^ n + number_of (xs ++ ys)) (length-append xs ys) ∙ omega (arith, number-append xs ys, split)
number-append (false ∷ xs) ys = omega (arith, number-append xs ys)

pub number-zeros : (n : ℕ) → number_of (zeros n) ≡ 0
unfolding number_of
number-zeros zero = refl
number-zeros (suc n) = omega (arith, number-zeros n)

pub length-bits_of : (n x : ℕ) → length (bits_of n x) ≡ n
unfolding bits_of
length-bits_of zero x = refl
length-bits_of (suc n) x = ap suc (length-bits_of n x)

chosen : (d p : ℕ) → d < 2 → (if nat_eq d 1 then p else 0) ≡ d * p
chosen zero p h = omega arith
chosen (suc zero) p h = omega arith
chosen (suc (suc d)) p h = absurd (omega arith)

pub number-bits_of : (n x : ℕ) → number_of (bits_of n x) ≡ x % 2 ^ n
unfolding number_of bits_of
number-bits_of zero x = omega arith
number-bits_of (suc n) x =
    ap (λ k. (if nat_eq (x / 2 ^ n % 2) 1 then 2 ^ k else 0) + number_of (bits_of n x)) (length-bits_of n x)
    ∙ ap (λ k. k + number_of (bits_of n x)) (chosen (x / 2 ^ n % 2) (2 ^ n) (omega arith))
    ∙ ap (λ k. x / 2 ^ n % 2 * 2 ^ n + k) (number-bits_of n x)
    ∙ sym (let e : x % 2 ^ (1 + n) ≡ (x / 2 ^ n % 2 ^ 1) * 2 ^ n + x % 2 ^ n = mod-pow-add x 1 n in ap (λ k. x % 2 ^ k) (let s : suc n ≡ 1 + n = omega arith in s) ∙ e)

digit_same : (x y : Bool) → digit x ≡ digit y → x ≡ y
digit_same true true h = refl
digit_same true false h = absurd (omega arith)
digit_same false true h = absurd (omega arith)
digit_same false false h = refl

-- bits of one length that have the same number are the same
pub same_number : (xs ys : List Bool) → length xs ≡ length ys → number_of xs ≡ number_of ys → xs ≡ ys
same_number [] [] h e = refl
same_number [] (y ∷ ys) h e = absurd (omega arith)
same_number (x ∷ xs) [] h e = absurd (omega arith)
same_number (x ∷ xs) (y ∷ ys) h e =
    let l : length xs ≡ length ys = omega arith in
    let w : number_of ys < 2 ^ length xs = subst (λ n. number_of ys < 2 ^ n) (sym l) (number_lt ys) in
    let f : digit x * 2 ^ length xs + number_of xs ≡ digit y * 2 ^ length xs + number_of ys =
    sym (number-cons x xs) ∙ e ∙ number-cons y ys ∙ ap (λ n. digit y * 2 ^ n + number_of ys) (sym l) in
    let both : (digit x ≡ digit y) × (number_of xs ≡ number_of ys) =
    same_from_place (digit x) (number_of xs) (digit y) (number_of ys) (2 ^ length xs) (number_lt xs) w f in
    ap (λ b. b ∷ xs) (digit_same x y both.0) ∙ ap (λ bits. y ∷ bits) (same_number xs ys l both.1)

pub small_mod : (a m : ℕ) → a < m → a % m ≡ a
small_mod a m h = mod-eq_of_lt h

pub bits_of-number : (n : ℕ) (bits : List Bool) → length bits ≡ n → bits_of n (number_of bits) ≡ bits
bits_of-number n bits h =
    let small : number_of bits < 2 ^ n = subst (λ k. number_of bits < 2 ^ k) h (number_lt bits) in
    same_number (bits_of n (number_of bits)) bits (length-bits_of n (number_of bits) ∙ sym h)
    (number-bits_of n (number_of bits) ∙ small_mod (number_of bits) (2 ^ n) small)
