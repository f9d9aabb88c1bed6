-- Why folding leaves the checksum as it is.
use Rattle.std.proofs.Common.{◌≡◌, ℕ, zero, suc, ◌+◌, ◌-◌, ◌*◌, ◌/◌, ◌%◌, ◌^◌, ◌<◌, ◌≤◌, Bool, false, List, [], ◌∷◌, ◌++◌, length, replicate, refl, sym, ◌∙◌, ap, ap₂, arith, append_assoc, length-append, inl, inr}
use Rattle.std.specs.Prelude.{bit_xor}
use Rattle.std.specs.Int.Bits.{xor_assoc, xor_zero_l}
use Rattle.std.proofs.lemmas.List.{length-replicate, replicate-append-replicate, append-nil, replicate_more}
use Rattle.std.proofs.lemmas.Nat.{xor_comm, xor_mod, xor_block, pow_pos}
use Rattle.std.proofs.lemmas.Bool.{cases_lt}
use Rattle.std.proofs.Math.Nat.{pow-suc}
use Rattle.page_checksum.specs.Checksum.{bits_of, number_of, message_bits, add, divisor, remainder, checksum_of, entry_before}
use Rattle.page_checksum.specs.Laws.Division.{zeros, add_parts, add-zeros, remainder-add, remainder-zeros, length-add}
use Rattle.page_checksum.specs.Laws.BitNumbers.{number-add, number-zeros, number-bits_of, length-bits_of, same_number}
use Rattle.page_checksum.specs.Laws.ByteStep.{left_of, length-left_of}
use Rattle.page_checksum.proofs.TableRule.{entry, checksum-push}
use Rattle.page_checksum.proofs.Slices.{length-message_bits, zero_bits, checksum-apart, is_number}

-- ---- messages are added byte by byte
abbrev pub mix : List ℕ → List ℕ → List ℕ
mix [] ys = []
mix (x ∷ xs) [] = x ∷ xs
mix (x ∷ xs) (y ∷ ys) = bit_xor x y ∷ mix xs ys

bits-xor : (x y : ℕ) → bits_of 8 (bit_xor x y) ≡ add (bits_of 8 x) (bits_of 8 y)
bits-xor x y =
    let long : length (bits_of 8 x) ≡ length (bits_of 8 y) = length-bits_of 8 x ∙ sym (length-bits_of 8 y) in
    same_number (bits_of 8 (bit_xor x y)) (add (bits_of 8 x) (bits_of 8 y)) (length-bits_of 8 (bit_xor x y) ∙ sym (length-add (bits_of 8 x) (bits_of 8 y) ∙ length-bits_of 8 x))
    (number-bits_of 8 (bit_xor x y) ∙ xor_mod x y 8
    ∙ ap (λ n. bit_xor n (y % 2 ^ 8)) (sym (number-bits_of 8 x))
    ∙ ap (λ n. bit_xor (number_of (bits_of 8 x)) n) (sym (number-bits_of 8 y))
    ∙ sym (number-add (bits_of 8 x) (bits_of 8 y) long))

message_bits-mix : (xs ys : List ℕ) → length xs ≡ length ys → message_bits (mix xs ys) ≡ add (message_bits xs) (message_bits ys)
unfolding message_bits add
message_bits-mix [] [] h = refl
message_bits-mix [] (y ∷ ys) h = absurd (omega arith)
message_bits-mix (x ∷ xs) [] h = absurd (omega arith)
message_bits-mix (x ∷ xs) (y ∷ ys) h =
    ap (λ l. l ++ message_bits (mix xs ys)) (bits-xor x y)
    ∙ ap (λ l. add (bits_of 8 x) (bits_of 8 y) ++ l) (message_bits-mix xs ys (omega arith))
    ∙ sym (add_parts (bits_of 8 x) (message_bits xs) (bits_of 8 y) (message_bits ys) (length-bits_of 8 x ∙ sym (length-bits_of 8 y)))

left_of-add : (a b : List Bool) → length a ≡ length b → left_of (add a b) ≡ add (left_of a) (left_of b)
unfolding left_of
left_of-add a b h =
    let n : ℕ = length a in
    ap (λ k. remainder k (add a b ++ zeros 32)) (length-add a b)
    ∙ ap (remainder n) (ap (λ l. add a b ++ l) (sym (add-zeros 32 (zeros 32))) ∙ sym (add_parts a (zeros 32) b (zeros 32) h))
    ∙ remainder-add n (a ++ zeros 32) (b ++ zeros 32) (omega (arith, length-append a (zeros 32), length-append b (zeros 32), h))
    ∙ ap (λ k. add (remainder n (a ++ zeros 32)) (remainder k (b ++ zeros 32))) h

pub checksum-mix : (xs ys : List ℕ) → length xs ≡ length ys → checksum_of (mix xs ys) ≡ bit_xor (checksum_of xs) (checksum_of ys)
checksum-mix xs ys h =
    let long : length (message_bits xs) ≡ length (message_bits ys) = omega (arith, length-message_bits xs, length-message_bits ys, h) in
    is_number (mix xs ys)
    ∙ ap (λ l. number_of (left_of l)) (message_bits-mix xs ys h)
    ∙ ap number_of (left_of-add (message_bits xs) (message_bits ys) long)
    ∙ number-add (left_of (message_bits xs)) (left_of (message_bits ys)) (length-left_of (message_bits xs) ∙ sym (length-left_of (message_bits ys)))
    ∙ ap (λ n. bit_xor n (number_of (left_of (message_bits ys)))) (sym (is_number xs))
    ∙ ap (λ n. bit_xor (checksum_of xs) n) (sym (is_number ys))

-- ---- zeros before a message, and after one that has no remainder
checksum-zeros : (n : ℕ) → checksum_of (replicate n 0) ≡ 0
unfolding left_of
checksum-zeros n =
    let m : ℕ = 8 * n in
    is_number (replicate n 0)
    ∙ ap (λ l. number_of (left_of l)) (zero_bits n)
    ∙ ap (λ k. number_of (remainder k (zeros m ++ zeros 32))) (length-replicate m false)
    ∙ ap number_of (remainder-zeros m (zeros 32))
    ∙ number-zeros 32

pub checksum-blank : (n : ℕ) (xs : List ℕ) → checksum_of (replicate n 0 ++ xs) ≡ checksum_of xs
checksum-blank n xs =
    checksum-apart (replicate n 0) xs
    ∙ ap (λ l. bit_xor (checksum_of l) (checksum_of xs)) (replicate-append-replicate n (length xs) 0)
    ∙ ap (λ k. bit_xor k (checksum_of xs)) (checksum-zeros (n + length xs))
    ∙ xor_zero_l (checksum_of xs)

entry-none : entry 0 ≡ 0
unfolding entry number_of remainder bits_of add divisor
entry-none = refl

checksum-nothing_more : (xs : List ℕ) → checksum_of xs ≡ 0 → checksum_of (xs ++ 0 ∷ []) ≡ 0
checksum-nothing_more xs h =
    checksum-push xs 0 (omega arith)
    ∙ ap (λ s. bit_xor (s * 2 ^ 8 % 2 ^ 32) (entry (bit_xor (s / 2 ^ 24) 0))) h
    ∙ entry-none

pub checksum-trailing : (xs : List ℕ) (n : ℕ) → checksum_of xs ≡ 0 → checksum_of (xs ++ replicate n 0) ≡ 0
checksum-trailing xs zero h = ap checksum_of (append-nil xs) ∙ h
checksum-trailing xs (suc n) h =
    ap (λ l. checksum_of (xs ++ l)) (ap (λ k. replicate k 0) (let e : suc n ≡ n + 1 = omega arith in e) ∙ sym (replicate_more n 0))
    ∙ ap checksum_of (sym (append_assoc xs (replicate n 0) (0 ∷ [])))
    ∙ checksum-nothing_more (xs ++ replicate n 0) (checksum-trailing xs n h)

-- ---- the law: the generator divides x^1976 + x^784 + x^768 + x^744 + x^488 + x^56 + 1
abbrev pub six : ℕ → ℕ → ℕ → ℕ → ℕ → ℕ → ℕ
six a b c d e f = bit_xor (bit_xor (bit_xor (bit_xor (bit_xor a b) c) d) e) f

crosswise : (a b c d : ℕ) → bit_xor (bit_xor a b) (bit_xor c d) ≡ bit_xor (bit_xor a c) (bit_xor b d)
crosswise a b c d =
    xor_assoc a b (bit_xor c d)
    ∙ ap (bit_xor a) (sym (xor_assoc b c d) ∙ ap (λ n. bit_xor n d) (xor_comm b c) ∙ xor_assoc c b d)
    ∙ sym (xor_assoc a c (bit_xor b d))

pub six-xor : (a b c d e f a' b' c' d' e' f' : ℕ) →
    six (bit_xor a a') (bit_xor b b') (bit_xor c c') (bit_xor d d') (bit_xor e e') (bit_xor f f') ≡ bit_xor (six a b c d e f) (six a' b' c' d' e' f')
six-xor a b c d e f a' b' c' d' e' f' =
    ap (λ n. bit_xor (bit_xor (bit_xor (bit_xor n (bit_xor c c')) (bit_xor d d')) (bit_xor e e')) (bit_xor f f')) (crosswise a a' b b')
    ∙ ap (λ n. bit_xor (bit_xor (bit_xor n (bit_xor d d')) (bit_xor e e')) (bit_xor f f')) (crosswise (bit_xor a b) (bit_xor a' b') c c')
    ∙ ap (λ n. bit_xor (bit_xor n (bit_xor e e')) (bit_xor f f')) (crosswise (bit_xor (bit_xor a b) c) (bit_xor (bit_xor a' b') c') d d')
    ∙ ap (λ n. bit_xor n (bit_xor f f')) (crosswise (bit_xor (bit_xor (bit_xor a b) c) d) (bit_xor (bit_xor (bit_xor a' b') c') d') e e')
    ∙ crosswise (bit_xor (bit_xor (bit_xor (bit_xor a b) c) d) e) (bit_xor (bit_xor (bit_xor (bit_xor a' b') c') d') e') f f'

-- what a byte and its six copies leave
echoes : ℕ → ℕ
echoes u = bit_xor (entry_before 247 u) (six (entry_before 0 u) (entry_before 7 u) (entry_before 61 u) (entry_before 93 u) (entry_before 96 u) (entry_before 98 u))

mix-blanks : (n : ℕ) → mix (replicate n 0) (replicate n 0) ≡ replicate n 0
mix-blanks zero = refl
mix-blanks (suc n) = ap (λ l. 0 ∷ l) (mix-blanks n)

entry_before-xor : (n a b : ℕ) → entry_before n (bit_xor a b) ≡ bit_xor (entry_before n a) (entry_before n b)
entry_before-xor n a b =
    ap (λ l. checksum_of (bit_xor a b ∷ l)) (sym (mix-blanks n)) ∙ checksum-mix (a ∷ replicate n 0) (b ∷ replicate n 0) refl

echoes-xor : (a b : ℕ) → echoes (bit_xor a b) ≡ bit_xor (echoes a) (echoes b)
unfolding echoes
echoes-xor a b =
    ap₂ bit_xor (entry_before-xor 247 a b) (
    ap (λ n. six n (entry_before 7 (bit_xor a b)) (entry_before 61 (bit_xor a b)) (entry_before 93 (bit_xor a b)) (entry_before 96 (bit_xor a b)) (entry_before 98 (bit_xor a b))) (entry_before-xor 0 a b)
    ∙ ap (λ n. six (bit_xor (entry_before 0 a) (entry_before 0 b)) n (entry_before 61 (bit_xor a b)) (entry_before 93 (bit_xor a b)) (entry_before 96 (bit_xor a b)) (entry_before 98 (bit_xor a b))) (entry_before-xor 7 a b)
    ∙ ap (λ n. six (bit_xor (entry_before 0 a) (entry_before 0 b)) (bit_xor (entry_before 7 a) (entry_before 7 b)) n (entry_before 93 (bit_xor a b)) (entry_before 96 (bit_xor a b)) (entry_before 98 (bit_xor a b))) (entry_before-xor 61 a b)
    ∙ ap (λ n. six (bit_xor (entry_before 0 a) (entry_before 0 b)) (bit_xor (entry_before 7 a) (entry_before 7 b)) (bit_xor (entry_before 61 a) (entry_before 61 b)) n (entry_before 96 (bit_xor a b)) (entry_before 98 (bit_xor a b))) (entry_before-xor 93 a b)
    ∙ ap (λ n. six (bit_xor (entry_before 0 a) (entry_before 0 b)) (bit_xor (entry_before 7 a) (entry_before 7 b)) (bit_xor (entry_before 61 a) (entry_before 61 b)) (bit_xor (entry_before 93 a) (entry_before 93 b)) n (entry_before 98 (bit_xor a b))) (entry_before-xor 96 a b)
    ∙ ap (λ n. six (bit_xor (entry_before 0 a) (entry_before 0 b)) (bit_xor (entry_before 7 a) (entry_before 7 b)) (bit_xor (entry_before 61 a) (entry_before 61 b)) (bit_xor (entry_before 93 a) (entry_before 93 b)) (bit_xor (entry_before 96 a) (entry_before 96 b)) n) (entry_before-xor 98 a b)
    ∙ six-xor (entry_before 0 a) (entry_before 7 a) (entry_before 61 a) (entry_before 93 a) (entry_before 96 a) (entry_before 98 a)
    (entry_before 0 b) (entry_before 7 b) (entry_before 61 b) (entry_before 93 b) (entry_before 96 b) (entry_before 98 b)
    )
    ∙ crosswise (entry_before 247 a) (entry_before 247 b)
    (six (entry_before 0 a) (entry_before 7 a) (entry_before 61 a) (entry_before 93 a) (entry_before 96 a) (entry_before 98 a))
    (six (entry_before 0 b) (entry_before 7 b) (entry_before 61 b) (entry_before 93 b) (entry_before 96 b) (entry_before 98 b))

-- each bit of a byte
echoes-powers : (k : ℕ) → k < 8 → echoes (2 ^ k) ≡ 0
unfolding echoes checksum_of message_bits number_of remainder bits_of add divisor
echoes-powers zero h = refl
echoes-powers (suc zero) h = refl
echoes-powers (suc (suc zero)) h = refl
echoes-powers (suc (suc (suc zero))) h = refl
echoes-powers (suc (suc (suc (suc zero)))) h = refl
echoes-powers (suc (suc (suc (suc (suc zero))))) h = refl
echoes-powers (suc (suc (suc (suc (suc (suc zero)))))) h = refl
echoes-powers (suc (suc (suc (suc (suc (suc (suc zero))))))) h = refl
echoes-powers (suc (suc (suc (suc (suc (suc (suc (suc k)))))))) h = absurd (omega arith)

echoes-nothing : echoes 0 ≡ 0
unfolding echoes checksum_of message_bits number_of remainder bits_of add divisor
echoes-nothing = refl

with_bit : (k r : ℕ) → r < 2 ^ k → 2 ^ k + r ≡ bit_xor (2 ^ k) r
with_bit k r h =
    let pos : 0 < 2 ^ k = pow_pos k in
    let e : bit_xor (1 * 2 ^ k + 0) (0 * 2 ^ k + r) ≡ bit_xor 1 0 * 2 ^ k + bit_xor 0 r = xor_block k 1 0 0 r pos h in
    let left : 1 * 2 ^ k + 0 ≡ 2 ^ k = omega arith in
    let right : 0 * 2 ^ k + r ≡ r = omega arith in
    let whole : bit_xor 1 0 * 2 ^ k + bit_xor 0 r ≡ 2 ^ k + r = ap (λ n. bit_xor 1 0 * 2 ^ k + n) (xor_zero_l r) ∙ (let m : 1 * 2 ^ k + r ≡ 2 ^ k + r = omega arith in m) in
    sym whole ∙ sym e ∙ ap₂ bit_xor left right

echoes-below : (k u : ℕ) → k ≤ 8 → u < 2 ^ k → echoes u ≡ 0
echoes-below zero u h l = ap echoes (let e : u ≡ 0 = omega arith in e) ∙ echoes-nothing
echoes-below (suc k) u h l =
    let double : 2 ^ suc k ≡ 2 ^ k * 2 = pow-suc 2 k in
    elim (cases_lt u (2 ^ k)) [
      | inl low ↦ echoes-below k u (omega arith) low
      | inr high ↦
          let small : u - 2 ^ k < 2 ^ k = omega arith in
          ap echoes ((let e : u ≡ 2 ^ k + (u - 2 ^ k) = omega arith in e) ∙ with_bit k (u - 2 ^ k) small)
          ∙ echoes-xor (2 ^ k) (u - 2 ^ k)
          ∙ ap₂ bit_xor (echoes-powers k (omega arith)) (echoes-below k (u - 2 ^ k) (omega arith) small)
    ]

-- only the low eight bits of a number count in a message
bits-low : (u : ℕ) → bits_of 8 (u % 256) ≡ bits_of 8 u
bits-low u =
    same_number (bits_of 8 (u % 256)) (bits_of 8 u) (length-bits_of 8 (u % 256) ∙ sym (length-bits_of 8 u))
    (number-bits_of 8 (u % 256) ∙ (let e : u % 256 % 256 ≡ u % 256 = omega arith in e) ∙ sym (number-bits_of 8 u))

entry_before-low : (n u : ℕ) → entry_before n (u % 256) ≡ entry_before n u
unfolding message_bits
entry_before-low n u =
    is_number (u % 256 ∷ replicate n 0)
    ∙ ap (λ l. number_of (left_of (l ++ message_bits (replicate n 0)))) (bits-low u)
    ∙ sym (is_number (u ∷ replicate n 0))

-- a byte with its six copies has no checksum
pub echoes-none : (u : ℕ) → bit_xor (entry_before 247 u) (six (entry_before 0 u) (entry_before 7 u) (entry_before 61 u) (entry_before 93 u) (entry_before 96 u) (entry_before 98 u)) ≡ 0
unfolding echoes
echoes-none u =
    ap₂ bit_xor (sym (entry_before-low 247 u))
    (ap₂ bit_xor (ap₂ bit_xor (ap₂ bit_xor (ap₂ bit_xor (ap₂ bit_xor (sym (entry_before-low 0 u)) (sym (entry_before-low 7 u))) (sym (entry_before-low 61 u))) (sym (entry_before-low 93 u))) (sym (entry_before-low 96 u))) (sym (entry_before-low 98 u)))
    ∙ echoes-below 8 (u % 256) (omega arith) (omega arith)
