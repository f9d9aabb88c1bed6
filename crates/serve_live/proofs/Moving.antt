-- What a checksum becomes by zeros behind its bytes: it is linear, and many zeros are few after few.
use Rattle.std.proofs.Common.{◌≡◌, ℕ, ◌+◌, ◌*◌, ◌^◌, ◌<◌, Bool, false, List, [], ◌++◌, length, replicate, refl, sym, ◌∙◌, ap, subst, arith, append_assoc, length-append}
use Rattle.std.specs.Prelude.{bit_xor}
use Rattle.std.specs.List.{flat_map}
use Rattle.std.proofs.lemmas.Grind.{flat_map-append}
use Rattle.std.proofs.lemmas.List.{length-replicate, replicate-append-replicate, append-nil}
use Rattle.page_checksum.specs.Checksum.{bits_of, number_of, message_bits, add, remainder, checksum_of}
use Rattle.page_checksum.specs.Laws.Division.{zeros, add_parts, add-zeros, remainder-add, remainder-append, remainder-more, remainder-zeros, length-remainder}
use Rattle.page_checksum.specs.Laws.BitNumbers.{number_lt, number-add, number-zeros, length-bits_of, bits_of-number}
use Rattle.page_checksum.specs.Laws.ByteStep.{left_of, length-left_of}
use Rattle.serve_live.specs.Linear.{bits-xor, zero_bits}

-- what a checksum becomes by so many zero bits
abbrev pub moved_by : ℕ → ℕ → ℕ
moved_by count word = number_of (remainder count (bits_of 32 word ++ zeros count))

length_word : (count word : ℕ) → length (bits_of 32 word ++ zeros count) ≡ count + 32
length_word count word =
    omega (arith, length-append (bits_of 32 word) (zeros count), length-bits_of 32 word, length-replicate count false)

length_left : (count word : ℕ) → length (remainder count (bits_of 32 word ++ zeros count)) ≡ 32
length_left count word =
    omega (arith, length-remainder count (bits_of 32 word ++ zeros count) (omega (arith, length_word count word)), length_word count word)

-- linear
pub moved-xor : (count x y : ℕ) → x < 2 ^ 32 → y < 2 ^ 32 → moved_by count (bit_xor x y) ≡ bit_xor (moved_by count x) (moved_by count y)
moved-xor count x y hx hy =
    let u : List Bool = bits_of 32 x in
    let v : List Bool = bits_of 32 y in
    let parts : add u v ++ zeros count ≡ add (u ++ zeros count) (v ++ zeros count) =
    ap (λ l. add u v ++ l) (sym (add-zeros count (zeros count))) ∙ sym (add_parts u (zeros count) v (zeros count) (length-bits_of 32 x ∙ sym (length-bits_of 32 y))) in
    ap (λ l. number_of (remainder count (l ++ zeros count))) (bits-xor 32 x y hx hy)
    ∙ ap (λ l. number_of (remainder count l)) parts
    ∙ ap number_of (remainder-add count (u ++ zeros count) (v ++ zeros count) (length_word count x ∙ sym (length_word count y)))
    ∙ number-add (remainder count (u ++ zeros count)) (remainder count (v ++ zeros count)) (length_left count x ∙ sym (length_left count y))

nothing : bits_of 32 0 ≡ zeros 32
unfolding bits_of
nothing = refl

pub moved-zero : (count : ℕ) → moved_by count 0 ≡ 0
moved-zero count =
    ap (λ l. number_of (remainder count (l ++ zeros count))) nothing
    ∙ ap (λ l. number_of (remainder count l)) (replicate-append-replicate 32 count false ∙ ap zeros (let e : 32 + count ≡ count + 32 = omega arith in e) ∙ sym (replicate-append-replicate count 32 false))
    ∙ ap number_of (remainder-zeros count (zeros 32))
    ∙ number-zeros 32

-- one after the other
pub moved-more : (m n word : ℕ) → moved_by (m + n) word ≡ moved_by n (moved_by m word)
moved-more m n word =
    let w : List Bool = bits_of 32 word in
    ap (λ l. number_of (remainder (m + n) (w ++ l))) (sym (replicate-append-replicate m n false))
    ∙ ap (λ l. number_of (remainder (m + n) l)) (sym (append_assoc w (zeros m) (zeros n)))
    ∙ ap number_of (remainder-more m n ((w ++ zeros m) ++ zeros n))
    ∙ ap (λ l. number_of (remainder n l)) (remainder-append m (w ++ zeros m) (zeros n) (omega (arith, length_word m word)))
    ∙ ap (λ l. number_of (remainder n (l ++ zeros n))) (sym (bits_of-number 32 (remainder m (w ++ zeros m)) (length_left m word)))

pub moved_lt : (count word : ℕ) → moved_by count word < 2 ^ 32
moved_lt count word = subst (λ n. moved_by count word < 2 ^ n) (length_left count word) (number_lt (remainder count (bits_of 32 word ++ zeros count)))

-- ---- zeros behind a message
bits_behind : (front : List ℕ) (n : ℕ) → message_bits (front ++ replicate n 0) ≡ message_bits front ++ zeros (8 * n)
unfolding message_bits
bits_behind front n = flat_map-append (bits_of 8) front (replicate n 0) ∙ ap (λ l. flat_map (bits_of 8) front ++ l) (ap (flat_map (bits_of 8)) (sym (append-nil (replicate n 0))) ∙ zero_bits n [] ∙ append-nil (zeros (8 * n)))

left-behind : (message : List Bool) (n : ℕ) → left_of (message ++ zeros n) ≡ remainder n (left_of message ++ zeros n)
unfolding left_of
left-behind message n =
    let len : length (message ++ zeros n) ≡ length message + n = length-append message (zeros n) ∙ ap (λ k. length message + k) (length-replicate n false) in
    let turned : zeros n ++ zeros 32 ≡ zeros 32 ++ zeros n =
    replicate-append-replicate n 32 false ∙ ap zeros (let e : n + 32 ≡ 32 + n = omega arith in e) ∙ sym (replicate-append-replicate 32 n false) in
    ap (λ k. remainder k ((message ++ zeros n) ++ zeros 32)) len
    ∙ ap (remainder (length message + n)) (append_assoc message (zeros n) (zeros 32) ∙ ap (λ l. message ++ l) turned ∙ sym (append_assoc message (zeros 32) (zeros n)))
    ∙ remainder-more (length message) n ((message ++ zeros 32) ++ zeros n)
    ∙ ap (remainder n) (remainder-append (length message) (message ++ zeros 32) (zeros n) (omega (arith, length-append message (zeros 32))))

pub checksum-behind : (front : List ℕ) (n : ℕ) → checksum_of (front ++ replicate n 0) ≡ moved_by (8 * n) (checksum_of front)
unfolding checksum_of left_of
checksum-behind front n =
    ap (λ l. number_of (left_of l)) (bits_behind front n)
    ∙ ap number_of (left-behind (message_bits front) (8 * n))
    ∙ ap (λ l. number_of (remainder (8 * n) (l ++ zeros (8 * n)))) (sym (bits_of-number 32 (left_of (message_bits front)) (length-left_of (message_bits front))))
