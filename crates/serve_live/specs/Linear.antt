-- The checksum is linear. These are laws, to be cited.
use Rattle.std.proofs.Common.{◌≡◌, ℕ, zero, suc, ◌+◌, ◌*◌, ◌<◌, ◌^◌, Bool, false, List, [], ◌∷◌, ◌++◌, length, replicate, refl, sym, ◌∙◌, ap, subst, arith, append_assoc, length-append}
use Rattle.std.specs.Prelude.{bit_xor}
use lib.Bits.{xor_assoc, xor_self, xor_comm, xor_zero_r}
use Rattle.std.specs.List.{AllByRecursion, flat_map}
use Rattle.std.proofs.lemmas.List.{length-replicate}
use Rattle.std.proofs.Math.Nat.{mod-eq_of_lt}
use Rattle.page_checksum.specs.Checksum.{bits_of, number_of, message_bits, add, remainder, checksum_of}
use Rattle.byteorder.specs.Endian.{little_bytes}
use Rattle.ogg_page.specs.Page.{Page, IsPage, IsByte, page_bytes, fixed_part, bytes_with}
use Rattle.ogg_page.specs.PageLaws.{all_bytes}
use Rattle.ogg_page.specs.Laws.PageBytes.{all_both}
use Rattle.link_chain.specs.Laws.LastLink.{all_split}
use Rattle.page_checksum.specs.Laws.Division.{zeros, length-add, add_parts, add-zeros, remainder-add, remainder-more, remainder-zeros}
use Rattle.page_checksum.specs.Laws.BitNumbers.{number_lt, number-add, length-bits_of, number-bits_of, same_number}
use Rattle.page_checksum.specs.Laws.ByteStep.{left_of, length-left_of}
use Rattle.serve_live.specs.Renaming.{front_of, back_of, xor_bytes}

-- ---- bits
pub bits-xor : (n x y : ℕ) → x < 2 ^ n → y < 2 ^ n → bits_of n (bit_xor x y) ≡ add (bits_of n x) (bits_of n y)
bits-xor n x y hx hy =
    let lx : length (bits_of n x) ≡ n = length-bits_of n x in
    let ly : length (bits_of n y) ≡ n = length-bits_of n y in
    let la : length (add (bits_of n x) (bits_of n y)) ≡ n = length-add (bits_of n x) (bits_of n y) ∙ lx in
    let sum : number_of (add (bits_of n x) (bits_of n y)) ≡ bit_xor x y =
    number-add (bits_of n x) (bits_of n y) (lx ∙ sym ly)
    ∙ ap (λ k. bit_xor k (number_of (bits_of n y))) (number-bits_of n x ∙ mod-eq_of_lt hx)
    ∙ ap (bit_xor x) (number-bits_of n y ∙ mod-eq_of_lt hy) in
    let small : bit_xor x y < 2 ^ n =
    subst (λ k. k < 2 ^ n) sum (subst (λ k. number_of (add (bits_of n x) (bits_of n y)) < 2 ^ k) la (number_lt (add (bits_of n x) (bits_of n y)))) in
    same_number (bits_of n (bit_xor x y)) (add (bits_of n x) (bits_of n y)) (length-bits_of n (bit_xor x y) ∙ sym la)
    (number-bits_of n (bit_xor x y) ∙ mod-eq_of_lt small ∙ sym sum)

message-xor : (xs ys : List ℕ) → length xs ≡ length ys → AllByRecursion IsByte xs → AllByRecursion IsByte ys →
    message_bits (xor_bytes xs ys) ≡ add (message_bits xs) (message_bits ys)
unfolding message_bits add
message-xor [] [] h a b = refl
message-xor [] (y ∷ ys) h a b = absurd (omega arith)
message-xor (x ∷ xs) [] h a b = absurd (omega arith)
message-xor (x ∷ xs) (y ∷ ys) h a b =
    ap (λ l. l ++ flat_map (bits_of 8) (xor_bytes xs ys)) (bits-xor 8 x y a.0 b.0)
    ∙ ap (λ l. add (bits_of 8 x) (bits_of 8 y) ++ l) (message-xor xs ys (omega arith) a.1 b.1)
    ∙ sym (add_parts (bits_of 8 x) (flat_map (bits_of 8) xs) (bits_of 8 y) (flat_map (bits_of 8) ys) (length-bits_of 8 x ∙ sym (length-bits_of 8 y)))

length-message : (xs ys : List ℕ) → length xs ≡ length ys → length (message_bits xs) ≡ length (message_bits ys)
unfolding message_bits
length-message [] [] h = refl
length-message [] (y ∷ ys) h = absurd (omega arith)
length-message (x ∷ xs) [] h = absurd (omega arith)
length-message (x ∷ xs) (y ∷ ys) h =
    omega (
      arith,
      length-append (bits_of 8 x) (flat_map (bits_of 8) xs),
      length-append (bits_of 8 y) (flat_map (bits_of 8) ys),
      length-bits_of 8 x,
      length-bits_of 8 y,
      length-message xs ys (omega arith),
    )

-- ---- remainders
left-add : (u v : List Bool) → length u ≡ length v → left_of (add u v) ≡ add (left_of u) (left_of v)
unfolding left_of
left-add u v h =
    let both : add u v ++ zeros 32 ≡ add (u ++ zeros 32) (v ++ zeros 32) =
    ap (λ l. add u v ++ l) (sym (add-zeros 32 (zeros 32))) ∙ sym (add_parts u (zeros 32) v (zeros 32) h) in
    ap (λ n. remainder n (add u v ++ zeros 32)) (length-add u v)
    ∙ ap (remainder (length u)) both
    ∙ remainder-add (length u) (u ++ zeros 32) (v ++ zeros 32) (omega (arith, h, length-append u (zeros 32), length-append v (zeros 32)))
    ∙ ap (λ n. add (remainder (length u) (u ++ zeros 32)) (remainder n (v ++ zeros 32))) h

left-zeros : (n : ℕ) (m : List Bool) → left_of (zeros n ++ m) ≡ left_of m
unfolding left_of
left-zeros n m =
    let len : length (zeros n ++ m) ≡ n + length m = length-append (zeros n) m ∙ ap (λ k. k + length m) (length-replicate n false) in
    ap (λ k. remainder k ((zeros n ++ m) ++ zeros 32)) len
    ∙ remainder-more n (length m) ((zeros n ++ m) ++ zeros 32)
    ∙ ap (λ l. remainder (length m) (remainder n l)) (append_assoc (zeros n) m (zeros 32))
    ∙ ap (remainder (length m)) (remainder-zeros n (m ++ zeros 32))

pub checksum-left : (bytes : List ℕ) → checksum_of bytes ≡ number_of (left_of (message_bits bytes))
unfolding checksum_of left_of
checksum-left bytes = refl

pub checksum-xor : (xs ys : List ℕ) → length xs ≡ length ys → AllByRecursion IsByte xs → AllByRecursion IsByte ys →
    checksum_of (xor_bytes xs ys) ≡ bit_xor (checksum_of xs) (checksum_of ys)
checksum-xor xs ys h a b =
    let u : List Bool = message_bits xs in
    let v : List Bool = message_bits ys in
    checksum-left (xor_bytes xs ys)
    ∙ ap (λ m. number_of (left_of m)) (message-xor xs ys h a b)
    ∙ ap number_of (left-add u v (length-message xs ys h))
    ∙ number-add (left_of u) (left_of v) (length-left_of u ∙ sym (length-left_of v))
    ∙ ap (λ n. bit_xor n (number_of (left_of v))) (sym (checksum-left xs))
    ∙ ap (bit_xor (checksum_of xs)) (sym (checksum-left ys))

-- zeros in front count for nothing
pub zero_bits : (n : ℕ) (bytes : List ℕ) → message_bits (replicate n 0 ++ bytes) ≡ zeros (8 * n) ++ message_bits bytes
unfolding message_bits bits_of
zero_bits zero bytes = refl
zero_bits (suc n) bytes =
    ap (λ l. false ∷ false ∷ false ∷ false ∷ false ∷ false ∷ false ∷ false ∷ l) (zero_bits n bytes)
    ∙ ap (λ k. zeros k ++ message_bits bytes) (let e : suc (suc (suc (suc (suc (suc (suc (suc (8 * n)))))))) ≡ 8 * suc n = omega arith in e)

pub checksum-zeros : (n : ℕ) (bytes : List ℕ) → checksum_of (replicate n 0 ++ bytes) ≡ checksum_of bytes
checksum-zeros n bytes =
    checksum-left (replicate n 0 ++ bytes)
    ∙ ap (λ m. number_of (left_of m)) (zero_bits n bytes)
    ∙ ap number_of (left-zeros (8 * n) (message_bits bytes))
    ∙ sym (checksum-left bytes)

-- ---- bytes
pub xor_both : (a b c d : List ℕ) → length a ≡ length b → xor_bytes (a ++ c) (b ++ d) ≡ xor_bytes a b ++ xor_bytes c d
xor_both [] [] c d h = refl
xor_both [] (y ∷ b) c d h = absurd (omega arith)
xor_both (x ∷ a) [] c d h = absurd (omega arith)
xor_both (x ∷ a) (y ∷ b) c d h = ap (λ l. bit_xor x y ∷ l) (xor_both a b c d (omega arith))

pub xor_same : (a : List ℕ) → xor_bytes a a ≡ replicate (length a) 0
xor_same [] = refl
xor_same (x ∷ a) = ap (λ n. n ∷ xor_bytes a a) (xor_self x) ∙ ap (λ l. 0 ∷ l) (xor_same a)

-- ---- the bytes of a page
pub in_parts : (checksum : ℕ) (page : Page) → bytes_with checksum page ≡ front_of page ++ (little_bytes 4 page.sequence ++ (little_bytes 4 checksum ++ back_of page))
unfolding fixed_part
in_parts checksum page = refl

pub length_front : (page : Page) → length (front_of page) ≡ 18
length_front page = refl

pub length_number : (n : ℕ) → length (little_bytes 4 n) ≡ 4
length_number n = refl

pub blank_bytes : (page : Page) → IsPage page → AllByRecursion IsByte (bytes_with 0 page)
unfolding page_bytes
blank_bytes page is =
    let checksum : ℕ = checksum_of (bytes_with 0 page) in
    let all : AllByRecursion IsByte (front_of page ++ (little_bytes 4 page.sequence ++ (little_bytes 4 checksum ++ back_of page))) =
    subst (λ (l : List ℕ). AllByRecursion IsByte l) (in_parts checksum page) (all_bytes page is) in
    let front = all_split IsByte (front_of page) (little_bytes 4 page.sequence ++ (little_bytes 4 checksum ++ back_of page)) all in
    let number = all_split IsByte (little_bytes 4 page.sequence) (little_bytes 4 checksum ++ back_of page) front.1 in
    let back = all_split IsByte (little_bytes 4 checksum) (back_of page) number.1 in
    let blank : AllByRecursion IsByte (little_bytes 4 0) = (omega arith, (omega arith, (omega arith, (omega arith, tt)))) in
    subst (λ (l : List ℕ). AllByRecursion IsByte l) (sym (in_parts 0 page))
    (all_both IsByte (front_of page) (little_bytes 4 page.sequence ++ (little_bytes 4 0 ++ back_of page)) front.0
    (all_both IsByte (little_bytes 4 page.sequence) (little_bytes 4 0 ++ back_of page) number.0
    (all_both IsByte (little_bytes 4 0) (back_of page) blank back.1)))

pub undone : (a b c : ℕ) → c ≡ bit_xor a b → b ≡ bit_xor a c
undone a b c e =
    sym (xor_zero_r b) ∙ xor_comm b 0 ∙ ap (λ n. bit_xor n b) (sym (xor_self a)) ∙ xor_assoc a a b ∙ ap (bit_xor a) (sym e)
