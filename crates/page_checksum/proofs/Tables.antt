-- The tables have the checksum of each byte with up to fifteen zeros after it.
use Rattle.std.proofs.Common.{◌≡◌, ℕ, zero, suc, ◌+◌, ◌*◌, ◌/◌, ◌%◌, ◌^◌, ◌<◌, Bool, true, false, List, [], ◌∷◌, length, replicate, refl, sym, ◌∙◌, ap, subst, arith, drop, get_or}
use Rattle.std.specs.Prelude.{nat_eq, bit_xor, ◌&&◌}
use Rattle.std.specs.Int.Bits.{xor_zero_l, xor_zero_r}
use Rattle.std.proofs.lemmas.Bool.{eqb-true}
use Rattle.std.proofs.lemmas.List.{replicate_more}
use Rattle.page_checksum.specs.Checksum.{bits_of, number_of, message_bits, add, divisor, remainder, checksum_of, entry_before}
use Rattle.page_checksum.specs.declared.table.TheConstants.{ENTRIES}
use Rattle.page_checksum.specs.Laws.BitNumbers.{number_lt}
use Rattle.page_checksum.specs.Laws.ByteStep.{left_of, length-left_of}
use Rattle.page_checksum.proofs.TableRule.{entry, checksum-push}

-- the entry of the byte i with no zeros
abbrev first_of : ℕ → ℕ
first_of i = get_or (get_or ENTRIES 0 []) i 0

-- what a checksum is with one more zero
abbrev moved : ℕ → ℕ
moved sum = bit_xor (sum * 2 ^ 8 % 2 ^ 32) (first_of (sum / 2 ^ 24))

-- the first table, from the byte i on
are_first : ℕ → List ℕ → Bool
are_first i [] = true
are_first i (x ∷ xs) = nat_eq x (entry i) && are_first (suc i) xs

-- each entry of a table is that of the table before it, moved
are_moved : List ℕ → List ℕ → Bool
are_moved [] [] = true
are_moved [] (y ∷ ys) = false
are_moved (x ∷ xs) [] = false
are_moved (x ∷ xs) (y ∷ ys) = nat_eq y (moved x) && are_moved xs ys

-- the tables after this one
are_tables : List ℕ → List (List ℕ) → Bool
are_tables xs [] = true
are_tables xs (ys ∷ tables) = are_moved xs ys && are_tables ys tables

first_computed : are_first 0 (get_or ENTRIES 0 []) ≡ true
unfolding are_first entry number_of remainder bits_of add divisor
first_computed = refl

computed : are_tables (get_or ENTRIES 0 []) (drop 1 ENTRIES) ≡ true
unfolding are_tables are_moved
computed = refl

both : (a b : Bool) → a && b ≡ true → (a ≡ true) × (b ≡ true)
both true b h = (refl, h)
both false b h = absurd (cc)

firsts : (i k : ℕ) (xs : List ℕ) → are_first i xs ≡ true → k < length xs → get_or xs k 0 ≡ entry (i + k)
unfolding are_first
firsts i k [] h l = absurd (omega arith)
firsts i zero (x ∷ xs) h l = eqb-true x (entry i) (both (nat_eq x (entry i)) (are_first (suc i) xs) h).0 ∙ ap entry (let e : i ≡ i + 0 = omega arith in e)
firsts i (suc k) (x ∷ xs) h l =
    firsts (suc i) k xs (both (nat_eq x (entry i)) (are_first (suc i) xs) h).1 (omega arith) ∙ ap entry (let e : suc i + k ≡ i + suc k = omega arith in e)

first_is : (i : ℕ) → i < 256 → first_of i ≡ entry i
first_is i h = firsts 0 i (get_or ENTRIES 0 []) first_computed h ∙ ap entry (let e : 0 + i ≡ i = omega arith in e)

moves : (xs ys : List ℕ) (k : ℕ) → are_moved xs ys ≡ true → k < length xs → get_or ys k 0 ≡ moved (get_or xs k 0)
unfolding are_moved
moves [] ys k h l = absurd (omega arith)
moves (x ∷ xs) [] k h l = absurd (cc)
moves (x ∷ xs) (y ∷ ys) zero h l = eqb-true y (moved x) (both (nat_eq y (moved x)) (are_moved xs ys) h).0
moves (x ∷ xs) (y ∷ ys) (suc k) h l = moves xs ys k (both (nat_eq y (moved x)) (are_moved xs ys) h).1 (omega arith)

same_long : (xs ys : List ℕ) → are_moved xs ys ≡ true → length xs ≡ length ys
unfolding are_moved
same_long [] [] h = refl
same_long [] (y ∷ ys) h = absurd (cc)
same_long (x ∷ xs) [] h = absurd (cc)
same_long (x ∷ xs) (y ∷ ys) h = ap suc (same_long xs ys (both (nat_eq y (moved x)) (are_moved xs ys) h).1)

-- ---- each further zero moves the checksum
checksum_small : (bytes : List ℕ) → checksum_of bytes < 2 ^ 32
unfolding checksum_of left_of
checksum_small bytes = subst (λ n. number_of (left_of (message_bits bytes)) < 2 ^ n) (length-left_of (message_bits bytes)) (number_lt (left_of (message_bits bytes)))

moved_is : (n i : ℕ) → moved (entry_before n i) ≡ entry_before (suc n) i
moved_is n i =
    let sum : ℕ = entry_before n i in
    let small : sum < 2 ^ 32 = checksum_small (i ∷ replicate n 0) in
    ap (λ k. bit_xor (sum * 2 ^ 8 % 2 ^ 32) k) (first_is (sum / 2 ^ 24) (omega (arith, small)) ∙ ap entry (sym (xor_zero_r (sum / 2 ^ 24))))
    ∙ sym (checksum-push (i ∷ replicate n 0) 0 (omega arith))
    ∙ ap (λ l. checksum_of (i ∷ l)) (replicate_more n 0 ∙ ap (λ k. replicate k 0) (let e : n + 1 ≡ suc n = omega arith in e))

no_message : checksum_of [] ≡ 0
unfolding checksum_of message_bits remainder number_of
no_message = refl

pub alone : (i : ℕ) → i < 256 → entry i ≡ entry_before 0 i
alone i h =
    sym (xor_zero_l (entry i)) ∙ ap (λ k. bit_xor 0 (entry k)) (sym (xor_zero_l i))
    ∙ ap (λ sum. bit_xor (sum * 2 ^ 8 % 2 ^ 32) (entry (bit_xor (sum / 2 ^ 24) i))) (sym no_message)
    ∙ sym (checksum-push [] i h)

-- this table has the checksums of bytes with this number of zeros after them
abbrev IsTable : ℕ → List ℕ → Type 0
IsTable zeros xs = (length xs ≡ 256) × ((i : ℕ) → i < 256 → get_or xs i 0 ≡ entry_before zeros i)

next_table : (zeros : ℕ) (xs ys : List ℕ) → are_moved xs ys ≡ true → IsTable zeros xs → IsTable (suc zeros) ys
next_table zeros xs ys h (long, each) =
    (sym (same_long xs ys h) ∙ long, λ i l. moves xs ys i h (omega (arith, l, long)) ∙ ap moved (each i l) ∙ moved_is zeros i)

tables_are : (n k : ℕ) (xs : List ℕ) (tables : List (List ℕ)) → are_tables xs tables ≡ true → IsTable n xs → k < suc (length tables) →
    IsTable (n + k) (get_or (xs ∷ tables) k [])
unfolding are_tables
tables_are n zero xs tables h is l = subst (λ m. IsTable m xs) (let e : n ≡ n + 0 = omega arith in e) is
tables_are n (suc k) xs [] h is l = absurd (omega arith)
tables_are n (suc k) xs (ys ∷ tables) h is l =
    let split = both (are_moved xs ys) (are_tables ys tables) h in
    subst (λ m. IsTable m (get_or (ys ∷ tables) k [])) (let e : suc n + k ≡ n + suc k = omega arith in e)
    (tables_are (suc n) k ys tables split.1 (next_table n xs ys split.0 is) (omega arith))

pub entry_at : (zeros i : ℕ) → zeros < 16 → i < 256 → get_or (get_or ENTRIES zeros []) i 0 ≡ entry_before zeros i
entry_at zeros i z h =
    (tables_are 0 zeros (get_or ENTRIES 0 []) (drop 1 ENTRIES) computed (refl, λ k l. first_is k l ∙ alone k l) z).1 i h
    ∙ ap (λ n. entry_before n i) (let e : 0 + zeros ≡ zeros = omega arith in e)
