-- Each row of the table has what the bits of a checksum become, four at a time.
use Rattle.std.proofs.Common.{◌≡◌, ℕ, zero, suc, ◌+◌, ◌*◌, ◌/◌, ◌%◌, ◌^◌, ◌<◌, ◌≤◌, Bool, true, false, List, [], get_or, refl, sym, ◌∙◌, ap, arith, inl, inr}
use Rattle.std.specs.Prelude.{nat_eq, bit_xor, ◌&&◌}
use Rattle.std.specs.Int.Bits.{xor_zero_l, xor_zero_r}
use Rattle.std.proofs.lemmas.Bool.{cases_eq, eqb-true}
use Rattle.std.proofs.lemmas.Nat.{mod-pow-add, xor_block}
use Rattle.std.proofs.Math.Nat.{mod-lt, mod-eq_of_lt, mul-le-mul_right, one-le-pow, pow-le-pow_right, pow-suc}
use Rattle.page_checksum.specs.Checksum.{bits_of, number_of, add, divisor, remainder}
use Rattle.serve_live.specs.declared.zeros.TheConstants.{MOVED}
use Rattle.serve_live.proofs.Moving.{moved_by, moved-xor, moved-zero, moved-more, moved_lt}

abbrev pub row_at : ℕ → List (List ℕ)
row_at power = get_or MOVED power []

-- what the row has for the four bits at this place, if they have this value
abbrev pub entry_in : List (List ℕ) → ℕ → ℕ → ℕ
entry_in row place value = get_or (get_or row place []) value 0

-- the four bits of a word at this place
abbrev pub four_at : ℕ → ℕ → ℕ
four_at place word = word / 2 ^ (4 * place) % 16

-- what the lowest bits of a word become, by a row
abbrev pub by_row : ℕ → List (List ℕ) → ℕ → ℕ
by_row zero row word = 0
by_row (suc place) row word = bit_xor (by_row place row word) (entry_in row place (four_at place word))

-- the row has what each four bits become by so many zero bits
abbrev pub IsRow : ℕ → List (List ℕ) → Type 0
IsRow count row = (place value : ℕ) → place < 8 → value < 16 → entry_in row place value ≡ moved_by count (value * 2 ^ (4 * place))

pow_pos : (n : ℕ) → 0 < 2 ^ n
pow_pos n = one-le-pow n 2 (omega arith)

apart : (bit low digit : ℕ) → low < 2 ^ bit → bit_xor low (digit * 2 ^ bit) ≡ digit * 2 ^ bit + low
apart bit low digit small =
    ap (λ n. bit_xor n (digit * 2 ^ bit)) (let e : low ≡ 0 * 2 ^ bit + low = omega arith in e)
    ∙ ap (bit_xor (0 * 2 ^ bit + low)) (let e : digit * 2 ^ bit ≡ digit * 2 ^ bit + 0 = omega arith in e)
    ∙ xor_block bit 0 digit low 0 small (pow_pos bit)
    ∙ ap (λ n. n * 2 ^ bit + bit_xor low 0) (xor_zero_l digit)
    ∙ ap (λ n. digit * 2 ^ bit + n) (xor_zero_r low)

low_bits : (place word : ℕ) → word % 2 ^ (4 * suc place) ≡ bit_xor (word % 2 ^ (4 * place)) (four_at place word * 2 ^ (4 * place))
low_bits place word =
    let bit : ℕ = 4 * place in
    ap (λ n. word % 2 ^ n) (let e : 4 * suc place ≡ 4 + bit = omega arith in e)
    ∙ (let e : word % 2 ^ (4 + bit) ≡ word / 2 ^ bit % 2 ^ 4 * 2 ^ bit + word % 2 ^ bit = mod-pow-add word 4 bit in e)
    ∙ sym (apart bit (word % 2 ^ bit) (four_at place word) (mod-lt word (pow_pos bit)))

-- four bits at a place below the eighth lie within a word
within : (place digit : ℕ) → place < 8 → digit < 16 → digit * 2 ^ (4 * place) < 2 ^ 32
within place digit le small =
    let more : 2 ^ (4 * place + 4) ≡ 16 * 2 ^ (4 * place) = pow_more (4 * place) in
    let most : 2 ^ (4 * place + 4) ≤ 2 ^ 32 = pow-le-pow_right (omega arith) (let e : 4 * place + 4 ≤ 32 = omega (arith, le) in e) in
    let some : digit * 2 ^ (4 * place) < 16 * 2 ^ (4 * place) = smaller digit (2 ^ (4 * place)) small (pow_pos (4 * place)) in
    omega (arith, more, most, some)
  where
    pow_more : (n : ℕ) → 2 ^ (n + 4) ≡ 16 * 2 ^ n
    pow_more n = ap (λ k. 2 ^ k) (let e : n + 4 ≡ suc (suc (suc (suc n))) = omega arith in e) ∙ omega arith

    smaller : (a b : ℕ) → a < 16 → 0 < b → a * b < 16 * b
    smaller a b lt some = omega (arith, mul-le-mul_right b (let e : suc a ≤ 16 = omega (arith, lt) in e), some)

-- each four bits in turn
pub by_row_is : (count : ℕ) (row : List (List ℕ)) (places word : ℕ) → IsRow count row → places ≤ 8 → by_row places row word ≡ moved_by count (word % 2 ^ (4 * places))
by_row_is count row zero word is le = sym (ap (moved_by count) (let e : word % 1 ≡ 0 = omega arith in e) ∙ moved-zero count)
by_row_is count row (suc place) word is le =
    let low : ℕ = word % 2 ^ (4 * place) in
    let four : ℕ = four_at place word in
    let small : four < 16 = omega arith in
    let inside : place < 8 = omega (arith, le) in
    let low_small : low < 2 ^ 32 =
    omega (arith, mod-lt word (pow_pos (4 * place)), pow_le (4 * place) (omega (arith, inside))) in
    ap (λ n. bit_xor n (entry_in row place four)) (by_row_is count row place word is (omega (arith, le)))
    ∙ ap (bit_xor (moved_by count low)) (is place four inside small)
    ∙ sym (moved-xor count low (four * 2 ^ (4 * place)) low_small (within place four inside small))
    ∙ ap (moved_by count) (sym (low_bits place word))
  where
    pow_le : (n : ℕ) → n ≤ 32 → 2 ^ n ≤ 2 ^ 32
    pow_le n le = pow-le-pow_right (omega arith) le

-- ---- the table
all_below : ℕ → (ℕ → Bool) → Bool
all_below zero f = true
all_below (suc n) f = f n && all_below n f

both : (a b : Bool) → a && b ≡ true → (a ≡ true) × (b ≡ true)
both true b h = (refl, h)
both false b h = absurd (cc)

each_below : (n : ℕ) (f : ℕ → Bool) → all_below n f ≡ true → (k : ℕ) → k < n → f k ≡ true
unfolding all_below
each_below zero f h k lt = absurd (omega (arith, lt))
each_below (suc n) f h k lt =
    elim (cases_eq k n) [
      | inl same ↦ ap f same ∙ (both (f n) (all_below n f) h).0
      | inr other ↦ each_below n f (both (f n) (all_below n f) h).1 k (omega (arith, lt, other))
    ]

-- what an entry must be: each row is twice the one before
meant : ℕ → ℕ → ℕ → ℕ
meant zero place value = moved_by 8 (value * 2 ^ (4 * place))
meant (suc power) place value = by_row 8 (row_at power) (entry_in (row_at power) place value)

is_entry : ℕ → ℕ → ℕ → Bool
is_entry power place value = nat_eq (entry_in (row_at power) place value) (meant power place value)

are_entries : ℕ → Bool
are_entries power = all_below 8 (λ place. all_below 16 (is_entry power place))

computed : all_below 16 are_entries ≡ true
unfolding all_below are_entries is_entry meant number_of remainder bits_of add divisor
computed = refl

entry_is : (power place value : ℕ) → power < 16 → place < 8 → value < 16 → entry_in (row_at power) place value ≡ meant power place value
unfolding are_entries is_entry
entry_is power place value p q r =
    eqb-true (entry_in (row_at power) place value) (meant power place value)
    (each_below 16 (is_entry power place) (each_below 8 (λ k. all_below 16 (is_entry power k)) (each_below 16 are_entries computed power p) place q) value r)

pub is_row : (power : ℕ) → power < 16 → IsRow (8 * 2 ^ power) (row_at power)
unfolding meant
is_row zero p place value q r = entry_is 0 place value p q r
is_row (suc power) p place value q r =
    let count : ℕ = 8 * 2 ^ power in
    let row : List (List ℕ) = row_at power in
    let word : ℕ = value * 2 ^ (4 * place) in
    let before : IsRow count row = is_row power (omega (arith, p)) in
    entry_is (suc power) place value p q r
    ∙ by_row_is count row 8 (entry_in row place value) before (omega arith)
    ∙ ap (λ n. moved_by count (n % 2 ^ 32)) (before place value q r)
    ∙ ap (moved_by count) (mod-eq_of_lt (moved_lt count word))
    ∙ sym (moved-more count count word)
    ∙ ap (λ n. moved_by n word) (let e : count + count ≡ 8 * (2 * 2 ^ power) = omega arith in e ∙ ap (λ n. 8 * n) (let g : 2 * 2 ^ power ≡ 2 ^ suc power = sym (pow-suc 2 power ∙ (let k : 2 ^ power * 2 ≡ 2 * 2 ^ power = omega arith in k)) in g))

-- a word becomes what its bits become
pub by_whole_row : (power word : ℕ) → power ≤ 15 → word < 2 ^ 32 → by_row 8 (row_at power) word ≡ moved_by (8 * 2 ^ power) word
by_whole_row power word le small =
    by_row_is (8 * 2 ^ power) (row_at power) 8 word (is_row power (omega (arith, le))) (omega arith) ∙ ap (moved_by (8 * 2 ^ power)) (mod-eq_of_lt small)

-- the next four bits
pub next_four : (place word : ℕ) (row : List (List ℕ)) → bit_xor (by_row place row word) (entry_in row place (four_at place word)) ≡ by_row (place + 1) row word
next_four place word row = ap (λ n. by_row n row word) (let e : suc place ≡ place + 1 = omega arith in e)
