-- Bytes that are compared by the union of their differences.
use Rattle.std.proofs.Common.{◌≡◌, ◌↔◌, ℕ, ◌+◌, ◌<◌, List, take, length, get_or, bit_or, bit_xor, arith, ap, sym, ◌∙◌}
use Rattle.std.specs.Int.Bits.{xor_assoc, xor_self, xor_zero_l, xor_zero_r}
use Rattle.std.proofs.lemmas.Nat.{le_or_l, le_or_r}
use Rattle.std.proofs.lemmas.List.{take_more_same, take-take, get_or-take}

-- equal numbers alone have no differing bit
same_if_none : (a b : ℕ) → bit_xor a b ≡ 0 → a ≡ b
same_if_none a b none =
    sym (xor_zero_r a) ∙ ap (bit_xor a) (sym (xor_self b)) ∙ sym (xor_assoc a b b) ∙ ap (λ n. bit_xor n b) none ∙ xor_zero_l b

-- one more byte
pub more_compared : (xs ys : List ℕ) (i difference : ℕ) → i < length xs → i < length ys → (difference ≡ 0) ↔ (take i xs ≡ take i ys) → (bit_or difference (bit_xor (get_or xs i 0) (get_or ys i 0)) ≡ 0) ↔ (take (i + 1) xs ≡ take (i + 1) ys)
more_compared xs ys i difference in_xs in_ys so_far = (
  λ none.
      let before : difference ≡ 0 = omega (arith, none, le_or_l difference (bit_xor (get_or xs i 0) (get_or ys i 0))) in
      let here : bit_xor (get_or xs i 0) (get_or ys i 0) ≡ 0 = omega (arith, none, le_or_r difference (bit_xor (get_or xs i 0) (get_or ys i 0))) in
      take_more_same xs ys i 0 in_xs in_ys (so_far.0 before) (same_if_none _ _ here),
  λ same.
      let before : take i xs ≡ take i ys =
      sym (take-take i (i + 1) xs (omega arith)) ∙ ap (take i) same ∙ take-take i (i + 1) ys (omega arith) in
      let here : get_or xs i 0 ≡ get_or ys i 0 =
      sym (get_or-take (i + 1) xs i 0 (omega arith)) ∙ ap (λ l. get_or l i 0) same ∙ get_or-take (i + 1) ys i 0 (omega arith) in
      ap (λ d. bit_or d (bit_xor (get_or xs i 0) (get_or ys i 0))) (so_far.1 before)
      ∙ ap (λ a. bit_xor a (get_or ys i 0)) here
      ∙ xor_self (get_or ys i 0),
)
