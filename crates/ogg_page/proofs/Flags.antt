-- The flags of a page, as a program tests them.
use Rattle.std.proofs.Common.{◌≡◌, ◌<◌, ◌*◌, ◌/◌, ◌%◌, ℕ, bit_and, sym, ◌∙◌, ap, arith, inl, inr, eq-eqb}
use Rattle.std.specs.Prelude.{nat_eq, not}
use Rattle.std.proofs.lemmas.Bool.{ne_eqb, cases_eq}
use Rattle.std.proofs.lemmas.Nat.Bits.{and_pow}

tested : (masked bit size : ℕ) → masked ≡ bit * size → 0 < size → bit < 2 → not (nat_eq masked 0) ≡ nat_eq bit 1
tested masked bit size e some small =
    elim (cases_eq bit 1) [
      | inl one ↦
          (let is : masked ≡ 1 * size = e ∙ ap (λ b. b * size) one in
          ap not (ne_eqb masked 0 (λ z. omega (arith, is, z))) ∙ sym (eq-eqb bit 1 one))
      | inr other ↦
          (let zero_is : bit ≡ 0 = omega (arith, other, small) in
          let is : masked ≡ 0 * size = e ∙ ap (λ b. b * size) zero_is in
          ap not (eq-eqb masked 0 (omega (arith, is))) ∙ sym (ne_eqb bit 1 other))
    ]

pub first_tested : (flags : ℕ) → not (nat_eq (bit_and flags 2) 0) ≡ nat_eq (flags / 2 % 2) 1
first_tested flags = tested (bit_and flags 2) (flags / 2 % 2) 2 (and_pow flags 1) (omega arith) (omega arith)

pub last_tested : (flags : ℕ) → not (nat_eq (bit_and flags 4) 0) ≡ nat_eq (flags / 4 % 2) 1
last_tested flags = tested (bit_and flags 4) (flags / 4 % 2) 4 (and_pow flags 2) (omega arith) (omega arith)
