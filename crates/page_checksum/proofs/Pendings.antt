-- What is pending behind a place, and how a place moves on.
use Rattle.std.proofs.Common.{◌≡◌, ◌≢◌, ℕ, ◌+◌, ◌-◌, ◌<◌, ◌≤◌, List, length, set, slice_index, sym, ◌∙◌, ap, ap₂, arith, below_more, get_or-set_other, get_or-set_same}
use Rattle.std.specs.Prelude.{bit_xor}
use Rattle.page_checksum.specs.Pending.{pending_at}

abbrev six : ℕ → ℕ → ℕ → ℕ → ℕ → ℕ → ℕ
six a b c d e f = bit_xor (bit_xor (bit_xor (bit_xor (bit_xor a b) c) d) e) f

pub six-same : (a b c d e f a' b' c' d' e' f' : ℕ) → a ≡ a' → b ≡ b' → c ≡ c' → d ≡ d' → e ≡ e' → f ≡ f' → six a b c d e f ≡ six a' b' c' d' e' f'
six-same a b c d e f a' b' c' d' e' f' ha hb hc hd he hf = ap₂ bit_xor (ap₂ bit_xor (ap₂ bit_xor (ap₂ bit_xor (ap₂ bit_xor ha hb) hc) hd) he) hf

-- only bytes before the place count
pub pending-same : (f g : ℕ → ℕ) (p : ℕ) → 247 ≤ p → ((q : ℕ) → q < p → f q ≡ g q) → pending_at f p ≡ pending_at g p
pending-same f g p from same =
    six-same (f (p - 247)) (f (p - 240)) (f (p - 186)) (f (p - 154)) (f (p - 151)) (f (p - 149))
    (g (p - 247)) (g (p - 240)) (g (p - 186)) (g (p - 154)) (g (p - 151)) (g (p - 149))
    (same (p - 247) (omega arith)) (same (p - 240) (omega arith)) (same (p - 186) (omega arith)) (same (p - 154) (omega arith)) (same (p - 151) (omega arith)) (same (p - 149) (omega arith))

-- this byte of the piece is folded
abbrev pub IsFolded : List ℕ → List ℕ → ℕ → Type 0
IsFolded piece xs i = slice_index xs (256 + i) ≡ bit_xor (slice_index piece i) (pending_at (slice_index xs) (256 + i))

pub other_place : (xs : List ℕ) (p v q : ℕ) → q < p → slice_index (set xs p v) q ≡ slice_index xs q
other_place xs p v q h = let ne : q ≢ p = omega arith in get_or-set_other xs p q v 0 ne

pub fold_more : (piece xs : List ℕ) (i v : ℕ) → 256 + i < length xs → v ≡ bit_xor (slice_index piece i) (pending_at (slice_index xs) (256 + i)) →
    ((j : ℕ) → j < i → IsFolded piece xs j) → (j : ℕ) → j < i + 1 → IsFolded piece (set xs (256 + i) v) j
fold_more piece xs i v room is before =
    below_more (IsFolded piece (set xs (256 + i) v)) i
    (λ j h.
    other_place xs (256 + i) v (256 + j) (omega arith)
    ∙ before j h
    ∙ ap (bit_xor (slice_index piece j)) (sym (pending-same (slice_index (set xs (256 + i) v)) (slice_index xs) (256 + j) (omega arith) (λ q l. other_place xs (256 + i) v q (omega arith)))))
    (get_or-set_same xs (256 + i) v 0 room
    ∙ is
    ∙ ap (bit_xor (slice_index piece i)) (sym (pending-same (slice_index (set xs (256 + i) v)) (slice_index xs) (256 + i) (omega arith) (λ q l. other_place xs (256 + i) v q l))))
