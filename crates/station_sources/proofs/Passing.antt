-- Bytes that a reader gives of a slice.
use Rattle.std.proofs.Common.{◌≡◌, ◌<◌, ◌≤◌, ◌+◌, ◌-◌, ℕ, zero, suc, refl, List, [], ◌++◌, length, slice_range, take, drop, sym, ◌∙◌, ap, arith}
use Rattle.std.proofs.lemmas.List.{length-append, length-drop, length-take, take_at}

-- what was given is the front
pub is_front : (bytes given left : List ℕ) (count : ℕ) → bytes ≡ given ++ left → length given ≡ count → given ≡ take count bytes
is_front bytes given left count is counted = sym (ap (take count) is ∙ take_at given left count counted)

-- something is given, unless nothing is left
pub gives_some : (bytes given left : List ℕ) (count : ℕ) → 0 < length bytes → bytes ≡ given ++ left → length given ≡ count
    → (count ≡ 0 → left ≡ []) → 0 < count
gives_some bytes given left zero some is counted at_end =
    absurd (omega (arith, some, ap length is, length-append given left, counted, ap length (at_end refl)))
gives_some bytes given left (suc count) some is counted at_end = omega arith

-- a part that isn't empty holds something
pub holds_some : (bytes : List ℕ) (at size : ℕ) → 0 < size → at + size ≤ length bytes → 0 < length (slice_range bytes at (at + size))
holds_some bytes at size some fits = omega (arith, some, fits, length-take (at + size - at) (drop at bytes), length-drop at bytes)
