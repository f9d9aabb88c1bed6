-- A stretch of bytes is its first ones, and then the rest.
use Rattle.std.proofs.Common.{◌≡◌, ℕ, ◌+◌, ◌-◌, ◌≤◌, List, ◌++◌, take, drop, slice_range, arith, ap, ◌∙◌, take-add, drop-drop}

pub range_parts : (bytes : List ℕ) (at end count : ℕ) → count ≤ end - at
    → slice_range bytes at end ≡ take count (drop at bytes) ++ slice_range bytes (at + count) end
range_parts bytes at end count le =
    let so_many : end - at ≡ count + (end - (at + count)) = omega (arith, le) in
    ap (λ n. take n (drop at bytes)) so_many
    ∙ take-add count (end - (at + count)) (drop at bytes)
    ∙ ap (λ rest. take count (drop at bytes) ++ take (end - (at + count)) rest) (drop-drop count at bytes)
