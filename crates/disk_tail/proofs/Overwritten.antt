-- The bytes that a write leaves, one by one.
use Rattle.std.proofs.Common.{◌≡◌, ℕ, ◌+◌, ◌-◌, ◌<◌, ◌≤◌, List, ◌++◌, length, take, drop, get_or, ◌∙◌, ap, arith, length-append, length-drop}
use Rattle.std.proofs.lemmas.List.{length-take-le, get_or-take, get_or-drop, get_or_append_left, get_or-append_right}
use Rattle.disk_model.specs.Image.{overwritten}

front_size : (old bytes : List ℕ) (at : ℕ) → at ≤ length old → length (take at old ++ bytes) ≡ at + length bytes
front_size old bytes at room = omega (arith, length-append (take at old) bytes, length-take-le at old room)

pub overwritten_size : (old bytes : List ℕ) (at : ℕ) → at ≤ length old
    → length (overwritten old at bytes) ≡ at + length bytes + (length old - (at + length bytes))
overwritten_size old bytes at room =
    omega (arith, length-append (take at old ++ bytes) (drop (at + length bytes) old), front_size old bytes at room, length-drop (at + length bytes) old)

pub before_it : (old bytes : List ℕ) (at k : ℕ) → at ≤ length old → k < at → get_or (overwritten old at bytes) k 0 ≡ get_or old k 0
before_it old bytes at k room below =
    let size = length-take-le at old room in
    get_or_append_left (take at old ++ bytes) (drop (at + length bytes) old) 0 k (omega (arith, below, front_size old bytes at room))
    ∙ get_or_append_left (take at old) bytes 0 k (omega (arith, below, size)) ∙ get_or-take at old k 0 below

pub in_it : (old bytes : List ℕ) (at k : ℕ) → at ≤ length old → k < length bytes → get_or (overwritten old at bytes) (at + k) 0 ≡ get_or bytes k 0
in_it old bytes at k room below =
    get_or_append_left (take at old ++ bytes) (drop (at + length bytes) old) 0 (at + k) (omega (arith, below, front_size old bytes at room))
    ∙ get_or-append_right (take at old) bytes at (at + k) 0 (length-take-le at old room) (omega arith)
    ∙ ap (λ (i : ℕ). get_or bytes i 0) (omega arith)

pub after_it : (old bytes : List ℕ) (at k : ℕ) → at ≤ length old → at + length bytes ≤ k → get_or (overwritten old at bytes) k 0 ≡ get_or old k 0
after_it old bytes at k room above =
    get_or-append_right (take at old ++ bytes) (drop (at + length bytes) old) (at + length bytes) k 0 (front_size old bytes at room) above
    ∙ get_or-drop (at + length bytes) old (k - (at + length bytes)) 0
    ∙ ap (λ (i : ℕ). get_or old i 0) (omega (arith, above))
