-- Bytes that are held stand in the source.
use Rattle.std.proofs.Common.{◌≡◌, ℕ, zero, suc, ◌+◌, ◌≤◌, List, [], ◌∷◌, length, take, drop, refl, sym, ◌∙◌, ap, arith}
use Rattle.std.proofs.lemmas.List.{drop-drop, length-take, take-take}

-- some bytes of the first ones are some of all
pub front_same : (n skip held : ℕ) (bytes : List ℕ) → skip + n ≤ held → take n (drop skip (take held bytes)) ≡ take n (drop skip bytes)
front_same n zero held bytes le = take-take n held bytes (omega (arith, le))
front_same n (suc skip) zero bytes le = absurd (omega (arith, le))
front_same n (suc skip) (suc held) [] le = refl
front_same n (suc skip) (suc held) (x ∷ bytes) le = front_same n skip held bytes (omega (arith, le))

-- what is copied of the room is what the source has at the place
pub held_part : (bytes room : List ℕ) (from held skip n at : ℕ) → skip + n ≤ held → held ≤ length room → from + skip ≡ at →
    take held room ≡ take (length (take held room)) (drop from bytes) → take n (drop skip room) ≡ take n (drop at bytes)
held_part bytes room from held skip n at le fits same is =
    let long : skip + n ≤ length (take held room) = omega (arith, le, fits, length-take held room) in
    sym (front_same n skip held room le)
    ∙ ap (λ l. take n (drop skip l)) is
    ∙ front_same n skip (length (take held room)) (drop from bytes) long
    ∙ ap (λ l. take n l) (drop-drop skip from bytes ∙ ap (λ m. drop m bytes) same)
