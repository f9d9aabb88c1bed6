-- Boundaries that are forgotten, one after the other.
use Rattle.std.proofs.Common.{◌≡◌, ℕ, ◌-◌, Bool, false, Some, List, [], ◌∷◌, refl, sym, ◌∙◌, ap}
use Rattle.std.specs.Prelude.{nat_le, slice_get}
use Rattle.std.proofs.lemmas.Bool.{cond-false}
use Rattle.serve_live.specs.Boundaries.{ahead, forgotten, may_forget}

-- the second of the boundaries decides
pub decides : (end place : ℕ) (kept : List ℕ) (far : Bool) → slice_get kept 1 ≡ Some place → far ≡ nat_le 65536 (end - place) → far ≡ may_forget end kept
unfolding ahead
decides end place [] far is e = cc
decides end place (a ∷ []) far is e = cc
decides end place (a ∷ b ∷ kept) far is e =
    let same : b ≡ place = cc in
    e ∙ ap (λ n. nat_le 65536 (end - n)) (sym same)

pub keeps : (end : ℕ) (kept : List ℕ) → may_forget end kept ≡ false → kept ≡ forgotten end kept
keeps end [] e = refl
keeps end (a ∷ []) e = refl
keeps end (a ∷ b ∷ kept) e = sym (cond-false (nat_le ahead (end - b)) (forgotten end (b ∷ kept)) (a ∷ b ∷ kept) e)
