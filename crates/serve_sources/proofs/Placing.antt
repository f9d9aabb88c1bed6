-- Where the first element stands that passes a test.
use Rattle.std.proofs.Common.{◌≡◌, ℕ, ◌+◌, ◌<◌, ◌≤◌, Bool, true, false, cond, nat_lt, List, ◌∷◌, ◌++◌, Some, None, length, get_or, arith, refl, ap, sym, ◌∙◌}
use Rattle.std.proofs.lemmas.Bool.{lt-ltb, le-ltb, ltb-false, cond-true, cond-false}
use Rattle.std.proofs.lemmas.List.{length-append}
use Rattle.std.proofs.lemmas.List.Sums.{position_or_len_is, fails_before_first}
use Rattle.std.proofs.Math.Seq.{get_or-append_seam}
use Rattle.std.proofs.Math.ListN.{get_or-append}
use Rattle.std.specs.List.{position, position_or_len}

-- none of these elements passes
abbrev pub NonePasses : (ℕ → Bool) → List ℕ → Type 0
NonePasses p xs = (k : ℕ) → k < length xs → p (get_or xs k 0) ≡ false

-- it stands after those that don't pass
pub place_is : (p : ℕ → Bool) (before : List ℕ) (x : ℕ) (after : List ℕ) → NonePasses p before → p x ≡ true → position p (before ++ x ∷ after) ≡ Some (length before)
place_is p before x after none passes =
    let whole : length (before ++ x ∷ after) ≡ length before + length (x ∷ after) = length-append before (x ∷ after) in
    let at : position_or_len p (before ++ x ∷ after) ≡ length before =
    position_or_len_is p (before ++ x ∷ after) (length before) 0 (omega (arith, whole))
    (λ k lt. ap p (get_or-append before (x ∷ after) 0 k lt) ∙ none k lt)
    (λ _. ap p (get_or-append_seam before x after 0) ∙ passes) in
    let inside : length before < length (before ++ x ∷ after) = omega (arith, whole) in
    ap (λ n. cond (nat_lt n (length (before ++ x ∷ after))) (Some n) None) at
    ∙ cond-true _ (Some (length before)) None (lt-ltb _ _ inside)

-- and nowhere if none passes
pub no_place : (p : ℕ → Bool) (xs : List ℕ) → NonePasses p xs → position p xs ≡ None
no_place p xs none =
    let at : position_or_len p xs ≡ length xs =
    position_or_len_is p xs (length xs) 0 (omega arith) none (λ h. absurd (omega (arith, h))) in
    ap (λ n. cond (nat_lt n (length xs)) (Some n) None) at
    ∙ cond-false _ (Some (length xs)) None (le-ltb _ _ (omega arith))

-- if there is no place, none passes
pub none_passes : (p : ℕ → Bool) (xs : List ℕ) → position p xs ≡ None → NonePasses p xs
none_passes p xs nowhere k inside = fails_before_first p xs k 0 (by_test (nat_lt (position_or_len p xs) (length xs)) refl)
  where
    by_test : (b : Bool) → nat_lt (position_or_len p xs) (length xs) ≡ b → k < position_or_len p xs
    by_test true is =
        absurd (cc (sym (ap (λ b. cond b (Some (position_or_len p xs)) None) is) ∙ nowhere))
    by_test false is = let past : length xs ≤ position_or_len p xs = ltb-false _ _ is in omega (arith, past, inside)
