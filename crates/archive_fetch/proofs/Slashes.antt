-- Where the first slash of a text stands.
use Rattle.std.proofs.Common.{◌≡◌, ℕ, ◌+◌, ◌<◌, ◌≤◌, ◌==◌, Bool, true, false, cond, nat_lt, List, ◌∷◌, ◌++◌, Some, None, length, take, get_or, arith, refl, ap, sym, ◌∙◌}
use Rattle.std.proofs.lemmas.Bool.{lt-ltb, le-ltb, ltb-false, cond-true, cond-false}
use Rattle.std.proofs.lemmas.List.{length-append, length-take-le, get_or-take}
use Rattle.std.proofs.lemmas.List.Quantifiers.{position-Some}
use Rattle.std.proofs.lemmas.List.Sums.{position_or_len_is, fails_before_first}
use Rattle.std.proofs.Math.Seq.{get_or-append_seam}
use Rattle.std.proofs.Math.ListN.{get_or-append}
use Rattle.std.specs.List.{position_or_len}
use Rattle.ogg_http.specs.Target.{first_slash}

-- none of these bytes is a slash
abbrev HasNone : List ℕ → Type 0
HasNone xs = (k : ℕ) → k < length xs → get_or xs k 0 == 47 ≡ false

-- if there is no place, none is
has_none : (xs : List ℕ) → first_slash xs ≡ None → HasNone xs
has_none xs nowhere k inside = fails_before_first (λ b. b == 47) xs k 0 (by_test (nat_lt (position_or_len (λ b. b == 47) xs) (length xs)) refl)
  where
    by_test : (b : Bool) → nat_lt (position_or_len (λ x. x == 47) xs) (length xs) ≡ b → k < position_or_len (λ x. x == 47) xs
    by_test true is =
        absurd (cc (sym (ap (λ b. cond b (Some (position_or_len (λ x. x == 47) xs)) None) is) ∙ nowhere))
    by_test false is = let past : length xs ≤ position_or_len (λ x. x == 47) xs = ltb-false _ _ is in omega (arith, past, inside)

-- it stands behind what has none
pub behind : (a b : List ℕ) → first_slash a ≡ None → first_slash (a ++ 47 ∷ b) ≡ Some (length a)
behind a b none =
    let whole : length (a ++ 47 ∷ b) ≡ length a + length (47 ∷ b) = length-append a (47 ∷ b) in
    let at : position_or_len (λ x. x == 47) (a ++ 47 ∷ b) ≡ length a =
    position_or_len_is (λ x. x == 47) (a ++ 47 ∷ b) (length a) 0 (omega (arith, whole))
    (λ k lt. ap (λ x. x == 47) (get_or-append a (47 ∷ b) 0 k lt) ∙ has_none a none k lt)
    (λ _. ap (λ x. x == 47) (get_or-append_seam a 47 b 0)) in
    let inside : length a < length (a ++ 47 ∷ b) = omega (arith, whole) in
    ap (λ n. cond (nat_lt n (length (a ++ 47 ∷ b))) (Some n) None) at
    ∙ cond-true _ (Some (length a)) None (lt-ltb _ _ inside)

-- nothing before it is one
pub before : (text : List ℕ) (at : ℕ) → first_slash text ≡ Some at → first_slash (take at text) ≡ None
before text at is =
    let (inside, slash, none) = position-Some (λ b. b == 47) text at 0 is in
    let size : length (take at text) ≡ at = length-take-le at text (omega (arith, inside)) in
    let nowhere : position_or_len (λ b. b == 47) (take at text) ≡ length (take at text) =
    position_or_len_is (λ b. b == 47) (take at text) (length (take at text)) 0 (omega arith)
    (λ k within. ap (λ x. x == 47) (get_or-take at text k 0 (omega (arith, within, size))) ∙ none k (omega (arith, within, size)))
    (λ h. absurd (omega (arith, h))) in
    ap (λ n. cond (nat_lt n (length (take at text))) (Some n) None) nowhere
    ∙ cond-false _ (Some (length (take at text))) None (le-ltb _ _ (omega arith))
