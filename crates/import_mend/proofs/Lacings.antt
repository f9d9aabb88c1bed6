-- Lacing values up to the last that isn't full.
use Rattle.std.proofs.Common.{◌≡◌, ℕ, zero, suc, ◌+◌, ◌*◌, ◌≤◌, ◌<◌, Bool, true, false, cond, List, [], ◌∷◌, ◌++◌, length, replicate, refl, sym, ◌∙◌, ap, arith, inl, inr}
use Rattle.std.specs.Prelude.{nat_lt, ◌||◌, sum}
use Rattle.std.specs.List.{AllByRecursion}
use Rattle.std.proofs.lemmas.Bool.{cases_Bool, cond-true, cond-false, lt-ltb, eqb-false}
use Rattle.std.proofs.lemmas.List.Folds.{list_any-append, sum_by-replicate}
use Rattle.ogg_page.specs.Page.{IsByte}
use Rattle.ogg_page.specs.Lacing.{ends_open}
use Rattle.ogg_page.specs.StreamLaws.{ends_open-at}
use Rattle.import_mend.specs.Mended.{ends_some, whole_values}
use Rattle.std.proofs.Math.Bool.{or-false, or-true}

pub none_whole : (values : List ℕ) → ends_some values ≡ false → whole_values values ≡ 0
none_whole [] e = refl
none_whole (value ∷ values) e = cond-false (ends_some (value ∷ values)) (suc (whole_values values)) 0 e

pub whole_within : (values : List ℕ) → whole_values values ≤ length values
whole_within [] = omega arith
whole_within (value ∷ values) = by_case (ends_some (value ∷ values)) (whole_values values) (whole_within values)
  where
    by_case : (b : Bool) (n : ℕ) → n ≤ length values → cond b (suc n) 0 ≤ length (value ∷ values)
    by_case true n le = omega (arith, le)
    by_case false n le = omega arith

pub some_both : (a b : List ℕ) → ends_some (a ++ b) ≡ (ends_some a || ends_some b)
some_both a b = list_any-append (λ (value : ℕ). nat_lt value 255) a b

-- a packet ends in the later values
pub whole_later : (a b : List ℕ) → ends_some b ≡ true → whole_values (a ++ b) ≡ length a + whole_values b
whole_later [] b e = omega arith
whole_later (v ∷ a) b e =
    let some : ends_some ((v ∷ a) ++ b) ≡ true = some_both (v ∷ a) b ∙ ap (λ x. ends_some (v ∷ a) || x) e ∙ or-true (ends_some (v ∷ a)) in
    omega (arith, cond-true (ends_some ((v ∷ a) ++ b)) (suc (whole_values (a ++ b))) 0 some, whole_later a b e)

-- none does
pub whole_front : (a b : List ℕ) → ends_some b ≡ false → whole_values (a ++ b) ≡ whole_values a
whole_front [] b e = none_whole b e
whole_front (v ∷ a) b e =
    ap (λ x. cond x (suc (whole_values (a ++ b))) 0) (some_both (v ∷ a) b ∙ ap (λ x. ends_some (v ∷ a) || x) e ∙ or-false (ends_some (v ∷ a)))
    ∙ ap (λ n. cond (ends_some (v ∷ a)) (suc n) 0) (whole_front a b e)

-- if the last value isn't full, that is all of them
pub whole_closed : (values : List ℕ) → AllByRecursion IsByte values → ends_open values ≡ false → whole_values values ≡ length values
whole_closed [] bytes closed = refl
whole_closed (v ∷ []) bytes closed =
    let different : (v ≡ 255 → ⊥) = eqb-false v 255 closed in
    let small : nat_lt v 255 ≡ true = lt-ltb v 255 (below v bytes.0 different) in
    cond-true (ends_some (v ∷ [])) (suc (whole_values [])) 0 (ap (λ b. b || false) small) ∙ refl
  where
    below : (n : ℕ) → n < 256 → (n ≡ 255 → ⊥) → n < 255
    below n lt ne = grind (arith, lt, ne)
whole_closed (v ∷ w ∷ values) bytes closed =
    let rest : whole_values (w ∷ values) ≡ length (w ∷ values) = whole_closed (w ∷ values) bytes.1 (sym (ends_open-at (v ∷ []) w values) ∙ closed) in
    elim (cases_Bool (ends_some (w ∷ values))) [
      | inl some ↦
          (let more : ends_some (v ∷ w ∷ values) ≡ true = ap (λ b. nat_lt v 255 || b) some ∙ or-true (nat_lt v 255) in
          omega (arith, cond-true (ends_some (v ∷ w ∷ values)) (suc (whole_values (w ∷ values))) 0 more, rest))
      | inr none ↦ absurd (omega (arith, none_whole (w ∷ values) none, rest))
    ]

pub full_values : (n : ℕ) → ends_some (replicate n 255) ≡ false
full_values zero = refl
full_values (suc n) = full_values n

pub full_sum : (n : ℕ) → sum (replicate n 255) ≡ 255 * n
full_sum n = omega (arith, sum_by-replicate (λ x. x) n 255)
