-- Lacing values of whole packets.
use Rattle.std.proofs.Common.{◌≡◌, ◌<◌, ℕ, suc, ◌+◌, Bool, true, false, cond, List, [], ◌∷◌, length, drop, refl, sym, ◌∙◌, ap, arith, get_or}
use Rattle.std.specs.Prelude.{nat_lt, ◌||◌}
use Rattle.std.proofs.Math.Seq.{drop-cons}
use Rattle.import_mend.specs.Mended.{ends_some, whole_values}

pub whole_start : (values : List ℕ) → whole_values values ≡ cond (ends_some values) (0 + whole_values values) 0
whole_start [] = refl
whole_start (value ∷ values) = by_case (ends_some (value ∷ values)) (suc (whole_values values))
  where
    by_case : (b : Bool) (n : ℕ) → cond b n 0 ≡ cond b (0 + cond b n 0) 0
    by_case true n = omega arith
    by_case false n = refl

-- the value that comes next: if no later packet ends, it is the last one if it isn't full
pub whole_next : (value : ℕ) (values : List ℕ) (i count all : ℕ) → all ≡ cond (ends_some (value ∷ values)) (i + whole_values (value ∷ values)) count →
    all ≡ cond (ends_some values) (i + 1 + whole_values values) (cond (nat_lt value 255) (i + 1) count)
whole_next value values i count all e = e ∙ by_case (nat_lt value 255) (ends_some values) (whole_values values) (whole_start values)
  where
    by_case : (small later : Bool) (w : ℕ) → w ≡ cond later (0 + w) 0 →
        cond (small || later) (i + cond (small || later) (suc w) 0) count ≡ cond later (i + 1 + w) (cond small (i + 1) count)
    by_case true true w h = omega arith
    by_case false true w h = omega arith
    by_case true false w h = omega (arith, h)
    by_case false false w h = refl

pub whole_step : (values : List ℕ) (i d count all : ℕ) → i < length values →
    all ≡ cond (ends_some (drop i values)) (i + whole_values (drop i values)) count →
    all ≡ cond (ends_some (drop (i + 1) values)) (i + 1 + whole_values (drop (i + 1) values)) (cond (nat_lt (get_or values i d) 255) (i + 1) count)
whole_step values i d count all inside e =
    let next : i + 1 ≡ suc i = omega arith in
    let split : drop i values ≡ get_or values i d ∷ drop (suc i) values = drop-cons values i d inside in
    whole_next (get_or values i d) (drop (suc i) values) i count all (e ∙ ap (λ l. cond (ends_some l) (i + whole_values l) count) split)
    ∙ ap (λ n. cond (ends_some (drop n values)) (i + 1 + whole_values (drop n values)) (cond (nat_lt (get_or values i d) 255) (i + 1) count)) (sym next)
