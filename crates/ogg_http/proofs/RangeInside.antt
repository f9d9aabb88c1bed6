-- What a range asks for lies in its representation.
use Rattle.std.proofs.Common.{ℕ, ◌-◌, ◌<◌, cond, min, Option, Some, None, List, arith}
use Rattle.std.specs.Option.{option_map_or}
use Rattle.std.specs.Prelude.{nat_lt, nat_le, ◌==◌}
use Rattle.std.proofs.lemmas.Bool.{cond_both, ltb-false, leb-false, eqb-false}
use Rattle.ogg_http.specs.Range.{selected, spec_of, range_of, LiesIn}
use Rattle.ogg_http.specs.declared.range.RangeSpec.{RangeSpec}
use Rattle.ogg_http.specs.declared.range.RangeSpec.TheVariants.{Between, From, Suffix}
use Rattle.ogg_http.specs.declared.range.Ranged.TheVariants.{Whole, Part, Unsatisfiable}

selected_inside : (spec : RangeSpec) (len : ℕ) → 0 < len → LiesIn len (selected spec len)
selected_inside (Between first last) len some =
    cond_both (nat_lt last first) Whole (cond (nat_le len first) Unsatisfiable (Part first (min last (len - 1)))) (LiesIn len) (λ e. tt)
    (λ ordered. cond_both (nat_le len first) Unsatisfiable (Part first (min last (len - 1))) (LiesIn len) (λ e. tt)
    (λ inside. let a = ltb-false last first ordered in let b = leb-false len first inside in (omega (arith, a, b, some), omega (arith, a, b, some))))
selected_inside (From first) len some =
    cond_both (nat_le len first) Unsatisfiable (Part first (len - 1)) (LiesIn len) (λ e. tt)
    (λ inside. let b = leb-false len first inside in (omega (arith, b, some), omega (arith, b, some)))
selected_inside (Suffix count) len some =
    cond_both (count == 0) Unsatisfiable (Part (len - min count len) (len - 1)) (LiesIn len) (λ e. tt)
    (λ not_none. let n = eqb-false count 0 not_none in (omega (arith, some, n), omega (arith, some)))

pub range_inside : (text : List ℕ) (len : ℕ) → LiesIn len (range_of text len)
range_inside text len =
    cond_both (len == 0) Whole (option_map_or (λ spec. selected spec len) (spec_of text) Whole) (LiesIn len) (λ e. tt)
    (λ some. let n = eqb-false len 0 some in at (spec_of text) (omega (arith, n)))
  where
    at : (spec : Option RangeSpec) → 0 < len → LiesIn len (option_map_or (λ s. selected s len) spec Whole)
    at None some = tt
    at (Some spec) some = selected_inside spec len some
