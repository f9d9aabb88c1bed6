-- The ranges that are read are those of the grammar, both ways.
use Rattle.std.proofs.Common.{◌≡◌, ℕ, ◌+◌, List, [], ◌∷◌, ◌++◌, length, take, drop, map, true, ◌==◌, slice_index, Some, None, option_map, codes, arith, refl, ap, sym, ◌∙◌, subst, append_assoc}
use Rattle.std.proofs.lemmas.Bool.{and_parts, cond-true}
use Rattle.std.proofs.lemmas.List.{take-append-drop}
use Rattle.std.proofs.lemmas.Option.{option_and_then_some}
use Rattle.std.proofs.lemmas.Slice.Eq.{bytes_eq-Decides}
use Rattle.std.proofs.Math.Seq.{take-append_seam, drop-append-add}
use Rattle.std.specs.Char.{is_ascii_digit, to_ascii_lowercase}
use Rattle.std.specs.List.{list_all, position}
use Rattle.std.specs.Option.{option_and_then}
use Rattle.ogg_http.specs.Digits.{is_number, value_of, number_of}
use Rattle.ogg_http.specs.Range.{IsBytesUnit, IsRangeSpec, Spells, has_unit, spec_of_ends, spec_of_set, spec_of}
use Rattle.ogg_http.specs.declared.range.RangeSpec.{RangeSpec}
use Rattle.ogg_http.specs.declared.range.RangeSpec.TheVariants.{Between, From, Suffix}
use Rattle.ogg_http.proofs.Splitting.{first_behind, split_at, cond_some, map_some}

-- a number is made of digits
digits_of_number : (a : List ℕ) (n : ℕ) → number_of a ≡ Some n → list_all is_ascii_digit a ≡ true
digits_of_number a n e = (and_parts _ _ (cond_some (is_number a) (Some (value_of a)) n e).0).1

-- both sides of the dash, as the grammar has them, are read
ends_between : (a b : List ℕ) (first last : ℕ) → number_of a ≡ Some first → number_of b ≡ Some last → spec_of_ends a b ≡ Some (Between first last)
ends_between [] b first last na nb = absurd (cc na)
ends_between (x ∷ a) [] first last na nb = absurd (cc nb)
ends_between (x ∷ a) (y ∷ b) first last na nb =
    ap (option_and_then (λ f. option_map (λ l. Between f l) (number_of (y ∷ b)))) na
    ∙ ap (option_map (λ l. Between first l)) nb

ends_from : (a : List ℕ) (first : ℕ) → number_of a ≡ Some first → spec_of_ends a [] ≡ Some (From first)
ends_from [] first na = absurd (cc na)
ends_from (x ∷ a) first na = ap (option_map (λ f. From f)) na

-- the sides are those before and after the first dash
set_at : (a b : List ℕ) (spec : RangeSpec) → list_all is_ascii_digit a ≡ true → spec_of_ends a b ≡ Some spec → spec_of_set (a ++ 45 ∷ b) ≡ Some spec
set_at a b spec digits round =
    let text : List ℕ = a ++ 45 ∷ b in
    ap (option_and_then (λ i. spec_of_ends (take i text) (drop (i + 1) text))) (first_behind 45 a b digits (λ r. omega (arith, r.0, r.1)))
    ∙ ap (λ t. spec_of_ends t (drop (length a + 1) text)) (take-append_seam a (45 ∷ b))
    ∙ ap (λ t. spec_of_ends a t) (drop-append-add a (45 ∷ b) 1)
    ∙ round

set_each : (spec : RangeSpec) (set : List ℕ) → IsRangeSpec spec set → spec_of_set set ≡ Some spec
set_each (Between first last) set (a, b, na, nb, e) =
    ap spec_of_set e ∙ set_at a b (Between first last) (digits_of_number a first na) (ends_between a b first last na nb)
set_each (From first) set (a, na, e) =
    ap spec_of_set e ∙ set_at a [] (From first) (digits_of_number a first na) (ends_from a first na)
set_each (Suffix count) set (a, na, e) =
    ap spec_of_set e ∙ set_at [] a (Suffix count) refl (ap (option_map (λ c. Suffix c)) na)

-- what is read at both sides is the grammar's
ends_read : (a b : List ℕ) (spec : RangeSpec) → spec_of_ends a b ≡ Some spec → IsRangeSpec spec (a ++ 45 ∷ b)
ends_read [] b spec e =
    let (count, nb, same) = map_some (λ c. Suffix c) (number_of b) spec e in
    subst (λ s. IsRangeSpec s (45 ∷ b)) same (b, nb, refl)
ends_read (x ∷ a) [] spec e =
    let (first, na, same) = map_some (λ f. From f) (number_of (x ∷ a)) spec e in
    subst (λ s. IsRangeSpec s (x ∷ a ++ 45 ∷ [])) same (x ∷ a, na, refl)
ends_read (x ∷ a) (y ∷ b) spec e =
    option_and_then_some (λ f. option_map (λ l. Between f l) (number_of (y ∷ b))) (number_of (x ∷ a)) spec e
    (λ first na rest.
    let (last, nb, same) = map_some (λ l. Between first l) (number_of (y ∷ b)) spec rest in
    subst (λ s. IsRangeSpec s (x ∷ a ++ 45 ∷ y ∷ b)) same (x ∷ a, y ∷ b, na, nb, refl))

set_read : (spec : RangeSpec) (set : List ℕ) → spec_of_set set ≡ Some spec → IsRangeSpec spec set
set_read spec set e =
    option_and_then_some (λ i. spec_of_ends (take i set) (drop (i + 1) set)) (position (λ x. x == 45) set) spec e
    (λ i found round. subst (IsRangeSpec spec) (sym (split_at 45 set i found)) (ends_read (take i set) (drop (i + 1) set) spec round))

-- a byte whose lower case is `=` is `=`
lower_sign : (x : ℕ) → to_ascii_lowercase x ≡ 61 → x ≡ 61
lower_sign x e = grind (arith, e)

-- the unit and its sign are the first six bytes
unit_read : (t : List ℕ) → map to_ascii_lowercase t ≡ codes "bytes=" → (unit : List ℕ) × IsBytesUnit unit × (t ≡ unit ++ 61 ∷ [])
unit_read (a ∷ b ∷ c ∷ d ∷ e ∷ f ∷ []) h =
    (a ∷ b ∷ c ∷ d ∷ e ∷ [], ap (λ l. take 5 l) h, ap (λ x. a ∷ b ∷ c ∷ d ∷ e ∷ x ∷ []) (lower_sign f (ap (λ l. slice_index l 5) h)))
unit_read t h = absurd (omega (arith, ap length h))

unit_each : (unit set : List ℕ) → IsBytesUnit unit → (has_unit (unit ++ 61 ∷ set) ≡ true) × (drop 6 (unit ++ 61 ∷ set) ≡ set)
unit_each (a ∷ b ∷ c ∷ d ∷ e ∷ []) set h = ((bytes_eq-Decides _ _).1 (ap (λ l. l ++ 61 ∷ []) h), refl)
unit_each unit set h = absurd (omega (arith, ap length h))

-- what the grammar has is read
pub spec_each : (spec : RangeSpec) (text : List ℕ) → Spells spec text → spec_of text ≡ Some spec
spec_each spec text (unit, set, is_unit, is_spec, e) =
    let whole : List ℕ = unit ++ 61 ∷ set in
    let front = unit_each unit set is_unit in
    ap spec_of e ∙ cond-true (has_unit whole) (spec_of_set (drop 6 whole)) None front.0 ∙ ap spec_of_set front.1 ∙ set_each spec set is_spec

-- and what is read is in the grammar
pub spec_read : (spec : RangeSpec) (text : List ℕ) → spec_of text ≡ Some spec → Spells spec text
spec_read spec text e =
    let (unit_there, found) = cond_some (has_unit text) (spec_of_set (drop 6 text)) spec e in
    let (unit, is_unit, front) = unit_read (take 6 text) ((bytes_eq-Decides _ _).0 unit_there) in
    let whole : text ≡ unit ++ 61 ∷ drop 6 text =
    sym (take-append-drop 6 text) ∙ ap (λ t. t ++ drop 6 text) front ∙ append_assoc unit (61 ∷ []) (drop 6 text) in
    (unit, drop 6 text, is_unit, set_read spec (drop 6 text) found, whole)
