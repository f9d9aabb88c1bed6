-- The resource that a path names is the one whose path it is, both ways.
use Rattle.std.proofs.Common.{◌≡◌, ℕ, ◌+◌, ◌<◌, ◌^◌, List, ◌∷◌, ◌++◌, length, take, drop, true, not, cond, nat_lt, nat_eq, ◌==◌, ◌||◌, slice_index, Option, Some, None, option_map, codes, inl, inr, arith, refl, ap, sym, ◌∙◌}
use Rattle.std.proofs.lemmas.Bool.{and_parts, and_from, or_cases, or_left, or_right, not-true, not_from_false, eqb-true, eqb-false, eq-eqb, ne_eqb, ltb-true, lt-ltb, cases_eq, cond-true, cond_both}
use Rattle.std.proofs.lemmas.Bool.Decides.{Decides-eqb}
use Rattle.std.proofs.lemmas.Fmt.{decimal_is_IsNumeral, decimal_digit, first_decimal, decimal-digits_value}
use Rattle.std.proofs.lemmas.Option.{option_and_then_some}
use Rattle.std.proofs.lemmas.Slice.Eq.{bytes_eq-Decides, starts_is}
use Rattle.std.proofs.Math.Seq.{take-append_seam, drop-append-add}
use Rattle.std.specs.Char.{is_ascii_digit}
use Rattle.std.specs.Fmt.{decimal}
use Rattle.std.specs.List.{list_all, starts_with}
use Rattle.std.specs.Option.{option_and_then, IfSome}
use Rattle.std.specs.Str.{bytes_eq}
use Rattle.std.specs.Str.Parse.{digits_value}
use Rattle.ogg_http.specs.Digits.{is_number}
use Rattle.ogg_http.specs.Target.{IsResource, path_to, first_slash, name_of, named_by_numbers, named_by}
use Rattle.ogg_http.specs.declared.target.Resource.{Resource}
use Rattle.ogg_http.specs.declared.target.Resource.TheVariants.{List as Listing, All, Link, Stream}
use Rattle.ogg_http.proofs.Splitting.{digits_model, first_behind, nowhere, split_at, cond_some, some_injective, map_some}

-- a number is printed in digits
digits_of_decimal : (n : ℕ) → n < 2 ^ 32 → list_all is_ascii_digit (decimal n) ≡ true
digits_of_decimal n small = digits_model.from (decimal n) (decimal_is_IsNumeral n (omega (arith, small))).0.1

-- without a leading zero
no_leading_zero : (n : ℕ) → n < 2 ^ 32 → (length (decimal n) == 1 || not (slice_index (decimal n) 0 == 48)) ≡ true
no_leading_zero n small =
    elim (cases_eq n 0) [
      | inl zero_is ↦ or_left _ _ (eq-eqb _ _ (ap (λ k. length (decimal k)) zero_is ∙ ap length (decimal_digit 0 (omega arith))))
      | inr some ↦ or_right _ _ (not_from_false (slice_index (decimal n) 0 == 48) (ne_eqb (slice_index (decimal n) 0) 48 (λ e.
          let above = first_decimal n (omega (arith, some)) (omega (arith, small)) in omega (arith, e, above))))
    ]

-- the name of a number is its decimal spelling
name_each : (n : ℕ) → n < 2 ^ 32 → name_of (decimal n) ≡ Some n
name_each n small =
    let (numeral, value) = decimal_is_IsNumeral n (omega (arith, small)) in
    let number : is_number (decimal n) ≡ true = and_from _ _ (lt-ltb _ _ numeral.0) (digits_of_decimal n small) in
    let fits : nat_lt (digits_value 10 (decimal n)) (2 ^ 32) ≡ true = lt-ltb _ _ (omega (arith, value, small)) in
    cond-true _ (Some (digits_value 10 (decimal n))) None
    (and_from _ _ (and_from _ _ number (no_leading_zero n small)) fits)
    ∙ ap (λ v. Some v) value

-- a single digit may be a zero
short_zero : (text : List ℕ) → (length text == 1 || not (slice_index text 0 == 48)) ≡ true → slice_index text 0 ≡ 48 → length text ≡ 1
short_zero text test zero_first =
    elim (or_cases _ _ test) [
      | inl single ↦ eqb-true _ _ single
      | inr other ↦ absurd (eqb-false _ _ (not-true _ other) zero_first)
    ]

name_read : (text : List ℕ) (n : ℕ) → name_of text ≡ Some n → text ≡ decimal n
name_read text n e =
    let (test, same) = cond_some _ (Some (digits_value 10 text)) n e in
    let (front, fits) = and_parts _ _ test in
    let (number, short) = and_parts _ _ front in
    let (some, digits) = and_parts _ _ number in
    let small : digits_value 10 text < 2 ^ 32 = ltb-true _ _ fits in
    sym (decimal-digits_value digits_model text digits (ltb-true _ _ some) (short_zero text short) (omega (arith, small)))
    ∙ ap decimal (some_injective _ _ same)

-- the path of a resource names it
pub named_each : (resource : Resource) → IsResource resource → named_by (path_to resource) ≡ Some resource
named_each Listing small = refl
named_each All small = refl
named_each (Link link) small =
    ap (λ at. named_by_numbers at (decimal link)) (nowhere 47 (decimal link) (digits_of_decimal link small) (λ r. omega (arith, r.0, r.1)))
    ∙ ap (option_map (λ n. Link n)) (name_each link small)
named_each (Stream link serial) small =
    let text : List ℕ = decimal link ++ 47 ∷ decimal serial in
    let round : List ℕ → List ℕ → Option Resource =
    λ a b. option_and_then (λ n. option_map (λ s. Stream n s) (name_of b)) (name_of a) in
    ap (λ at. named_by_numbers at text) (first_behind 47 (decimal link) (decimal serial) (digits_of_decimal link small.0) (λ r. omega (arith, r.0, r.1)))
    ∙ ap (λ a. round a (drop (length (decimal link) + 1) text)) (take-append_seam (decimal link) (47 ∷ decimal serial))
    ∙ ap (λ b. round (decimal link) b) (drop-append-add (decimal link) (47 ∷ decimal serial) 1)
    ∙ ap (option_and_then (λ n. option_map (λ s. Stream n s) (name_of (decimal serial)))) (name_each link small.0)
    ∙ ap (option_map (λ s. Stream link s)) (name_each serial small.1)

-- what is named by numbers has its path
numbers_read : (text : List ℕ) (at : Option ℕ) (resource : Resource) → first_slash text ≡ at → named_by_numbers at text ≡ Some resource → codes "/link/" ++ text ≡ path_to resource
numbers_read text None resource found e =
    let (link, named, same) = map_some (λ n. Link n) (name_of text) resource e in
    ap (λ t. codes "/link/" ++ t) (name_read text link named) ∙ ap path_to same
numbers_read text (Some at) resource found e =
    option_and_then_some (λ n. option_map (λ s. Stream n s) (name_of (drop (at + 1) text))) (name_of (take at text)) resource e
    (λ link first rest.
    let (serial, second, same) = map_some (λ s. Stream link s) (name_of (drop (at + 1) text)) resource rest in
    let parts : text ≡ decimal link ++ 47 ∷ decimal serial =
    split_at 47 text at found
    ∙ ap (λ t. t ++ 47 ∷ drop (at + 1) text) (name_read _ link first)
    ∙ ap (λ t. decimal link ++ 47 ∷ t) (name_read _ serial second) in
    ap (λ t. codes "/link/" ++ t) parts ∙ ap path_to same)

-- what a path names has that path
named_read : (path : List ℕ) (resource : Resource) → named_by path ≡ Some resource → path ≡ path_to resource
named_read path resource =
    let Reads : Option Resource → Type 0 = λ named. named ≡ Some resource → path ≡ path_to resource in
    let by_numbers : Option Resource = named_by_numbers (first_slash (drop 6 path)) (drop 6 path) in
    let behind_all : Option Resource = cond (starts_with nat_eq path (codes "/link/")) by_numbers None in
    let behind_root : Option Resource = cond (bytes_eq path (codes "/all")) (Some All) behind_all in
    cond_both (bytes_eq path (codes "/")) (Some Listing) behind_root Reads
    (λ test e. (bytes_eq-Decides _ _).0 test ∙ ap path_to (some_injective Listing resource e))
    (λ _. cond_both (bytes_eq path (codes "/all")) (Some All) behind_all Reads
    (λ test e. (bytes_eq-Decides _ _).0 test ∙ ap path_to (some_injective All resource e))
    (λ _. cond_both (starts_with nat_eq path (codes "/link/")) by_numbers None Reads
    (λ test e. (starts_is Decides-eqb path (codes "/link/") _ refl).0 test ∙ numbers_read (drop 6 path) _ resource refl e)
    (λ _ e. absurd (cc e))))

-- the same of what was found, if anything
pub found_has_path : (path : List ℕ) (found : Option Resource) → found ≡ named_by path → IfSome found (λ resource. path ≡ path_to resource)
found_has_path path None e = tt
found_has_path path (Some resource) e = named_read path resource (sym e)
