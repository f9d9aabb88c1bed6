-- The methods at the front of a request differ in their first bytes.
use Rattle.std.proofs.Common.{◌≡◌, ℕ, Bool, true, false, List, [], ◌∷◌, ◌++◌, ◌⊎◌, length, drop, nat_eq, slice_index, codes, arith, refl, ap, ◌∙◌, inl, inr, append-nil, append_assoc}
use Rattle.std.proofs.lemmas.Bool.{or_cases}
use Rattle.std.proofs.lemmas.Bool.Decides.{Decides-eqb}
use Rattle.std.proofs.lemmas.Slice.Eq.{starts_is}
use Rattle.std.specs.List.{starts_with}
use Rattle.serve_sources.specs.Asking.{listener_method, is_source, may_be_source}

-- the text begins with these bytes
pub begins : (text front : List ℕ) → starts_with nat_eq text front ≡ true → text ≡ front ++ drop (length front) text
begins text front test = (starts_is Decides-eqb text front _ refl).0 test

-- two texts that begin in different ways have no common front
first_differs : (a b : ℕ) (p q s t : List ℕ) → (a ∷ p) ++ s ≡ (b ∷ q) ++ t → a ≡ b
first_differs a b p q s t e = ap (λ l. slice_index l 0) e

pub first_of : (c : ℕ) (p front : List ℕ) → starts_with nat_eq front (c ∷ p) ≡ true → slice_index front 0 ≡ c
first_of c p front test = ap (λ l. slice_index l 0) (begins front (c ∷ p) test)

-- GET isn't HEAD
pub one_method : (front : List ℕ) (head other : Bool) → starts_with nat_eq front (listener_method head) ≡ true → starts_with nat_eq front (listener_method other) ≡ true → head ≡ other
one_method front false false a b = refl
one_method front true true a b = refl
one_method front false true a b =
    absurd (omega (arith, first_of 71 (codes "ET ") front a, first_of 72 (codes "EAD ") front b))
one_method front true false a b =
    absurd (omega (arith, first_of 72 (codes "EAD ") front a, first_of 71 (codes "ET ") front b))

-- a listener's method begins no source's
starts_as : (c m : ℕ) (p q front : List ℕ) → starts_with nat_eq front (c ∷ p) ≡ true → starts_with nat_eq (m ∷ q) front ≡ true → m ≡ c
starts_as c m p q front a b =
    first_differs m c q p [] _ (append-nil (m ∷ q) ∙ begins (m ∷ q) front b ∙ ap (λ f. f ++ drop (length front) (m ∷ q)) (begins front (c ∷ p) a) ∙ append_assoc (c ∷ p) _ _)

pub listens_or_feeds : (front : List ℕ) (head : Bool) → starts_with nat_eq front (listener_method head) ≡ true → may_be_source front ≡ true → ⊥
listens_or_feeds front false a b =
    elim (or_cases _ _ b) [
      | inl put ↦ absurd (omega (arith, starts_as 71 80 (codes "ET ") (codes "UT ") front a put))
      | inr source ↦ absurd (omega (arith, starts_as 71 83 (codes "ET ") (codes "OURCE ") front a source))
    ]
listens_or_feeds front true a b =
    elim (or_cases _ _ b) [
      | inl put ↦ absurd (omega (arith, starts_as 72 80 (codes "EAD ") (codes "UT ") front a put))
      | inr source ↦ absurd (omega (arith, starts_as 72 83 (codes "EAD ") (codes "OURCE ") front a source))
    ]

-- and a source's method isn't a listener's
pub feeds_or_listens : (front : List ℕ) (head : Bool) → is_source front ≡ true → starts_with nat_eq front (listener_method head) ≡ true → ⊥
feeds_or_listens front head source listens =
    elim (or_cases _ _ source) [
      | inl put ↦ differ head 80 (first_of 80 (codes "UT ") front put) (inl refl) listens
      | inr other ↦ differ head 83 (first_of 83 (codes "OURCE ") front other) (inr refl) listens
    ]
  where
    differ : (h : Bool) (c : ℕ) → slice_index front 0 ≡ c → (c ≡ 80) ⊎ (c ≡ 83) → starts_with nat_eq front (listener_method h) ≡ true → ⊥
    differ false c first is test = absurd (omega (arith, first, is, first_of 71 (codes "ET ") front test))
    differ true c first is test = absurd (omega (arith, first, is, first_of 72 (codes "EAD ") front test))
