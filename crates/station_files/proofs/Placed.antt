-- The first station with a number, and what stands at a place.
use Rattle.std.proofs.Common.{◌≡◌, ◌≢◌, ℕ, zero, suc, ◌+◌, ◌<◌, ◌≤◌, Some, None, List, [], ◌∷◌, ◌++◌, length, drop, get_or, refl, sym, ◌∙◌, ap, Bool, true, false, inl, inr, arith}
use Rattle.std.proofs.lemmas.Bool.Decides.{eqb_tells}
use Rattle.std.specs.Prelude.{fold, if◌then◌else◌, nat_eq, slice_get, slice_set}
use Rattle.std.proofs.lemmas.List.{drop_all, drop_more}
use Rattle.station_files.specs.Places.{place_from}
use Rattle.station_files.specs.declared.seats.Past.{Past}

is_equal : (one other : ℕ) → one ≡ other → nat_eq one other ≡ true
is_equal one other same = elim (eqb_tells one other) [
  | inl is ↦ is.0
  | inr isnt ↦ absurd (isnt.1 same)
]

is_other : (one other : ℕ) → one ≢ other → nat_eq one other ≡ false
is_other one other differ = elim (eqb_tells one other) [
  | inl is ↦ absurd (differ is.1)
  | inr isnt ↦ isnt.0
]

module _ {D : Type 0} where
  -- it is the one at the front, or it is behind that
  place_next : (number first at : ℕ) (past : List (Past D)) (one : Past D) → at < length past → one ≡ get_or past at one
      → place_from number first (drop at past) ≡ (if nat_eq one.number number then Some first else place_from number (first + 1) (drop (at + 1) past))
  place_next number first at past one below is =
      ap (place_from number first) (drop_more past at one below ∙ ap (λ (it : Past D). it ∷ drop (at + 1) past) (sym is))

  pub place_here : (number first at : ℕ) (past : List (Past D)) (one : Past D) → at < length past → one ≡ get_or past at one
      → one.number ≡ number → place_from number first (drop at past) ≡ Some first
  place_here number first at past one below is same =
      place_next number first at past one below is
      ∙ ap (λ (b : Bool). if b then Some first else place_from number (first + 1) (drop (at + 1) past)) (is_equal one.number number same)

  pub place_later : (number first at : ℕ) (past : List (Past D)) (one : Past D) → at < length past → one ≡ get_or past at one
      → one.number ≢ number → place_from number first (drop at past) ≡ place_from number (first + 1) (drop (at + 1) past)
  place_later number first at past one below is other =
      place_next number first at past one below is
      ∙ ap (λ (b : Bool). if b then Some first else place_from number (first + 1) (drop (at + 1) past)) (is_other one.number number other)

  pub place_end : (number first at : ℕ) (past : List (Past D)) → length past ≤ at → place_from number first (drop at past) ≡ None
  place_end number first at past end = ap (place_from number first) (drop_all at past end)

module _ {A : Type 0} where
  pub stands : (xs : List A) (at : ℕ) (x : A) → at < length xs → x ≡ get_or xs at x → slice_get xs at ≡ Some x
  stands [] at x below is = absurd (omega (arith, below))
  stands (y ∷ xs) zero x below is = ap Some (sym is)
  stands (y ∷ xs) (suc at) x below is = stands xs at x (omega (arith, below)) is

  pub some_same : (x y : A) → Some x ≡ Some y → x ≡ y
  some_same x y is = cc

  pub no_item : (x : A) → Some x ≡ None → ⊥
  no_item x is = cc

  pub same_item : (xs : List A) (at : ℕ) (one lent : A) → slice_get xs at ≡ Some one → lent ≡ get_or xs at lent → lent ≡ one
  same_item [] at one lent found is = absurd (let none : None ≡ Some one = found in cc)
  same_item (y ∷ xs) zero one lent found is = is ∙ some_same y one found
  same_item (y ∷ xs) (suc at) one lent found is = same_item xs at one lent found is

  pub is_within : (xs : List A) (at : ℕ) (one : A) → slice_get xs at ≡ Some one → at < length xs
  is_within [] at one found = absurd (let none : None ≡ Some one = found in cc)
  is_within (y ∷ xs) zero one found = omega arith
  is_within (y ∷ xs) (suc at) one found = (let below = is_within xs at one found in omega (arith, below))

  pub is_behind : (xs : List A) (at : ℕ) → slice_get xs at ≡ None → length xs ≤ at
  is_behind [] at found = omega arith
  is_behind (y ∷ xs) zero found = absurd (let some : Some y ≡ None = found in cc)
  is_behind (y ∷ xs) (suc at) found = (let end = is_behind xs at found in omega (arith, end))

  pub ends : (xs : List A) (at : ℕ) → length xs ≤ at → slice_get xs at ≡ None
  ends [] at behind = refl
  ends (y ∷ xs) zero behind = absurd (omega (arith, behind))
  ends (y ∷ xs) (suc at) behind = ends xs at (omega (arith, behind))

  pub fold_next : {B : Type 0} (f : B → A → B) (b : B) (xs : List A) (at : ℕ) (x : A) → at < length xs → x ≡ get_or xs at x
      → fold f b (drop at xs) ≡ fold f (f b x) (drop (at + 1) xs)
  fold_next f b xs at x below is = ap (fold f b) (drop_more xs at x below ∙ ap (λ (it : A). it ∷ drop (at + 1) xs) (sym is))

  pub fold_end : {B : Type 0} (f : B → A → B) (b : B) (xs : List A) (at : ℕ) → length xs ≤ at → fold f b (drop at xs) ≡ b
  fold_end f b xs at end = ap (fold f b) (drop_all at xs end)

  pub at_front : (xs : List A) (k : ℕ) (x : A) (later : List A) → drop k xs ≡ x ∷ later → slice_get xs k ≡ Some x
  at_front [] zero x later is = absurd (let no : [] ≡ x ∷ later = is in cc)
  at_front [] (suc k) x later is = absurd (let no : [] ≡ x ∷ later = is in cc)
  at_front (y ∷ xs) zero x later is = ap Some (let same : y ∷ xs ≡ x ∷ later = is in cc)
  at_front (y ∷ xs) (suc k) x later is = at_front xs k x later is

  pub set_same : (xs : List A) (k : ℕ) (x : A) → x ≡ get_or xs k x → slice_set xs k x ≡ xs
  set_same [] k x is = refl
  set_same (y ∷ xs) zero x is = ap (λ (it : A). it ∷ xs) is
  set_same (y ∷ xs) (suc k) x is = ap (λ (rest : List A). y ∷ rest) (set_same xs k x is)

  pub at_end : (front : List A) (x : A) → slice_get (front ++ x ∷ []) (length front) ≡ Some x
  at_end [] x = refl
  at_end (y ∷ front) x = at_end front x

  pub set_end : (front : List A) (x new : A) → slice_set (front ++ x ∷ []) (length front) new ≡ front ++ new ∷ []
  set_end [] x new = refl
  set_end (y ∷ front) x new = ap (λ (rest : List A). y ∷ rest) (set_end front x new)

  pub one_more : (front : List A) (x : A) → length (front ++ x ∷ []) ≡ length front + 1
  one_more [] x = refl
  one_more (y ∷ front) x = (let more = one_more front x in omega (arith, more))
