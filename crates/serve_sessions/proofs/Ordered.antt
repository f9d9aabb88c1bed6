-- Sessions whose numbers rise.
use Rattle.std.proofs.Common.{◌≡◌, ◌≢◌, ℕ, zero, suc, ◌+◌, ◌<◌, ◌≤◌, false, not, Option, Some, None, Result, Ok, Err, List, [], ◌∷◌, ◌++◌, length, get_or, set, take, refl, sym, ◌∙◌, ap, subst, arith, inl, inr}
use Rattle.std.specs.Prelude.{nat_eq}
use Rattle.std.specs.List.{AllByRecursion, filter, remove}
use Rattle.std.specs.List.Sorted.{IsBinarySearchResult, IsNonDecreasingBy, IsSearchInRange}
use Rattle.std.specs.Option.{option_map}
use Rattle.std.specs.Ordering.{nat_cmp, ordering_index}
use Rattle.std.proofs.lemmas.Bool.{cases_Bool, cond-true, cond-false, eqb-true, eq-eqb, ne_eqb}
use Rattle.std.proofs.lemmas.Bool.Decides.{nat_tests}
use Rattle.std.proofs.lemmas.Cmp.{ranked}
use Rattle.std.proofs.lemmas.List.{get_or_default}
use Rattle.serve_sessions.specs.Sessions.{AreInOrder, IdsRise, place_in}
use Rattle.serve_sessions.specs.declared.session.Session.{Session}
use Rattle.serve_sessions.proofs.Listed.{is_other, written_back}
use Rattle.serve_sessions.specs.Laws.Found.{map_none, none_more, none_not, some_not, some_same}

-- ---- what holds of each
all_at : (P : Session → Type 0) (parts : List Session) (place : ℕ) (d : Session) → AllByRecursion P parts → place < length parts → P (get_or parts place d)
all_at P [] place d all inside = absurd (omega (arith, inside))
all_at P (s ∷ parts) zero d all inside = all.0
all_at P (s ∷ parts) (suc place) d all inside = all_at P parts place d all.1 (omega (arith, inside))

all_weaker : (P Q : Session → Type 0) → ((s : Session) → P s → Q s) → (parts : List Session) → AllByRecursion P parts → AllByRecursion Q parts
all_weaker P Q weaker [] all = tt
all_weaker P Q weaker (s ∷ parts) all = (weaker s all.0, all_weaker P Q weaker parts all.1)

all_filtered : (P : Session → Type 0) (id : ℕ) (parts : List Session) → AllByRecursion P parts → AllByRecursion P (filter (is_other id) parts)
all_filtered P id [] all = tt
all_filtered P id (s ∷ parts) all =
    elim (cases_Bool (is_other id s)) [
      | inl e ↦ subst (AllByRecursion P) (sym (cond-true (is_other id s) (s ∷ filter (is_other id) parts) (filter (is_other id) parts) e)) (all.0, all_filtered P id parts all.1)
      | inr e ↦ subst (AllByRecursion P) (sym (cond-false (is_other id s) (s ∷ filter (is_other id) parts) (filter (is_other id) parts) e)) (all_filtered P id parts all.1)
    ]

all_appended : (P : Session → Type 0) (parts : List Session) (new : Session) → AllByRecursion P parts → P new → AllByRecursion P (parts ++ new ∷ [])
all_appended P [] new all is = (is, tt)
all_appended P (s ∷ parts) new all is = (all.0, all_appended P parts new all.1 is)

all_set : (P : Session → Type 0) (parts : List Session) (place : ℕ) (new : Session) → AllByRecursion P parts → (place < length parts → P new) → AllByRecursion P (set parts place new)
all_set P [] place new all is = tt
all_set P (s ∷ parts) zero new all is = (is (omega arith), all.1)
all_set P (s ∷ parts) (suc place) new all is = (all.0, all_set P parts place new all.1 (λ inside. is (omega (arith, inside))))

-- ---- the search
before : (parts : List Session) (i j : ℕ) (d : Session) → IdsRise parts → i < j → j < length parts → (get_or parts i d).id < (get_or parts j d).id
before [] i j d rise lt inside = absurd (omega (arith, inside))
before (s ∷ parts) zero zero d rise lt inside = absurd (omega (arith, lt))
before (s ∷ parts) zero (suc j) d rise lt inside = all_at (λ (later : Session). s.id < later.id) parts j d rise.0 (omega (arith, inside))
before (s ∷ parts) (suc i) zero d rise lt inside = absurd (omega (arith, lt))
before (s ∷ parts) (suc i) (suc j) d rise lt inside = before parts i j d rise.1 (omega (arith, lt)) (omega (arith, inside))

comparisons_rise : (id : ℕ) (parts : List Session) → IdsRise parts → IsNonDecreasingBy (λ (s : Session). ordering_index (nat_cmp s.id id)) parts
comparisons_rise id parts rise i j d le inside =
    let ids : (get_or parts i d).id ≤ (get_or parts j d).id = grind (arith, before parts i j d rise, λ (same : i ≡ j). ap (λ (k : ℕ). (get_or parts k d).id) same) in
    grind (arith, nat_tests)

not_this : (s : Session) (id : ℕ) → s.id ≢ id → nat_eq s.id id ≡ false
not_this s id other = ne_eqb s.id id other

found_at : (id place : ℕ) (parts : List Session) → IdsRise parts → place < length parts → ((d : Session) → (get_or parts place d).id ≡ id) → place_in id parts ≡ Some place
found_at id place [] rise inside is = absurd (omega (arith, inside))
found_at id zero (s ∷ parts) rise inside is =
    cond-true (nat_eq s.id id) (Some 0) (option_map (λ (k : ℕ). k + 1) (place_in id parts)) (eq-eqb s.id id (is s))
found_at id (suc place) (s ∷ parts) rise inside is =
    let within : place < length parts = omega (arith, inside) in
    let later : s.id < (get_or parts place s).id = all_at (λ (l : Session). s.id < l.id) parts place s rise.0 within in
    let same : (get_or parts place s).id ≡ id = is s in
    let next : place + 1 ≡ suc place = omega arith in
    cond-false (nat_eq s.id id) (Some 0) (option_map (λ (k : ℕ). k + 1) (place_in id parts)) (not_this s id (λ e. absurd (omega (arith, later, same, e))))
    ∙ ap (λ (o : Option ℕ). option_map (λ (k : ℕ). k + 1) o) (found_at id place parts rise.1 within is) ∙ ap (λ (k : ℕ). Some k) next

not_there : (id : ℕ) (parts : List Session) → ((place : ℕ) (d : Session) → place < length parts → (get_or parts place d).id ≢ id) → place_in id parts ≡ None
not_there id [] none = refl
not_there id (s ∷ parts) none =
    cond-false (nat_eq s.id id) (Some 0) (option_map (λ (k : ℕ). k + 1) (place_in id parts)) (not_this s id (none 0 s (omega arith)))
    ∙ ap (λ (o : Option ℕ). option_map (λ (k : ℕ). k + 1) o) (not_there id parts (λ place d inside. none (suc place) d (omega (arith, inside))))

-- what a binary search by number answers
abbrev pub answer_of : Result ℕ ℕ → Option ℕ
answer_of (Ok place) = Some place
answer_of (Err place) = None

pub searched : (id : ℕ) (parts : List Session) (r : Result ℕ ℕ) → IdsRise parts → IsSearchInRange r (length parts) → IsBinarySearchResult (λ (s : Session). nat_cmp s.id id) parts r
    → answer_of r ≡ place_in id parts
searched id parts (Ok place) rise inside equal = sym (found_at id place parts rise inside (λ d. ranked _ id _ (sym (equal d))))
searched id parts (Err gap) rise inside parted =
    let (below, above) = parted (comparisons_rise id parts rise) in
    sym (not_there id parts (λ k d within is.
    let low : k < gap → (get_or parts k d).id < id = λ lt. ranked _ id _ (sym (below k d (omega arith) lt)) in
    let high : gap ≤ k → id < (get_or parts k d).id = λ le. ranked _ id _ (sym (above k d le within)) in
    absurd (grind (arith, low, high, is))))

-- ---- what is left
no_others : (id : ℕ) (parts : List Session) → AllByRecursion (λ (s : Session). id < s.id) parts → filter (is_other id) parts ≡ parts
no_others id [] all = refl
no_others id (s ∷ parts) all =
    cond-true (is_other id s) (s ∷ filter (is_other id) parts) (filter (is_other id) parts) (ap not (not_this s id (λ e. absurd (omega (arith, all.0, e)))))
    ∙ ap (λ (l : List Session). s ∷ l) (no_others id parts all.1)

none_left : (id : ℕ) (parts : List Session) → place_in id parts ≡ None → filter (is_other id) parts ≡ parts
none_left id [] none = refl
none_left id (s ∷ parts) none =
    elim (cases_Bool (nat_eq s.id id)) [
      | inl own ↦ absurd (some_not 0 (sym (cond-true (nat_eq s.id id) (Some 0) (option_map (λ (k : ℕ). k + 1) (place_in id parts)) own) ∙ none))
      | inr other ↦
          cond-true (is_other id s) (s ∷ filter (is_other id) parts) (filter (is_other id) parts) (ap not other)
          ∙ ap (λ (l : List Session). s ∷ l) (none_left id parts (map_none (place_in id parts)
          (sym (cond-false (nat_eq s.id id) (Some 0) (option_map (λ (k : ℕ). k + 1) (place_in id parts)) other) ∙ none)))
    ]

one_left : (id place : ℕ) (parts : List Session) → IdsRise parts → place_in id parts ≡ Some place → filter (is_other id) parts ≡ remove parts place
one_left id place [] rise at = absurd (none_not place at)
one_left id place (s ∷ parts) rise at =
    elim (cases_Bool (nat_eq s.id id)) [
      | inl own ↦
          let first : 0 ≡ place = some_same 0 place (sym (cond-true (nat_eq s.id id) (Some 0) (option_map (λ (k : ℕ). k + 1) (place_in id parts)) own) ∙ at) in
          let is : s.id ≡ id = eqb-true s.id id own in
          cond-false (is_other id s) (s ∷ filter (is_other id) parts) (filter (is_other id) parts) (ap not own)
          ∙ no_others id parts (subst (λ (k : ℕ). AllByRecursion (λ (l : Session). k < l.id) parts) is rise.0) ∙ ap (λ (k : ℕ). remove (s ∷ parts) k) first
      | inr other ↦
          let (j, is, k) = none_more (place_in id parts) place (sym (cond-false (nat_eq s.id id) (Some 0) (option_map (λ (k : ℕ). k + 1) (place_in id parts)) other) ∙ at) in
          cond-true (is_other id s) (s ∷ filter (is_other id) parts) (filter (is_other id) parts) (ap not other)
          ∙ ap (λ (l : List Session). s ∷ l) (one_left id j parts rise.1 is) ∙ ap (λ (n : ℕ). remove (s ∷ parts) n) (sym k)
    ]

-- the sessions after the one with this number has ended
abbrev pub left_at : Option ℕ → List Session → List Session
left_at None parts = parts
left_at (Some place) parts = remove parts place

pub is_left : (id : ℕ) (parts : List Session) (at : Option ℕ) → IdsRise parts → place_in id parts ≡ at → filter (is_other id) parts ≡ left_at at parts
is_left id parts None rise none = none_left id parts none
is_left id parts (Some place) rise at = one_left id place parts rise at

-- ---- the order stays
rise_filtered : (id : ℕ) (parts : List Session) → IdsRise parts → IdsRise (filter (is_other id) parts)
rise_filtered id [] rise = tt
rise_filtered id (s ∷ parts) rise =
    elim (cases_Bool (is_other id s)) [
      | inl e ↦
          subst IdsRise (sym (cond-true (is_other id s) (s ∷ filter (is_other id) parts) (filter (is_other id) parts) e))
          (all_filtered (λ (later : Session). s.id < later.id) id parts rise.0, rise_filtered id parts rise.1)
      | inr e ↦ subst IdsRise (sym (cond-false (is_other id s) (s ∷ filter (is_other id) parts) (filter (is_other id) parts) e)) (rise_filtered id parts rise.1)
    ]

pub order_filtered : (id next : ℕ) (parts : List Session) → AreInOrder next parts → AreInOrder next (filter (is_other id) parts)
order_filtered id next parts order = (rise_filtered id parts order.0, all_filtered (λ (s : Session). s.id < next) id parts order.1)

rise_appended : (parts : List Session) (new : Session) → IdsRise parts → AllByRecursion (λ (s : Session). s.id < new.id) parts → IdsRise (parts ++ new ∷ [])
rise_appended [] new rise below = (tt, tt)
rise_appended (s ∷ parts) new rise below =
    (all_appended (λ (later : Session). s.id < later.id) parts new rise.0 below.0, rise_appended parts new rise.1 below.1)

pub order_appended : (parts : List Session) (new : Session) → AreInOrder new.id parts → AreInOrder (new.id + 1) (parts ++ new ∷ [])
order_appended parts new order = (
  rise_appended parts new order.0 order.1,
  all_appended (λ (s : Session). s.id < new.id + 1) parts new
      (all_weaker (λ (s : Session). s.id < new.id) (λ (s : Session). s.id < new.id + 1) (λ s lt. omega (arith, lt)) parts order.1) (omega arith),
)

pub rise_set : (parts : List Session) (place : ℕ) (new : Session) → ((d : Session) → place < length parts → new.id ≡ (get_or parts place d).id) → IdsRise parts → IdsRise (set parts place new)
rise_set [] place new own rise = tt
rise_set (s ∷ parts) zero new own rise =
    let is : new.id ≡ s.id = own s (omega arith) in
    (subst (λ (k : ℕ). AllByRecursion (λ (l : Session). k < l.id) parts) (sym is) rise.0, rise.1)
rise_set (s ∷ parts) (suc place) new own rise = (
  all_set (λ (l : Session). s.id < l.id) parts place new rise.0 (λ inside.
      subst (λ (k : ℕ). s.id < k) (sym (own s (omega (arith, inside)))) (all_at (λ (l : Session). s.id < l.id) parts place s rise.0 inside)),
  rise_set parts place new (λ d inside. own d (omega (arith, inside))) rise.1,
)

pub order_set : (next : ℕ) (parts : List Session) (place : ℕ) (new : Session) → ((d : Session) → place < length parts → new.id ≡ (get_or parts place d).id)
    → AreInOrder next parts → AreInOrder next (set parts place new)
order_set next parts place new own order = (
  rise_set parts place new own order.0,
  all_set (λ (s : Session). s.id < next) parts place new order.1 (λ inside.
      subst (λ (k : ℕ). k < next) (sym (own new inside)) (all_at (λ (s : Session). s.id < next) parts place new order.1 inside)),
)

-- the session at a place keeps its number if another stage is written there
pub same_id : (parts seen : List Session) (place : ℕ) (r d : Session) → seen ≡ parts → place < length parts → (get_or seen place r).id ≡ (get_or parts place d).id
same_id parts seen place r d same inside =
    ap (λ (s : Session). s.id) (ap (λ (l : List Session). get_or l place r) same ∙ get_or_default parts place r d inside)

-- and so the order stays, if the stage is written through a slice of the vector
module _ {n : ℕ} {parts seen : List Session} (same : seen ≡ parts) (long : n ≡ length parts) (place : ℕ) (new r : Session) (rest : List Session) (own : new.id ≡ (get_or seen place r).id) where
  pub rise_back : IdsRise parts → IdsRise (take n (set seen place new ++ rest))
  rise_back rise =
      subst IdsRise (sym (written_back n place parts seen new rest same long))
      (rise_set parts place new (λ d inside. own ∙ same_id parts seen place r d same inside) rise)

  pub order_back : (next : ℕ) → AreInOrder next parts → AreInOrder next (take n (set seen place new ++ rest))
  order_back next order =
      subst (AreInOrder next) (sym (written_back n place parts seen new rest same long))
      (order_set next parts place new (λ d inside. own ∙ same_id parts seen place r d same inside) order)
