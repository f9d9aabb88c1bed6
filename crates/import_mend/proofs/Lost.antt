-- How many pages of each stream were lost, after one more page.
use Rattle.std.proofs.Common.{◌≡◌, ℕ, ◌+◌, ◌≤◌, ◌<◌, Bool, true, false, cond, List, [], ◌∷◌, length, map, Option, Some, None, get_or, refl, sym, ◌∙◌, ap, arith, inl, inr}
use Rattle.std.specs.Prelude.{nat_eq, nat_lt, not}
use Rattle.std.specs.List.{position_or_len}
use Rattle.std.proofs.lemmas.Bool.{cases_Bool, cond-true, eqb-true, ltb-false}
use Rattle.std.proofs.lemmas.List.{get_or-set_same, get_or-set_other}
use Rattle.std.proofs.lemmas.List.Folds.{find_at}
use Rattle.std.proofs.lemmas.List.Quantifiers.{position-Some}
use Rattle.std.proofs.lemmas.Option.{slice_get_past}
use Rattle.link_chain.specs.declared.stream_state.StreamState.{StreamState}
use Rattle.link_chain.specs.Progress.{stream_in}
use Rattle.link_chain.specs.Laws.OwnSerials.{serial_in}
use Rattle.import_mend.specs.Losses.{lost_at, lost_in, place_in, with_lost, with_lost_at}

abbrev of : ℕ → StreamState → Bool
of serial stream = nat_eq stream.serial serial

-- the places depend on the serials alone
place_len : (serial : ℕ) (xs ys : List StreamState) → map serial_in ys ≡ map serial_in xs → (position_or_len (of serial) ys ≡ position_or_len (of serial) xs) × (length ys ≡ length xs)
place_len serial [] [] e = (refl, refl)
place_len serial [] (y ∷ ys) e = cc
place_len serial (x ∷ xs) [] e = cc
place_len serial (x ∷ xs) (y ∷ ys) e =
    let parts : (y.serial ≡ x.serial) × (map serial_in ys ≡ map serial_in xs) = two y.serial x.serial (map serial_in ys) (map serial_in xs) e in
    let rest = place_len serial xs ys parts.1 in (
      step (nat_eq y.serial serial) (nat_eq x.serial serial) (position_or_len (of serial) ys) (position_or_len (of serial) xs) (ap (λ n. nat_eq n serial) parts.0) rest.0,
      omega (arith, rest.1),
    )
  where
    two : (a b : ℕ) (l m : List ℕ) → a ∷ l ≡ b ∷ m → (a ≡ b) × (l ≡ m)
    two a b l m f = (cc, cc)

    step : (a b : Bool) (m n : ℕ) → a ≡ b → m ≡ n → cond (not a) (1 + m) 0 ≡ cond (not b) (1 + n) 0
    step a b m n f g = ap (λ c. cond (not c) (1 + m) 0) f ∙ ap (λ k. cond (not b) (1 + k) 0) g

pub same_place : (serial : ℕ) (xs ys : List StreamState) → map serial_in ys ≡ map serial_in xs → place_in ys serial ≡ place_in xs serial
same_place serial xs ys e =
    let same = place_len serial xs ys e in
    ap (λ n. cond (nat_lt n (length ys)) (Some n) None) same.0 ∙ ap (λ n. cond (nat_lt (position_or_len (of serial) xs) n) (Some (position_or_len (of serial) xs)) None) same.1

-- a stream that is there has a place
no_place : (serial : ℕ) (streams : List StreamState) (stream : StreamState) → stream_in streams serial ≡ Some stream → place_in streams serial ≡ None → ⊥
no_place serial streams stream known none =
    elim (cases_Bool (nat_lt (position_or_len (of serial) streams) (length streams))) [
      | inl inside ↦ some_none (sym (cond-true (nat_lt (position_or_len (of serial) streams) (length streams)) (Some (position_or_len (of serial) streams)) None inside) ∙ none)
      | inr past ↦
          none_some (sym (find_at (of serial) streams ∙ slice_get_past streams (position_or_len (of serial) streams) (ltb-false (position_or_len (of serial) streams) (length streams) past)) ∙ known)
    ]
  where
    some_none : {n : ℕ} → Some n ≡ None → ⊥
    some_none e = cc

    none_some : {s : StreamState} → None ≡ Some s → ⊥
    none_some e = cc

-- what is set is there
pub lost_own : (losses : List ℕ) (streams : List StreamState) (serial count : ℕ) (stream : StreamState) → stream_in streams serial ≡ Some stream → length streams ≤ length losses →
    lost_in (with_lost losses streams serial count) streams serial ≡ count
lost_own losses streams serial count stream known few = at (place_in streams serial) refl
  where
    at : (o : Option ℕ) → place_in streams serial ≡ o → lost_at (with_lost_at losses count o) o ≡ count
    at None e = absurd (no_place serial streams stream known e)
    at (Some i) e =
        let inside : i < length streams = (position-Some (of serial) streams i stream e).0 in
        get_or-set_same losses i count 0 (omega (arith, inside, few))

-- and the others stay
pub lost_other : (losses : List ℕ) (streams : List StreamState) (serial other count : ℕ) → (other ≡ serial → ⊥) → lost_in (with_lost losses streams serial count) streams other ≡ lost_in losses streams other
lost_other losses streams serial other count ne = at (place_in streams serial) refl (place_in streams other) refl
  where
    at : (o : Option ℕ) → place_in streams serial ≡ o → (p : Option ℕ) → place_in streams other ≡ p → lost_at (with_lost_at losses count o) p ≡ lost_at losses p
    at None e p f = refl
    at (Some i) e None f = refl
    at (Some i) e (Some j) f = get_or-set_other losses i j count 0 (λ same. apart i j e f same)
      where
        apart : (i j : ℕ) → place_in streams serial ≡ Some i → place_in streams other ≡ Some j → j ≡ i → ⊥
        apart i j e f same =
            let nobody : StreamState = record { serial = 0; next_sequence = 0; last_position = 0; ended = false; finished = true } in
            let here = (position-Some (of serial) streams i nobody e).1 in
            let there = (position-Some (of other) streams j nobody f).1 in
            ne (sym (eqb-true (get_or streams j nobody).serial other there) ∙ ap (λ n. (get_or streams n nobody).serial) same ∙ eqb-true (get_or streams i nobody).serial serial here)
