use Rattle.std.proofs.Common.{◌≡◌, ◌++◌, ◌∷◌, [], ℕ, suc, List, Bool, true, false, cond, length, take, drop, get_or, Option, Some, None, sym, ◌∙◌, ap, inl, inr, take-append-drop, drop-cons}
use Rattle.std.specs.Prelude.{nat_eq, nat_lt, slice_set, ◌||◌}
use Rattle.std.specs.List.{list_any, position, position_or_len, find}
use Rattle.std.proofs.lemmas.Bool.{cases_Bool, cond-true, eqb-true, ltb-false}
use Rattle.std.proofs.lemmas.Option.{slice_get_past}
use Rattle.std.proofs.lemmas.List.{set_split}
use Rattle.std.proofs.lemmas.List.Folds.{find_at}
use Rattle.std.proofs.lemmas.List.Quantifiers.{position-Some}
use Rattle.ogg_page.specs.Page.{Page}
use Rattle.import_gather.specs.Kept.{KeptStream, TakesPage, TakenBy}
use Rattle.import_gather.proofs.streams.take_page.Goals as goal

abbrev has : ℕ → KeptStream → Bool
has serial stream = nat_eq stream.serial serial

find_none : {A : Type 0} (p : A → Bool) (xs : List A) → list_any p xs ≡ true → find p xs ≡ None → ⊥
find_none p [] e f = cc
find_none {A = A} p (x ∷ xs) e f = by_case (p x) (list_any p xs) (find p xs) (find_none p xs) e f
  where
    by_case : (b rest : Bool) (o : Option A) → (rest ≡ true → o ≡ None → ⊥) → (b || rest) ≡ true → cond b (Some x) o ≡ None → ⊥
    by_case true rest o h e f = cc
    by_case false rest o h e f = h e f

no_place : {A : Type 0} (p : A → Bool) (xs : List A) → position p xs ≡ None → list_any p xs ≡ true → ⊥
no_place p xs e some =
    elim (cases_Bool (nat_lt (position_or_len p xs) (length xs))) [
      | inl inside ↦ some_none (sym (cond-true (nat_lt (position_or_len p xs) (length xs)) (Some (position_or_len p xs)) None inside) ∙ e)
      | inr past ↦ find_none p xs some (find_at p xs ∙ slice_get_past xs (position_or_len p xs) (ltb-false (position_or_len p xs) (length xs) past))
    ]
  where
    some_none : {n : ℕ} → Some n ≡ None → ⊥
    some_none e = cc

taken_at : (begun : Bool) (streams : List KeptStream) (place : ℕ) (changed : KeptStream) (page : Page) (later : List (List ℕ)) (d : KeptStream) → position (has page.serial) streams ≡ Some place →
    TakesPage begun page (get_or streams place d) changed later → TakenBy begun page streams (slice_set streams place changed) later
taken_at begun streams place changed page later d e t =
    let there = position-Some (has page.serial) streams place d e in record {
      front = take place streams;
      back = drop (suc place) streams;
      stream = get_or streams place d;
      changed = changed;
      was = sym (take-append-drop place streams) ∙ ap (λ l. take place streams ++ l) (drop-cons streams place d there.0);
      is = set_split streams place changed there.0;
      own = eqb-true (get_or streams place d).serial page.serial there.1;
      takes = t;
    }

pub returns-in_ok-later-in-Some-clause-takes : goal.returns-in_ok-later-in-Some-clause-takes
returns-in_ok-later-in-Some-clause-takes c = λ _.
    taken_at c.args.begun c.args.streams.now c.in-Some.place c.take_page.new.self c.args.page.now c.in_ok-later-in-Some.later.items c.index-streams-place.result
    (ap (λ s. position (has s) c.args.streams.now) (sym c.serial.ensures) ∙ sym c.in-Some.ensures)
    c.in_ok-later-in-Some.ensures.takes

pub returns-in-None-clause-takes : goal.returns-in-None-clause-takes
returns-in-None-clause-takes c = λ e. absurd (no_place (has c.args.page.now.serial) c.args.streams.now
    (ap (λ s. position (has s) c.args.streams.now) (sym c.serial.ensures) ∙ sym c.in-None.ensures) e)
