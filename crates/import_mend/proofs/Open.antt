-- The first stream that hasn't ended.
use Rattle.std.proofs.Common.{◌≡◌, Bool, true, false, List, [], ◌∷◌, Option, Some, None, map, cond, refl, sym, ◌∙◌, ap, inl, inr}
use Rattle.std.specs.Prelude.{nat_eq, not, IfSome, ◌||◌}
use Rattle.std.specs.List.{IsDistinct, filter, find, list_any, position_or_len}
use Rattle.std.proofs.lemmas.Bool.{cases_Bool, cond-true, cond-false, eq-eqb}
use Rattle.std.proofs.lemmas.List.Folds.{find_at}
use Rattle.link_chain.specs.declared.stream_state.StreamState.{StreamState}
use Rattle.link_chain.specs.Places.{HaveOwnSerials}
use Rattle.link_chain.specs.Progress.{change_at, stream_in}
use Rattle.link_chain.specs.Laws.OwnSerials.{found_there, lacking_stay}
use Rattle.import_mend.proofs.Fits.{some_same}

abbrev unended : StreamState → Bool
unended stream = not stream.ended

abbrev pub IsOpenStream : List StreamState → StreamState → Type 0
IsOpenStream streams stream = (stream.ended ≡ false) × (stream_in streams stream.serial ≡ Some stream)

passes : (streams : List StreamState) (stream : StreamState) → find unended streams ≡ Some stream → unended stream ≡ true
passes [] stream e = cc
passes (x ∷ xs) stream e =
    elim (cases_Bool (unended x)) [
      | inl yes' ↦ ap unended (some_same (sym e ∙ cond-true (unended x) (Some x) (find unended xs) yes')) ∙ yes'
      | inr no' ↦ passes xs stream (sym (cond-false (unended x) (Some x) (find unended xs) no') ∙ e)
    ]
  where
    some_same : {a b : StreamState} → Some a ≡ Some b → a ≡ b
    some_same e = cc

pub found_open : (streams : List StreamState) (found : Option StreamState) → HaveOwnSerials streams → found ≡ find unended streams → IfSome found (IsOpenStream streams)
found_open streams None own e = tt
found_open streams (Some stream) own e = (
  not_false stream.ended (passes streams stream (sym e)),
  sym (found_there stream.serial streams (position_or_len unended streams) stream own (sym (find_at unended streams) ∙ sym e) refl)
      ∙ sym (find_at unended streams) ∙ sym e,
)
  where
    not_false : (b : Bool) → not b ≡ true → b ≡ false
    not_false true e = cc
    not_false false e = refl

pub none_open : (streams : List StreamState) → find unended streams ≡ None → list_any unended streams ≡ false
none_open [] e = refl
none_open (x ∷ xs) e =
    elim (cases_Bool (unended x)) [
      | inl yes' ↦ absurd (some_none (sym (cond-true (unended x) (Some x) (find unended xs) yes') ∙ e))
      | inr no' ↦ ap (λ b. b || list_any unended xs) no' ∙ none_open xs (sym (cond-false (unended x) (Some x) (find unended xs) no') ∙ e)
    ]
  where
    some_none : Some x ≡ None → ⊥
    some_none e = cc

-- ---- the first open stream is ended
none_left : (x : StreamState) (xs : List StreamState) → unended x ≡ false → filter unended (x ∷ xs) ≡ filter unended xs
none_left x xs e = cond-false (unended x) (x ∷ filter unended xs) (filter unended xs) e

one_left : (x : StreamState) (xs : List StreamState) → unended x ≡ true → filter unended (x ∷ xs) ≡ x ∷ filter unended xs
one_left x xs e = cond-true (unended x) (x ∷ filter unended xs) (filter unended xs) e

-- the others stay as they were
pub ends_first : (change : StreamState → StreamState) → ((s : StreamState) → s.ended ≡ true → (change s).ended ≡ true) → (streams : List StreamState) (stream : StreamState) → HaveOwnSerials streams
    → (change stream).ended ≡ true → find unended streams ≡ Some stream →
    filter unended streams ≡ stream ∷ filter unended (map (change_at stream.serial change) streams)
unfolding IsDistinct
ends_first change keeps [] stream own ends e = cc
ends_first change keeps (x ∷ xs) stream own ends e =
    let x' : StreamState = change_at stream.serial change x in
    let xs' : List StreamState = map (change_at stream.serial change) xs in
    elim (cases_Bool (unended x)) [
      | inl here ↦
          (let is : x ≡ stream = some_same (sym (cond-true (unended x) (Some x) (find unended xs) here) ∙ e) in
          let changed : x' ≡ change x = cond-true (nat_eq x.serial stream.serial) (change x) x (eq-eqb x.serial stream.serial (ap (λ (s : StreamState). s.serial) is)) in
          let closed : unended x' ≡ false = ap unended changed ∙ ap (λ (s : StreamState). unended (change s)) is ∙ ap not ends in
          let rest : xs' ≡ xs = ap (λ (s : StreamState). map (change_at s.serial change) xs) (sym is) ∙ lacking_stay x.serial change xs own.0 in
          one_left x xs here ∙ ap (λ s. s ∷ filter unended xs) is ∙ ap (λ l. stream ∷ filter unended l) (sym rest) ∙ ap (λ l. stream ∷ l) (sym (none_left x' xs' closed)))
      | inr gone ↦
          (let was : x.ended ≡ true = not_false x.ended gone in
          let closed : unended x' ≡ false = ap not (stays (nat_eq x.serial stream.serial) was) in
          none_left x xs gone
          ∙ ends_first change keeps xs stream own.1 ends (sym (cond-false (unended x) (Some x) (find unended xs) gone) ∙ e)
          ∙ ap (λ l. stream ∷ l) (sym (none_left x' xs' closed)))
    ]
  where
    not_false : (b : Bool) → not b ≡ false → b ≡ true
    not_false true e = refl
    not_false false e = cc

    stays : (b : Bool) → x.ended ≡ true → (cond b (change x) x).ended ≡ true
    stays true was = keeps x was
    stays false was = was

-- if none is open, none is left to end
pub none_unended : (streams : List StreamState) → list_any unended streams ≡ false → filter unended streams ≡ []
none_unended [] e = refl
none_unended (x ∷ xs) e =
    let parts : (unended x ≡ false) × (list_any unended xs ≡ false) = or_none (unended x) (list_any unended xs) e in
    none_left x xs parts.0 ∙ none_unended xs parts.1
  where
    or_none : (a b : Bool) → (a || b) ≡ false → (a ≡ false) × (b ≡ false)
    or_none true b e = cc
    or_none false b e = (refl, e)
