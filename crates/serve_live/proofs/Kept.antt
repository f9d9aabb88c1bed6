-- The boundaries that are kept are those that a listener may still need, and the first of them is the newest that has
-- enough bytes after it.
use Rattle.std.proofs.Common.{◌≡◌, ℕ, ◌+◌, ◌-◌, ◌*◌, ◌≤◌, ◌<◌, Bool, true, false, Option, Some, List, [], ◌∷◌, ◌++◌, length, drop, refl, sym, ◌∙◌, ap, subst, arith, append_assoc, length-append, inl, inr}
use Rattle.std.specs.Prelude.{nat_le}
use Rattle.std.proofs.lemmas.Bool.{cases_Bool, cond-true, cond-false, leb-true, leb-false, le-leb, lt-leb}
use Rattle.std.proofs.lemmas.List.{append-nil}
use Rattle.circular_buffer.specs.Buffer.{keep_last}
use Rattle.serve_live.specs.Boundaries.{AreSpaced, BoundariesState, ahead, begun_at, forgotten, gone_on, gone_on_by, last_of, newest, place_at, place_to_join, with_another}
use Rattle.serve_live.specs.declared.listener.JoinPlace.{JoinPlace}

-- whether enough bytes are committed after the place
abbrev far : ℕ → ℕ → Bool
far end place = nat_le ahead (end - place)

still_far : (end last place : ℕ) → last ≤ end → far last place ≡ true → far end place ≡ true
still_far end last place le e =
    let enough : ahead ≤ last - place = leb-true ahead (last - place) e in
    le-leb ahead (end - place) (omega (arith, enough, le))

none_far : (end place next : ℕ) → place ≤ next → far end place ≡ false → far end next ≡ false
none_far end place next le e =
    let few : end - place < ahead = leb-false ahead (end - place) e in
    lt-leb ahead (end - next) (omega (arith, few, le))

-- ---- forgetting in steps
in_steps : (end last : ℕ) (places : List ℕ) → last ≤ end → forgotten end (forgotten last places ++ end ∷ []) ≡ forgotten end (places ++ end ∷ [])
in_steps end last [] le = refl
in_steps end last (place ∷ []) le = refl
in_steps end last (place ∷ next ∷ places) le =
    elim (cases_Bool (far last next)) [
      | inl yes' ↦
          ap (λ l. forgotten end (l ++ end ∷ [])) (cond-true (far last next) (forgotten last (next ∷ places)) (place ∷ next ∷ places) yes')
          ∙ in_steps end last (next ∷ places) le
          ∙ sym (cond-true (far end next) (forgotten end (next ∷ (places ++ end ∷ []))) (place ∷ next ∷ (places ++ end ∷ [])) (still_far end last next le yes'))
      | inr no' ↦ ap (λ l. forgotten end (l ++ end ∷ [])) (cond-false (far last next) (forgotten last (next ∷ places)) (place ∷ next ∷ places) no')
    ]

-- ---- how many are kept
spread : (place : ℕ) (places : List ℕ) → AreSpaced place places → place + 27 * length places ≤ last_of place places
spread place [] h = omega arith
spread place (next ∷ places) h = omega (arith, h.0, spread next places h.1)

few_kept : (place : ℕ) (places : List ℕ) → AreSpaced place places → length (forgotten (last_of place places) (place ∷ places)) ≤ 2429
unfolding ahead
few_kept place [] h = omega arith
few_kept place (next ∷ places) h =
    let last : ℕ = last_of next places in
    elim (cases_Bool (far last next)) [
      | inl yes' ↦
          subst (λ (l : List ℕ). length l ≤ 2429) (sym (cond-true (far last next) (forgotten last (next ∷ places)) (place ∷ next ∷ places) yes'))
          (few_kept next places h.1)
      | inr no' ↦
          (let few : last - next < 65536 = leb-false 65536 (last - next) no' in
          subst (λ (l : List ℕ). length l ≤ 2429) (sym (cond-false (far last next) (forgotten last (next ∷ places)) (place ∷ next ∷ places) no'))
          (omega (arith, few, spread next places h.1)))
    ]

all_kept : (room : ℕ) (places : List ℕ) → length places ≤ room → keep_last room places ≡ places
all_kept room places le = ap (λ n. drop n places) (let e : length places - room ≡ 0 = omega (arith, le) in e)

some_kept : (end last place : ℕ) (places : List ℕ) → with_another end (forgotten last (place ∷ places)) ≡ forgotten end (keep_last 2430 (forgotten last (place ∷ places) ++ end ∷ []))
some_kept end last place [] = refl
some_kept end last place (next ∷ places) =
    elim (cases_Bool (far last next)) [
      | inl yes' ↦
          (let is : forgotten last (place ∷ next ∷ places) ≡ forgotten last (next ∷ places) =
          cond-true (far last next) (forgotten last (next ∷ places)) (place ∷ next ∷ places) yes' in
          ap (with_another end) is ∙ some_kept end last next places ∙ ap (λ l. forgotten end (keep_last 2430 (l ++ end ∷ []))) (sym is))
      | inr no' ↦
          (let is : forgotten last (place ∷ next ∷ places) ≡ place ∷ next ∷ places =
          cond-false (far last next) (forgotten last (next ∷ places)) (place ∷ next ∷ places) no' in
          ap (with_another end) is ∙ ap (λ l. forgotten end (keep_last 2430 (l ++ end ∷ []))) (sym is))
    ]

-- ---- one boundary after the other
spaced_front : (place : ℕ) (places more : List ℕ) → AreSpaced place (places ++ more) → AreSpaced place places
spaced_front place [] more h = tt
spaced_front place (next ∷ places) more h = (h.0, spaced_front next places more h.1)

last_push : (place : ℕ) (places : List ℕ) (end : ℕ) → last_of place (places ++ end ∷ []) ≡ end
last_push place [] end = refl
last_push place (next ∷ places) end = last_push next places end

last_rises : (place : ℕ) (places : List ℕ) (end : ℕ) (more : List ℕ) → AreSpaced place (places ++ end ∷ more) → last_of place places ≤ end
last_rises place [] end more h = omega (arith, h.0)
last_rises place (next ∷ places) end more h = last_rises next places end more h.1

abbrev kept_after : ℕ → ℕ → List ℕ → BoundariesState
kept_after begin begun done = record { begin = begin; begun = begun; kept = forgotten (last_of begun done) (begun ∷ done); room = 2430 }

one_more : (begin begun : ℕ) (done : List ℕ) (end : ℕ) (more : List ℕ) → AreSpaced begun (done ++ end ∷ more) →
    gone_on end (kept_after begin begun done) ≡ kept_after begin begun (done ++ end ∷ [])
one_more begin begun done end more h =
    let last : ℕ = last_of begun done in
    let own : AreSpaced begun done = spaced_front begun done (end ∷ more) h in
    let size : length (forgotten last (begun ∷ done) ++ end ∷ []) ≤ 2430 = omega (arith, few_kept begun done own, length-append (forgotten last (begun ∷ done)) (end ∷ [])) in
    let kept : with_another end (forgotten last (begun ∷ done)) ≡ forgotten (last_of begun (done ++ end ∷ [])) (begun ∷ (done ++ end ∷ [])) =
    some_kept end last begun done
    ∙ ap (forgotten end) (all_kept 2430 (forgotten last (begun ∷ done) ++ end ∷ []) size)
    ∙ in_steps end last (begun ∷ done) (last_rises begun done end more h)
    ∙ ap (λ n. forgotten n (begun ∷ (done ++ end ∷ []))) (sym (last_push begun done end)) in
    ap (λ l. record { begin = begin; begun = begun; kept = l; room = 2430 }) kept

all_more : (begin begun : ℕ) (done ends : List ℕ) → AreSpaced begun (done ++ ends) → gone_on_by ends (kept_after begin begun done) ≡ kept_after begin begun (done ++ ends)
all_more begin begun done [] h = ap (kept_after begin begun) (sym (append-nil done))
all_more begin begun done (end ∷ ends) h =
    let same : (done ++ end ∷ []) ++ ends ≡ done ++ end ∷ ends = append_assoc done (end ∷ []) ends in
    ap (gone_on_by ends) (one_more begin begun done end ends h)
    ∙ all_more begin begun (done ++ end ∷ []) ends (subst (AreSpaced begun) (sym same) h)
    ∙ ap (kept_after begin begun) same

-- ---- the first of them
none_newer : (end given place : ℕ) (places : List ℕ) → AreSpaced place places → far end place ≡ false → newest end given places ≡ given
none_newer end given place [] h e = refl
none_newer end given place (next ∷ places) h e =
    let later : far end next ≡ false = none_far end place next (omega (arith, h.0)) e in
    ap (λ n. newest end n places) (cond-false (far end next) next given later) ∙ none_newer end given next places h.1 later

abbrev joined_at : ℕ → ℕ → ℕ → Option JoinPlace
joined_at begin begun boundary = Some (record { begin = begin; begun = begun; boundary = boundary })

first_is : (end begin begun place : ℕ) (places : List ℕ) → AreSpaced place places →
    place_at begin begun (forgotten end (place ∷ places)) ≡ Some (record { begin = begin; begun = begun; boundary = newest end place places })
first_is end begin begun place [] h = refl
first_is end begin begun place (next ∷ places) h =
    elim (cases_Bool (far end next)) [
      | inl yes' ↦
          ap (place_at begin begun) (cond-true (far end next) (forgotten end (next ∷ places)) (place ∷ next ∷ places) yes')
          ∙ first_is end begin begun next places h.1
          ∙ ap (λ n. joined_at begin begun (newest end n places)) (sym (cond-true (far end next) next place yes'))
      | inr no' ↦
          ap (place_at begin begun) (cond-false (far end next) (forgotten end (next ∷ places)) (place ∷ next ∷ places) no')
          ∙ ap (joined_at begin begun) (sym (ap (λ n. newest end n places) (cond-false (far end next) next place no') ∙ none_newer end place next places h.1 no'))
    ]

pub newest_is_kept : (begin begun : ℕ) (ends : List ℕ) → AreSpaced begun ends →
    place_to_join (gone_on_by ends (begun_at begin begun)) ≡ Some (record { begin = begin; begun = begun; boundary = newest (last_of begun ends) begun ends })
newest_is_kept begin begun ends h =
    ap place_to_join (all_more begin begun [] ends h) ∙ first_is (last_of begun ends) begin begun begun ends h
