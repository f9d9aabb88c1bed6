-- What is passed over where one part after the other is skipped, as often as was counted.
use Rattle.std.proofs.Common.{◌≡◌, ℕ, ◌+◌, ◌-◌, ◌<◌, List, [], ◌∷◌, length, refl, sym, ap, subst, arith, length-append, Option, None, Some, Bor, ControlFlow}
use Rattle.std.specs.Prelude.{MatchOption}
use Rattle.std.specs.ControlFlow.{continue_value}
use Rattle.std.specs.Fn.{Called}
use Rattle.std.specs.Iterator.{Yields, TryFoldTurn, TryFoldsItems}
use Rattle.std.specs.List.{flat_map, FoldsTo}
use Rattle.std.specs.declared.ops.Range.{Range}
use Rattle.std.proofs.iter.Yields.{nat_range_steps}
use Rattle.std.proofs.lemmas.Fn.{chained_keeps}
use denote.Param.Members.{Mut}
use Rattle.feed_codec.specs.Payload.{Begins, BeginsNone, AreMany}
use Rattle.feed_codec.proofs.Spellings.{PrefixFree}
use Rattle.feed_codec.proofs.PayloadFacts.{many_none, many_more, many_cut}

-- the numbers that came, and those that are left
yielded : (xs : List ℕ) (s t : Range ℕ) → Yields nat_range_steps s xs t → length xs + (t.end - t.start) ≡ s.end - s.start
yielded [] s t y = omega (arith, ap (λ r. r.end - r.start) y)
yielded (x ∷ xs) s t (next, step, y) = omega (arith, step.0, step.1.0, step.1.2, yielded xs next t y)

-- what is left after the spelling of some x, unless none stands in front
abbrev Skips : {X : Type 0} → (X → Type 0) → (X → List ℕ) → Bor (List ℕ) → Option (Bor (List ℕ)) → Type 0
Skips Is spell bytes r = MatchOption r (BeginsNone Is spell bytes.now) (λ rest. Begins Is spell bytes.now rest.now)

-- each call of g passes over one part, and leaves f as it was
module _ {X F : Type 0} (E : Type 0) (Is : X → Type 0) (spell : X → List ℕ) (free : PrefixFree Is spell) (g : Mut F (Bor (List ℕ) × (ℕ × Unit {0})) (Option (Bor (List ℕ)))) (f : F)
    (skips : (f' : F) (bytes : Bor (List ℕ)) (n : ℕ) (r : Option (Bor (List ℕ))) → Called g f (bytes, (n, tt)) r f' → Skips Is spell bytes r × (f' ≡ f)) where
  abbrev Branches : Option (Bor (List ℕ)) → ControlFlow E (Bor (List ℕ)) → Type 0
  Branches r control = r ≡ continue_value control

  once : (f' f'' : F) (bytes : Bor (List ℕ)) (n : ℕ) (r : Option (Bor (List ℕ))) → f' ≡ f → Called g f' (bytes, (n, tt)) r f'' → Skips Is spell bytes r × (f'' ≡ f)
  once f' f'' bytes n r same call = skips f'' bytes n r (subst (λ h. Called g h (bytes, (n, tt)) r f'') same call)

  -- the turns that go on pass over a part each
  passed : (bytes rest : Bor (List ℕ)) (f' : F) (xs : List ℕ) → FoldsTo {P = F × Bor (List ℕ)} (TryFoldTurn g Branches) (f, bytes) xs (f', rest)
      → Begins (AreMany Is (length xs)) (flat_map spell) bytes.now rest.now × (f' ≡ f)
  passed bytes rest f' xs =
      chained_keeps {P = F × Bor (List ℕ)} (TryFoldTurn g Branches) (λ ys q. Begins (AreMany Is (length ys)) (flat_map spell) bytes.now q.1.now × (q.0 ≡ f))
      (λ ys q x next some turn. let one = once q.0 next.0 q.1 x turn.0 some.1 turn.1 in (
        subst (λ n. Begins (AreMany Is n) (flat_map spell) bytes.now next.1.now) (sym (length-append ys (x ∷ [])))
            (many_more Is spell bytes.now q.1.now next.1.now (length ys) some.0 (subst (Skips Is spell q.1) turn.2 one.0)),
        one.1,
      ))
      xs (f, bytes) (f', rest) (many_none Is spell bytes.now, refl)

  -- as many turns as were counted pass over as many parts
  pub skipped : (bytes : Bor (List ℕ)) (count : ℕ) (u : Range ℕ) (r : Option (Bor (List ℕ)))
      → TryFoldsItems nat_range_steps g Branches (λ _ r. r ≡ None) (record { start = 0; end = count }) f bytes r u → Skips (AreMany Is count) (flat_map spell) bytes r
  skipped bytes count u r (xs, None, f', rest, (t, yields, ends), turns, whole) =
      let all : length xs ≡ count = omega (arith, yielded xs (record { start = 0; end = count }) t yields, ends.1.0) in
      rw whole (subst (λ n. Begins (AreMany Is n) (flat_map spell) bytes.now rest.now) all (passed bytes rest f' xs turns).0)
  skipped bytes count u r (xs, Some x, f', rest, (t, yields, more), turns, (v, f'', e, call, breaks, resumes)) =
      let few : length xs < count = omega (arith, yielded xs (record { start = 0; end = count }) t yields, more.1.0) in
      let some = passed bytes rest f' xs turns in
      rw resumes (many_cut Is spell free bytes.now rest.now (length xs) count few some.0 (subst (Skips Is spell rest) breaks (once f' f'' rest x v some.1 call).0))
