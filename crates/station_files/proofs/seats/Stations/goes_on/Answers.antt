use Rattle.std.proofs.Common.{◌≡◌, ◌<◌, ◌+◌, ◌-◌, ℕ, List, [], ◌∷◌, ◌++◌, Some, length, get_or, refl, sym, ◌∙◌, ap, subst, arith}
use Rattle.std.specs.Prelude.{slice_get, slice_set, vec_len}
use Rattle.station_files.specs.declared.seats.Next.TheVariants.{GoesOn}
use Rattle.station_files.specs.declared.seats.Past.{Past}
use Rattle.station_files.proofs.Placed.{at_end, one_more, same_item, set_end, set_same}
use Rattle.station_files.proofs.seats.Stations.goes_on.Goals as goal

module _ {D : Type 0} where
  last_at : (items front : List (Past D)) (past : Past D) (len : ℕ) → len ≡ length items → items ≡ front ++ past ∷ [] → len - 1 ≡ length front
  last_at items front past len all split =
      let more : len ≡ length front + 1 = all ∙ ap (λ (xs : List (Past D)). length xs) split ∙ one_more front past in omega (arith, more)

  last_is : (items front : List (Past D)) (past lent : Past D) (len : ℕ) → len ≡ length items → items ≡ front ++ past ∷ []
      → lent ≡ get_or items (len - 1) lent → lent ≡ past
  last_is items front past lent len all split is =
      same_item items (len - 1) past lent
      (subst (λ (k : ℕ). slice_get items k ≡ Some past) (sym (last_at items front past len all split))
      (subst (λ (xs : List (Past D)). slice_get xs (length front) ≡ Some past) (sym split) (at_end front past))) is

  set_last : (items front : List (Past D)) (past new : Past D) (len : ℕ) → len ≡ length items → items ≡ front ++ past ∷ []
      → slice_set items (len - 1) new ≡ front ++ new ∷ []
  set_last items front past new len all split =
      ap (λ (k : ℕ). slice_set items k new) (last_at items front past len all split)
      ∙ ap (λ (xs : List (Past D)). slice_set xs (length front) new) split ∙ set_end front past new

  none_last : (items : List (Past D)) → 0 < length items → items ≡ [] → ⊥
  none_last items below empty =
      let none : length items ≡ 0 = ap (λ (xs : List (Past D)). length xs) empty in omega (arith, below, none)

pub returns-then-past-self : goal.returns-then-past-self
returns-then-past-self g c =
    let all = c.args.self.now.past in
    let lent = c.in-Some.past.now in
    record {
      met = λ front past split same.
          set_last all.items front past (record lent { next = GoesOn; meeting = Some c.args.meeting }) (vec_len all) all.ok.0 split
          ∙ ap (λ (one : Past _). front ++ record one { next = GoesOn; meeting = Some c.args.meeting } ∷ [])
          (last_is all.items front past lent (vec_len all) all.ok.0 split c.in-Some.ensures.value);
      other = λ front past split differs. absurd (differs (ap (λ (one : Past _). one.number)
          (sym (last_is all.items front past lent (vec_len all) all.ok.0 split c.in-Some.ensures.value)) ∙ c.if-past-self.true));
      none = λ empty. absurd (none_last all.items c.in-Some.ensures.item.3.0 empty);
      rest = refl;
    }

pub returns-else-past-self : goal.returns-else-past-self
returns-else-past-self g c =
    let all = c.args.self.now.past in
    let lent = c.in-Some.past.now in
    record {
      met = λ front past split same. absurd (c.if-past-self.false (ap (λ (one : Past _). one.number)
          (last_is all.items front past lent (vec_len all) all.ok.0 split c.in-Some.ensures.value) ∙ same));
      other = λ front past split differs. set_same all.items (vec_len all - 1) lent c.in-Some.ensures.value;
      none = λ empty. absurd (none_last all.items c.in-Some.ensures.item.3.0 empty);
      rest = refl;
    }
