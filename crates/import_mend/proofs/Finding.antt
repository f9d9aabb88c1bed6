-- Bytes of no page are passed over, up to the next page.
use Rattle.std.proofs.Common.{◌≡◌, ◌≢◌, ℕ, ◌+◌, ◌-◌, ◌^◌, ◌≤◌, ◌<◌, List, [], ◌∷◌, ◌++◌, Option, Some, None, Result, Ok, Err, refl, sym, ◌∙◌, ap, subst, arith, inl, inr}
use Rattle.std.specs.Prelude.{IfSome, min, sum}
use Rattle.std.proofs.lemmas.List.Sums.{sum_by-append, sum_by-cons}
use Rattle.import_pages.specs.Failures.{once_more}
use Rattle.import_pages.specs.Reader.{GivesFault, GoesOn, HasAdvanced, HasReadCause, PassesOver, ReaderState}
use Rattle.import_pages.specs.declared.fault.PageReaderFault.{PageReaderFault}
use Rattle.import_pages.specs.declared.fault.PageReaderFault.TheVariants.{Page as PageOf, Read}
use Rattle.ogg_page.specs.declared.fault.PageFault.{PageFault}
use Rattle.import_mend.specs.Found.{FindsNext, PassesAll, PassesOne}

-- so far these bytes were passed over, in so many turns
pub record Passing (old : ReaderState) (from : Option (List ℕ)) (new : ReaderState) (left : Option (List ℕ)) (before now turns : ℕ) : Type 0 where
  pub counts : List ℕ
  pub passes : PassesAll counts old from new left
  pub junk : before < 2 ^ 64 → now ≡ min (before + sum counts) (2 ^ 64 - 1)
  pub goes_on : new.outcome ≡ None
  pub turned : turns ≤ sum counts

pub none_passed : (state : ReaderState) (from : Option (List ℕ)) (before : ℕ) → state.outcome ≡ None → Passing state from state from before before 0
none_passed state from before goes_on = record { counts = []; passes = (refl, refl); junk = λ small. least (omega (arith, small)); goes_on = goes_on; turned = omega arith }
  where
    least : before ≤ 2 ^ 64 - 1 → before ≡ min (before + 0) (2 ^ 64 - 1)
    least le = omega (arith, le)

passes_push : (counts : List ℕ) (count : ℕ) (old next new : ReaderState) (from middle left : Option (List ℕ)) → PassesAll counts old from next middle → PassesOne next middle count new left →
    PassesAll (counts ++ count ∷ []) old from new left
passes_push [] count old next new from middle left p one = (
  new,
  left,
  subst (λ (s : ReaderState). PassesOne s from count new left) p.0 (subst (λ (o : Option (List ℕ)). PassesOne next o count new left) p.1 one),
  (refl, refl),
)
passes_push (c ∷ counts) count old next new from middle left (s, o, first, rest) one = (s, o, first, passes_push counts count s next new o middle left rest one)

-- bytes at whose front no page was found are passed over
pub one_over : (state : ReaderState) (middle : Option (List ℕ)) (fault : PageFault) (at : ReaderState) (left : Option (List ℕ)) (count : ℕ) (new : ReaderState)
    → HasAdvanced state middle (Err (PageOf fault)) at left
    → ((f : PageFault) → at.outcome ≡ Some (Err (PageOf f)) → at.unread ≢ [] → PassesOver at count new) → PassesOne state middle count new left
one_over state middle fault at left count new found over =
    let given : GivesFault (state.unread ++ found.taken) left state.offset (PageOf fault) at = found.gives in
    let some : at.unread ≢ [] = λ e. given.fault_is.some (sym given.unread_is ∙ e) in
    record { fault = fault; at = at; found = found; passes = over fault given.ended some }

pub one_passed : (old : ReaderState) (from : Option (List ℕ)) (state : ReaderState) (middle : Option (List ℕ)) (before junk turns : ℕ) (left : Option (List ℕ)) (count : ℕ) (new : ReaderState) (now : ℕ)
    → Passing old from state middle before junk turns → PassesOne state middle count new left → now ≡ min (junk + count) (2 ^ 64 - 1) →
    Passing old from new left before now (turns + 1)
one_passed old from state middle before junk turns left count new now p one is =
    let total : sum (p.counts ++ count ∷ []) ≡ sum p.counts + count = sum_push p.counts count in
    record {
      counts = p.counts ++ count ∷ [];
      passes = passes_push p.counts count old state new from middle left p.passes one;
      junk = λ small. omega (arith, is, p.junk small, total);
      goes_on = one.passes.goes_on;
      turned = omega (arith, p.turned, total, one.passes.passed.some);
    }
  where
    sum_push : (counts : List ℕ) (n : ℕ) → sum (counts ++ n ∷ []) ≡ sum counts + n
    sum_push counts n = omega (arith, sum_by-append (λ x. x) counts (n ∷ []), sum_by-cons (λ x. x) n [])

pub is_found : (old : ReaderState) (from : Option (List ℕ)) (state : ReaderState) (middle : Option (List ℕ)) (before junk turns : ℕ) (result : Result (Unit {0}) PageReaderFault) (new : ReaderState) (left : Option (List ℕ))
    → Passing old from state middle before junk turns → HasAdvanced state middle result new left → FindsNext old from result new left before junk
is_found old from state middle before junk turns result new left p found =
    record { counts = p.counts; passed = state; rest = middle; passes = p.passes; junk = p.junk; found = inl found }

-- ---- why a read has failed
-- the input goes on, so no read has failed that ended it
pub still_goes_on : {A : Type 0} (outcome : Option (Result (Unit {0}) PageReaderFault)) → GoesOn outcome → outcome ≡ Some (Err Read) → A
still_goes_on outcome goes_on is = absurd (subst GoesOn is goes_on)

-- if no read has failed since, the cause is the same
pub same_cause : (old now new : ReaderState) → now.failures ≡ old.failures → (now.outcome ≡ Some (Err Read) → old.outcome ≡ Some (Err Read))
    → HasReadCause now new → HasReadCause old new
same_cause old now new same before (inl rises) = inl (rises ∙ ap once_more same)
same_cause old now new same before (inr was) = inr (before was)

-- what is known of a reader that meets a page fault now, or met it before
record MeetsFault (old at : ReaderState) (fault : PageFault) : Type 0 where
  goes_on : GoesOn old.outcome
  ended : at.outcome ≡ Some (Err (PageOf fault))
  counted : at.failures ≡ old.failures

abbrev page_fault : PageFault → Result (Unit {0}) PageReaderFault
page_fault fault = Err (PageOf fault)

meets_fault : (old at : ReaderState) (from left : Option (List ℕ)) (fault : PageFault) (Stays : Type 0)
    → (old.outcome ≡ None → HasAdvanced old from (Err (PageOf fault)) at left)
    → IfSome old.outcome (λ was. (page_fault fault ≡ was) × (at ≡ old) × Stays) → MeetsFault old at fault
meets_fault old at from left fault Stays gives stays = by old.outcome refl stays
  where
    fault_is : (was : PageReaderFault) → page_fault fault ≡ Err was → was ≡ PageOf fault
    fault_is was e = cc

    by : (outcome : Option (Result (Unit {0}) PageReaderFault)) → old.outcome ≡ outcome
        → IfSome outcome (λ was. (page_fault fault ≡ was) × (at ≡ old) × Stays) → MeetsFault old at fault
    by None none stays =
        let advanced = gives none in
        let given : GivesFault (old.unread ++ advanced.taken) left old.offset (PageOf fault) at = advanced.gives in
        record { goes_on = subst GoesOn (sym none) tt; ended = given.ended; counted = advanced.cause }
    by (Some (Ok done)) is (same, at_is, more) = cc
    by (Some (Err was)) is (same, at_is, more) =
        let now : old.outcome ≡ Some (Err (PageOf fault)) = is ∙ ap (λ f. Some (Err f)) (fault_is was same) in
        record {
          goes_on = subst GoesOn (sym now) tt;
          ended = ap (λ (s : ReaderState). s.outcome) at_is ∙ now;
          counted = ap (λ (s : ReaderState). s.failures) at_is;
        }

-- After a page fault the input goes on, and no read has failed.
pub goes_on_after : (old at new : ReaderState) (from left : Option (List ℕ)) (fault : PageFault) (count : ℕ) (Stays : Type 0)
    → (old.outcome ≡ None → HasAdvanced old from (Err (PageOf fault)) at left)
    → IfSome old.outcome (λ was. (page_fault fault ≡ was) × (at ≡ old) × Stays)
    → ((f : PageFault) → at.outcome ≡ Some (Err (PageOf f)) → at.unread ≢ [] → PassesOver at count new)
    → (count ≡ 0 → new ≡ at) → (at.unread ≡ [] → count ≡ 0)
    → GoesOn old.outcome × GoesOn new.outcome × (new.failures ≡ old.failures)
goes_on_after old at new from left fault count Stays gives stays passes same none =
    let met = meets_fault old at from left fault Stays gives stays in
    let (now, failures) = by met at.unread refl in
    (met.goes_on, now, failures ∙ met.counted)
  where
    is_some : (x : ℕ) (l : List ℕ) → x ∷ l ≡ [] → ⊥
    is_some x l e = cc

    by : MeetsFault old at fault → (unread : List ℕ) → at.unread ≡ unread → GoesOn new.outcome × (new.failures ≡ at.failures)
    by met [] is =
        let all : new ≡ at = same (none is) in
        (subst GoesOn (sym (ap (λ (s : ReaderState). s.outcome) all ∙ met.ended)) tt, ap (λ (s : ReaderState). s.failures) all)
    by met (x ∷ l) is =
        let p : PassesOver at count new = passes fault met.ended (λ e. is_some x l (sym is ∙ e)) in
        (subst GoesOn (sym p.goes_on) tt, p.failures_same)
