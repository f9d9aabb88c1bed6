-- The pages that are found are the good pages of the input.
use Rattle.std.proofs.Common.{◌≡◌, ℕ, zero, suc, ◌+◌, ◌-◌, ◌^◌, ◌≤◌, ◌<◌, List, [], ◌∷◌, ◌++◌, length, drop, Option, Some, None, Ok, refl, sym, ◌∙◌, ap, subst, arith, inl, inr, append_assoc, length-append, length-drop}
use Rattle.std.specs.Prelude.{nat_lt, slice_index, sum}
use Rattle.std.proofs.lemmas.Bool.{cases_Bool, ltb-true, ltb-false}
use Rattle.std.proofs.lemmas.List.{drop-append-le, drop-drop, get_or-drop, get_or_append_left}
use Rattle.std.proofs.lemmas.List.Sums.{sum_by-cons}
use Rattle.ogg_page.specs.Page.{Page, IsPage, page_bytes, page_size}
use Rattle.ogg_page.specs.PageLaws.{length-page_bytes, one_page, page_begins}
use Rattle.ogg_page.specs.ReadingLaws.{fault_is_no_page}
use Rattle.ogg_page.specs.Window.{LentAt}
use Rattle.ogg_page.specs.declared.fault.PageFault.{PageFault}
use Rattle.import_pages.specs.Laws.{end_given, joined, page_given, whole_fault}
use Rattle.import_pages.specs.Reader.{GivesEnd, GivesFault, GivesPage, HasAdvanced, IsFaultOf, IsPassed, ReaderState}
use Rattle.import_pages.specs.declared.fault.PageReaderFault.TheVariants.{Page as PageOf}
use Rattle.import_mend.specs.Found.{AreGoodPages, FindsNext, FindsPages, HoldsNone, NoneBefore, PassesAll, PassesOne, StandsAt}

-- ---- a place at which no page begins
begins_there : (bytes : List ℕ) (place : ℕ) (page : Page) → StandsAt bytes place page → slice_index bytes place ≡ 0x4F
begins_there bytes place page s =
    let (next, more, begins) = page_begins page in
    ap (λ n. slice_index bytes n) (plus place) ∙ sym (get_or-drop place bytes 0 0) ∙ ap (λ l. slice_index l 0) (s.spelled ∙ ap (λ l. l ++ s.rest) begins)
  where
    plus : (n : ℕ) → n ≡ n + 0
    plus n = omega arith

none_passed_over : (bytes rest : List ℕ) (fault : PageFault) (count : ℕ) → IsFaultOf bytes (Some rest) fault → IsPassed bytes count → NoneBefore (bytes ++ rest) count
none_passed_over bytes rest fault count is passed zero page low s = fault_is_no_page (bytes ++ rest) fault (whole_fault bytes rest fault is) page s.rest s.is_page s.spelled
none_passed_over bytes rest fault count is passed (suc place) page low s =
    passed.none (suc place) (omega arith) low
    (sym (get_or_append_left bytes rest 0 (suc place) (omega (arith, low, passed.inside))) ∙ begins_there (bytes ++ rest) (suc place) page s)

-- ---- what remains after bytes were passed over
record Remains (old : ReaderState) (bytes : List ℕ) (count : ℕ) (new : ReaderState) (left : Option (List ℕ)) : Type 0 where
  rest : List ℕ
  left_is : left ≡ Some rest
  same : new.unread ++ rest ≡ drop count bytes
  inside : count ≤ length bytes
  none : NoneBefore bytes count
  offset : old.offset + count < 2 ^ 64 → new.offset ≡ old.offset + count

one_remains : (old : ReaderState) (xs : List ℕ) (count : ℕ) (new : ReaderState) (left : Option (List ℕ)) → PassesOne old (Some xs) count new left → Remains old (old.unread ++ xs) count new left
one_remains old xs count new None p = absurd p.found.consumed
one_remains old xs count new (Some rest) p =
    let given : GivesFault (old.unread ++ p.found.taken) (Some rest) old.offset (PageOf p.fault) p.at = p.found.gives in
    let unread : List ℕ = p.at.unread in
    let all : old.unread ++ xs ≡ unread ++ rest = joined old.unread xs p.found.taken rest p.found.consumed ∙ ap (λ l. l ++ rest) (sym given.unread_is) in
    let fault : IsFaultOf unread (Some rest) p.fault = subst (λ l. IsFaultOf l (Some rest) p.fault) (sym given.unread_is) given.fault_is in
    let passed : IsPassed unread count = p.passes.passed in
    record {
      rest = rest;
      left_is = refl;
      same = ap (λ l. l ++ rest) p.passes.unread_is ∙ sym (drop-append-le count unread rest passed.inside) ∙ ap (drop count) (sym all);
      inside = omega (arith, passed.inside, ap length all, length-append unread rest);
      none = subst (λ l. NoneBefore l count) (sym all) (none_passed_over unread rest p.fault count fault passed);
      offset = λ small. omega (arith, small, p.passes.offset_is, given.offset_is);
    }

moved : (bytes rest : List ℕ) (from place : ℕ) (page : Page) → rest ≡ drop from bytes → from ≤ place → StandsAt bytes place page → StandsAt rest (place - from) page
moved bytes rest from place page e le s =
    let total : from + (place - from) ≡ place = omega arith in
    record {
      is_page = s.is_page;
      rest = s.rest;
      spelled = ap (drop (place - from)) e ∙ drop-drop (place - from) from bytes ∙ ap (λ n. drop n bytes) total ∙ s.spelled;
    }

both_none : (bytes rest : List ℕ) (first second : ℕ) → rest ≡ drop first bytes → NoneBefore bytes first → NoneBefore rest second → NoneBefore bytes (first + second)
both_none bytes rest first second e a b place page low s =
    elim (cases_Bool (nat_lt place first)) [
      | inl before ↦ a place page (ltb-true place first before) s
      | inr after ↦
          (let le : first ≤ place = ltb-false place first after in
          b (place - first) page (omega (arith, le, low)) (moved bytes rest first place page e le s))
    ]

all_remain : (counts : List ℕ) (old : ReaderState) (xs : List ℕ) (new : ReaderState) (left : Option (List ℕ)) → PassesAll counts old (Some xs) new left → Remains old (old.unread ++ xs) (sum counts) new left
all_remain [] old xs new left p = record {
  rest = xs;
  left_is = p.1;
  same = ap (λ (s : ReaderState). s.unread ++ xs) p.0;
  inside = omega arith;
  none = λ place page low s. absurd (omega (arith, low));
  offset = λ small. omega (arith, ap (λ (s : ReaderState). s.offset) p.0);
}
all_remain (count ∷ counts) old xs new left (next, middle, one, more) =
    let first : Remains old (old.unread ++ xs) count next middle = one_remains old xs count next middle one in
    let others : Remains next (next.unread ++ first.rest) (sum counts) new left =
    all_remain counts next first.rest new left (subst (λ o. PassesAll counts next o new left) first.left_is more) in
    let total : sum (count ∷ counts) ≡ count + sum counts = sum_by-cons (λ x. x) count counts in
    let bytes : List ℕ = old.unread ++ xs in
    record {
      rest = others.rest;
      left_is = others.left_is;
      same = others.same ∙ ap (drop (sum counts)) first.same ∙ drop-drop (sum counts) count bytes ∙ ap (λ n. drop n bytes) (sym total);
      inside = omega (arith, others.inside, first.inside, ap length first.same, length-drop count bytes, total);
      none = subst (λ n. NoneBefore bytes n) (sym total) (both_none bytes (next.unread ++ first.rest) count (sum counts) first.same first.none others.none);
      offset = λ small. omega (arith, small, total, first.offset (omega (arith, small, total)), others.offset (omega (arith, small, total, first.offset (omega (arith, small, total)))));
    }

-- ---- the next page
pub record NextGood (old : ReaderState) (bytes : List ℕ) (lent : LentAt) (new : ReaderState) (left : Option (List ℕ)) : Type 0 where
  pub place : ℕ
  pub rest : List ℕ
  pub left_is : left ≡ Some rest
  pub none : NoneBefore bytes place
  pub is_page : IsPage lent.1
  pub spelled : drop place bytes ≡ page_bytes lent.1 ++ (new.unread ++ rest)
  pub offset : lent.0 ≡ old.offset + place
  pub behind : new.offset ≡ lent.0 + page_size lent.1
  pub small : new.offset + length (new.unread ++ rest) < 2 ^ 64 - 1

page_next : (old passed : ReaderState) (bytes r : List ℕ) (count : ℕ) (lent : LentAt) (new : ReaderState) (left : Option (List ℕ)) → old.offset + length bytes < 2 ^ 64 - 1
    → passed.unread ++ r ≡ drop count bytes → count ≤ length bytes → NoneBefore bytes count → (old.offset + count < 2 ^ 64 → passed.offset ≡ old.offset + count)
    → new.lent ≡ Some lent → HasAdvanced passed (Some r) (Ok tt) new left → NextGood old bytes lent new left
page_next old passed bytes r count lent new None small same inside none offset is a = absurd a.consumed
page_next old passed bytes r count lent new (Some rest) small same inside none offset is a =
    let given : GivesPage (passed.unread ++ a.taken) passed.offset lent new = page_given (passed.unread ++ a.taken) (Some rest) passed.offset lent new.lent new is a.gives in
    let spelled : drop count bytes ≡ page_bytes lent.1 ++ (new.unread ++ rest) =
    sym same ∙ joined passed.unread r a.taken rest a.consumed ∙ ap (λ l. l ++ rest) given.joined ∙ append_assoc (page_bytes lent.1) new.unread rest in
    let there : passed.offset ≡ old.offset + count = offset (omega (arith, small, inside)) in
    let size : length bytes ≡ count + (page_size lent.1 + length (new.unread ++ rest)) =
    omega (arith, length-drop count bytes, inside, ap length spelled, length-append (page_bytes lent.1) (new.unread ++ rest), length-page_bytes lent.1) in
    let behind : new.offset ≡ lent.0 + page_size lent.1 = omega (arith, given.behind, given.offset_is, there, small, size) in
    record {
      place = count;
      rest = rest;
      left_is = refl;
      none = none;
      is_page = given.is_page;
      spelled = spelled;
      offset = given.offset_is ∙ there;
      behind = behind;
      small = omega (arith, behind, given.offset_is, there, small, size);
    }

pub next_good : (old : ReaderState) (xs : List ℕ) (lent : LentAt) (new : ReaderState) (left : Option (List ℕ)) (before now : ℕ) → old.offset + length (old.unread ++ xs) < 2 ^ 64 - 1
    → FindsNext old (Some xs) (Ok tt) new left before now → new.lent ≡ Some lent → NextGood old (old.unread ++ xs) lent new left
next_good old xs lent new left before now small f is =
    let r : Remains old (old.unread ++ xs) (sum f.counts) f.passed f.rest = all_remain f.counts old xs f.passed f.rest f.passes in
    elim f.found [
      | inl a ↦
          page_next old f.passed (old.unread ++ xs) r.rest (sum f.counts) lent new left small r.same r.inside r.none r.offset is
          (subst (λ o. HasAdvanced f.passed o (Ok tt) new left) r.left_is a)
      | inr many ↦ absurd (omega (arith, many, r.inside, small))
    ]

-- ---- the end
end_next : (passed : ReaderState) (bytes r : List ℕ) (count : ℕ) (new : ReaderState) (left : Option (List ℕ)) → passed.unread ++ r ≡ drop count bytes → NoneBefore bytes count
    → new.lent ≡ None → HasAdvanced passed (Some r) (Ok tt) new left → HoldsNone bytes
end_next passed bytes r count new None same none is a place page s = absurd a.consumed
end_next passed bytes r count new (Some rest) same none is a place page s =
    let given : GivesEnd (passed.unread ++ a.taken) (Some rest) passed.offset new = end_given (passed.unread ++ a.taken) (Some rest) passed.offset new.lent new is a.gives in
    let nothing : drop count bytes ≡ [] = sym same ∙ joined passed.unread r a.taken rest a.consumed ∙ ap (λ l. l ++ rest) given.none ∙ given.at_end in
    elim (cases_Bool (nat_lt place count)) [
      | inl before ↦ none place page (ltb-true place count before) s
      | inr after ↦
          (let (next, more, begins) = page_begins page in
          absurd (omega (
            arith,
            ltb-false place count after,
            length-drop count bytes,
            ap length nothing,
            length-drop place bytes,
            ap length s.spelled,
            length-append (page_bytes page) s.rest,
            ap length begins,
          )))
    ]

pub end_good : (old : ReaderState) (xs : List ℕ) (new : ReaderState) (left : Option (List ℕ)) (before now : ℕ) → old.offset + length (old.unread ++ xs) < 2 ^ 64 - 1
    → FindsNext old (Some xs) (Ok tt) new left before now → new.lent ≡ None → HoldsNone (old.unread ++ xs)
end_good old xs new left before now small f is =
    let r : Remains old (old.unread ++ xs) (sum f.counts) f.passed f.rest = all_remain f.counts old xs f.passed f.rest f.passes in
    elim f.found [
      | inl a ↦ end_next f.passed (old.unread ++ xs) r.rest (sum f.counts) new left r.same r.none is (subst (λ o. HasAdvanced f.passed o (Ok tt) new left) r.left_is a)
      | inr many ↦ absurd (omega (arith, many, r.inside, small))
    ]

-- ---- all pages
pub record AllGood (old : ReaderState) (bytes : List ℕ) (pages : List LentAt) (new : ReaderState) (left : Option (List ℕ)) : Type 0 where
  pub rest : List ℕ
  pub left_is : left ≡ Some rest
  pub good : AreGoodPages old.offset bytes pages (new.unread ++ rest)
  pub small : new.offset + length (new.unread ++ rest) < 2 ^ 64 - 1

pub all_good : (pages : List LentAt) (old : ReaderState) (xs : List ℕ) (new : ReaderState) (left : Option (List ℕ)) → old.offset + length (old.unread ++ xs) < 2 ^ 64 - 1
    → FindsPages old (Some xs) pages new left → AllGood old (old.unread ++ xs) pages new left
all_good [] old xs new left small f = record {
  rest = xs;
  left_is = f.1;
  good = ap (λ (s : ReaderState). s.unread ++ xs) (sym f.0);
  small = subst (λ (s : ReaderState). s.offset + length (s.unread ++ xs) < 2 ^ 64 - 1) (sym f.0) small;
}
all_good (lent ∷ later) old xs new left small (next, middle, before, now, one, is, more) =
    let here : NextGood old (old.unread ++ xs) lent next middle = next_good old xs lent next middle before now small one is in
    let others : AllGood next (next.unread ++ here.rest) later new left = all_good later next here.rest new left here.small (subst (λ o. FindsPages next o later new left) here.left_is more) in
    record {
      rest = others.rest;
      left_is = others.left_is;
      good = (
        here.place,
        next.unread ++ here.rest,
        here.none,
        here.is_page,
        here.spelled,
        here.offset,
        subst (λ n. AreGoodPages n (next.unread ++ here.rest) later (new.unread ++ others.rest)) here.behind others.good,
      );
      small = others.small;
    }

-- ---- the same bytes have one list of good pages
same_place : (bytes : List ℕ) (a b : ℕ) (p q : Page) → NoneBefore bytes a → NoneBefore bytes b → StandsAt bytes a p → StandsAt bytes b q → a ≡ b
same_place bytes a b p q none_a none_b at_a at_b =
    elim (cases_Bool (nat_lt a b)) [
      | inl low ↦ absurd (none_b a p (ltb-true a b low) at_a)
      | inr high ↦
          elim (cases_Bool (nat_lt b a)) [
            | inl low ↦ absurd (none_a b q (ltb-true b a low) at_b)
            | inr other ↦ omega (arith, ltb-false a b high, ltb-false b a other)
          ]
    ]

pub one_list : (offset : ℕ) (bytes : List ℕ) (xs ys : List LentAt) (a b : List ℕ) → AreGoodPages offset bytes xs a → HoldsNone a → AreGoodPages offset bytes ys b → HoldsNone b → xs ≡ ys
one_list offset bytes [] [] a b good_a none_a good_b none_b = refl
one_list offset bytes [] (y ∷ ys) a b good_a none_a (place, more, none, is, spelled, at, later) none_b =
    absurd (none_a place y.1 (subst (λ l. StandsAt l place y.1) good_a (record { is_page = is; rest = more; spelled = spelled })))
one_list offset bytes (x ∷ xs) [] a b (place, more, none, is, spelled, at, later) none_a good_b none_b =
    absurd (none_b place x.1 (subst (λ l. StandsAt l place x.1) good_b (record { is_page = is; rest = more; spelled = spelled })))
one_list offset bytes (x ∷ xs) (y ∷ ys) a b (place, more, none, is, spelled, at, later) none_a (place', more', none', is', spelled', at', later') none_b =
    let same : place ≡ place' =
    same_place bytes place place' x.1 y.1 none none' (record { is_page = is; rest = more; spelled = spelled }) (record { is_page = is'; rest = more'; spelled = spelled' }) in
    let both : (x.1 ≡ y.1) × (more ≡ more') = one_page x.1 y.1 more more' is is' (sym spelled ∙ ap (λ n. drop n bytes) same ∙ spelled') in
    let start : x.0 ≡ y.0 = at ∙ ap (λ n. offset + n) same ∙ sym at' in
    let next : x.0 + page_size x.1 ≡ y.0 + page_size y.1 = omega (arith, start, ap page_size both.0) in
    let rest : xs ≡ ys = one_list (y.0 + page_size y.1) more' xs ys a b
    (subst (λ n. AreGoodPages n more' xs a) next (subst (λ l. AreGoodPages (x.0 + page_size x.1) l xs a) both.1 later)) none_a later' none_b in
    pair_of x y start both.0 rest
  where
    pair_of : (x y : LentAt) → x.0 ≡ y.0 → x.1 ≡ y.1 → xs ≡ ys → x ∷ xs ≡ y ∷ ys
    pair_of x' y' a' b' c = ap (λ n. (n, x'.1) ∷ xs) a' ∙ ap (λ (p : Page). (y'.0, p) ∷ xs) b' ∙ ap (λ l. y' ∷ l) c
