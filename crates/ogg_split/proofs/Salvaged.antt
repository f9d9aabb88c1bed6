-- Good pages are found one after the other.
use Rattle.std.proofs.Common.{◌≡◌, ◌⊎◌, inl, inr, ◌≤◌, ◌<◌, ℕ, zero, suc, ◌+◌, ◌-◌, Err, List, [], ◌∷◌, ◌++◌, length, drop, refl, sym, ◌∙◌, ap, subst, arith, length-drop}
use Rattle.std.specs.Prelude.{slice_index, codes}
use Rattle.std.specs.List.{AllByRecursion}
use Rattle.std.proofs.Math.Seq.{drop-append_seam}
use Rattle.std.proofs.lemmas.Bool.{cases_lt}
use Rattle.std.proofs.lemmas.List.{drop-drop, get_or-drop}
use Rattle.memchr.specs.Find.{OccursAt, Nowhere}
use Rattle.ogg_page.specs.Page.{Page, fixed_part, page_bytes, page_size}
use Rattle.ogg_page.specs.PageLaws.{length-page_bytes, one_page}
use Rattle.ogg_page.specs.Reading.{page_at}
use Rattle.ogg_page.specs.ReadingLaws.{fault_is_no_page}
use Rattle.ogg_page.specs.declared.fault.PageFault.{PageFault}
use Rattle.ogg_split.specs.declared.salvaging.GoodPage.{GoodPage}
use Rattle.ogg_split.specs.Salvage.{AreGoodFrom, AreInOrder, IsOutside, IsRange, StandsAt}

-- ---- pages and patterns
begins : (page : Page) → (rest : List ℕ) × (page_bytes page ≡ 0x4F ∷ 0x67 ∷ 0x67 ∷ 0x53 ∷ rest)
unfolding page_bytes fixed_part
begins page = (_, refl)

four : (bytes more : List ℕ) (j : ℕ) → bytes ≡ 0x4F ∷ 0x67 ∷ 0x67 ∷ 0x53 ∷ more → j < 4 → slice_index bytes j ≡ slice_index (codes "OggS") j
four bytes more zero e lt = ap (λ (l : List ℕ). slice_index l 0) e
four bytes more (suc zero) e lt = ap (λ (l : List ℕ). slice_index l 1) e
four bytes more (suc (suc zero)) e lt = ap (λ (l : List ℕ). slice_index l 2) e
four bytes more (suc (suc (suc zero))) e lt = ap (λ (l : List ℕ). slice_index l 3) e
four bytes more (suc (suc (suc (suc j)))) e lt = absurd (omega (arith, lt))

-- where a page stands, its pattern occurs
occurs : (bytes : List ℕ) (place : ℕ) (page : Page) → StandsAt bytes place page → OccursAt bytes (codes "OggS") place
occurs bytes place page stands =
    let b = begins page in
    let front : drop place bytes ≡ 0x4F ∷ 0x67 ∷ 0x67 ∷ 0x53 ∷ (b.0 ++ stands.rest) = stands.spelled ∙ ap (λ (l : List ℕ). l ++ stands.rest) b.1 in
    let size : 4 ≤ length (drop place bytes) = omega (arith, ap length front) in
    record {
      fits = omega (arith, size, length-drop place bytes);
      reads = λ j lt. sym (get_or-drop place bytes j 0) ∙ four (drop place bytes) (b.0 ++ stands.rest) j front lt;
    }

-- the same page, counted from a later place
moved : (bytes rest : List ℕ) (from place : ℕ) (page : Page) → rest ≡ drop from bytes → from ≤ place → StandsAt bytes place page → StandsAt rest (place - from) page
moved bytes rest from place page e le stands =
    let sum : from + (place - from) ≡ place = omega arith in
    record {
      is_page = stands.is_page;
      rest = stands.rest;
      spelled = ap (drop (place - from)) e ∙ drop-drop (place - from) from bytes ∙ ap (λ n. drop n bytes) sum ∙ stands.spelled;
    }

-- ---- places where no page begins
abbrev NoneFrom : List ℕ → ℕ → ℕ → Type 0
NoneFrom bytes from to = (place : ℕ) (page : Page) → from ≤ place → place < to → StandsAt bytes place page → ⊥

pub none_before : (bytes rest : List ℕ) (from skipped : ℕ) → rest ≡ drop from bytes → Nowhere (OccursAt rest (codes "OggS")) 0 skipped → NoneFrom bytes from (from + skipped)
none_before bytes rest from skipped e nowhere place page low high stands =
    nowhere (place - from) (omega arith) (omega arith) (occurs rest (place - from) page (moved bytes rest from place page e low stands))

pub none_with : (bytes : List ℕ) (from at : ℕ) (fault : PageFault) → NoneFrom bytes from at → page_at (drop at bytes) ≡ Err fault → NoneFrom bytes from (at + 1)
none_with bytes from at fault none read place page low high stands = either (cases_lt place at)
  where
    either : (place < at) ⊎ (at ≤ place) → ⊥
    either (inl lt) = none place page low lt stands
    either (inr le) =
        let same : place ≡ at = omega arith in
        fault_is_no_page (drop at bytes) fault read page stands.rest stands.is_page (ap (λ n. drop n bytes) (sym same) ∙ stands.spelled)

-- ---- the good pages from a place on
later_order : (from to : ℕ) (ranges : List GoodPage) → from ≤ to → AreInOrder to ranges → AreInOrder from ranges
later_order from to [] le order = tt
later_order from to (range ∷ ranges) le order = (omega (arith, order.0), order.1)

-- the good pages are the same from an earlier place on, if no page begins in between
pub passed_over : (bytes : List ℕ) (from to : ℕ) (ranges : List GoodPage) → from ≤ to → NoneFrom bytes from to → AreGoodFrom to bytes ranges → AreGoodFrom from bytes ranges
passed_over bytes from to ranges le none good = record {
  in_order = later_order from to ranges le good.in_order;
  each = good.each;
  no_other = λ place page low outside stands. either place page low outside stands (cases_lt place to);
}
  where
    either : (place : ℕ) (page : Page) → from ≤ place → AllByRecursion (IsOutside place) ranges → StandsAt bytes place page → (place < to) ⊎ (to ≤ place) → ⊥
    either place page low outside stands (inl lt) = none place page low lt stands
    either place page low outside stands (inr le) = good.no_other place page le outside stands

-- a page and the good pages after it
pub with_first : (bytes : List ℕ) (at size : ℕ) (page : Page) (ranges : List GoodPage) → StandsAt bytes at page → size ≡ page_size page → AreGoodFrom (at + size) bytes ranges
    → AreGoodFrom at bytes (record { offset = at; length = size } ∷ ranges)
with_first bytes at size page ranges stands sized good = record {
  in_order = (omega arith, good.in_order);
  each = ((page, stands, sized), good.each);
  no_other = λ place other low outside there. either place other low outside.1 there outside.0;
}
  where
    either : (place : ℕ) (other : Page) → at ≤ place → AllByRecursion (IsOutside place) ranges → StandsAt bytes place other → (place < at) ⊎ (at + size ≤ place) → ⊥
    either place other low outside there (inl lt) = omega arith
    either place other low outside there (inr le) = good.no_other place other le outside there

pub none_left : (bytes rest : List ℕ) (from : ℕ) → rest ≡ drop from bytes → Nowhere (OccursAt rest (codes "OggS")) 0 (length rest + 1) → AreGoodFrom from bytes []
none_left bytes rest from e nowhere = record {
  in_order = tt;
  each = tt;
  no_other = λ place page low outside stands. never place page low stands;
}
  where
    never : (place : ℕ) (page : Page) → from ≤ place → StandsAt bytes place page → ⊥
    never place page low stands =
        let there : OccursAt rest (codes "OggS") (place - from) = occurs rest (place - from) page (moved bytes rest from place page e low stands) in
        nowhere (place - from) (omega arith) (omega (arith, there.fits)) there

-- what follows a page
pub behind_page : (bytes front others : List ℕ) (at size : ℕ) (page : Page) → front ≡ drop at bytes → front ≡ page_bytes page ++ others → size ≡ page_size page
    → others ≡ drop (at + size) bytes
behind_page bytes front others at size page e split sized =
    let long : length (page_bytes page) ≡ size = length-page_bytes page ∙ sym sized in
    sym (drop-append_seam (page_bytes page) others) ∙ ap (drop (length (page_bytes page))) (sym split ∙ e) ∙ ap (λ n. drop n (drop at bytes)) long ∙ drop-drop size at bytes

-- ---- only one list
none_there : (from place : ℕ) (ranges : List GoodPage) → place < from → AreInOrder from ranges → AllByRecursion (IsOutside place) ranges
none_there from place [] lt order = tt
none_there from place (range ∷ ranges) lt order = (inl (omega (arith, order.0)), none_there (range.offset + range.length) place ranges (omega (arith, order.0)) order.1)

before_first : (bytes : List ℕ) (from : ℕ) (x : GoodPage) (xs ranges : List GoodPage) → AreGoodFrom from bytes (x ∷ xs) → AreGoodFrom from bytes ranges
    → (before : AllByRecursion (IsOutside x.offset) ranges) → ⊥
before_first bytes from x xs ranges a b before = b.no_other x.offset a.each.0.0 a.in_order.0 before a.each.0.1

-- what follows the first of the good pages
tail_good : (bytes : List ℕ) (from : ℕ) (x : GoodPage) (xs : List GoodPage) → AreGoodFrom from bytes (x ∷ xs) → AreGoodFrom (x.offset + x.length) bytes xs
tail_good bytes from x xs a = record {
  in_order = a.in_order.1;
  each = a.each.1;
  no_other = λ place page low outside stands. a.no_other place page (omega (arith, low, a.in_order.0)) (inr low, outside) stands;
}

same_length : (bytes : List ℕ) (x y : GoodPage) → IsRange bytes x → IsRange bytes y → x.offset ≡ y.offset → x.length ≡ y.length
same_length bytes x y a b e =
    let same = one_page a.0 b.0 a.1.rest b.1.rest a.1.is_page b.1.is_page (sym a.1.spelled ∙ ap (λ n. drop n bytes) e ∙ b.1.spelled) in
    a.2 ∙ ap page_size same.0 ∙ sym b.2

same_range : (x y : GoodPage) → x.offset ≡ y.offset → x.length ≡ y.length → x ≡ y
same_range x y e f = (λ i. record { offset = e i; length = f i })

pub one_list : (bytes : List ℕ) (from : ℕ) (xs ys : List GoodPage) → AreGoodFrom from bytes xs → AreGoodFrom from bytes ys → xs ≡ ys
one_list bytes from [] [] a b = refl
one_list bytes from [] (y ∷ ys) a b = absurd (before_first bytes from y ys [] b a tt)
one_list bytes from (x ∷ xs) [] a b = absurd (before_first bytes from x xs [] a b tt)
one_list bytes from (x ∷ xs) (y ∷ ys) a b =
    ends (λ more. one_list bytes (x.offset + x.length) xs ys (tail_good bytes from x xs a) more) (cases_lt x.offset y.offset) (cases_lt y.offset x.offset)
  where
    ends : (AreGoodFrom (x.offset + x.length) bytes ys → xs ≡ ys) → (x.offset < y.offset) ⊎ (y.offset ≤ x.offset) → (y.offset < x.offset) ⊎ (x.offset ≤ y.offset)
        → x ∷ xs ≡ y ∷ ys
    ends more (inl lt) q = absurd (before_first bytes from x xs (y ∷ ys) a b (inl lt, none_there (y.offset + y.length) x.offset ys (omega arith) b.in_order.1))
    ends more (inr le) (inl lt) = absurd (before_first bytes from y ys (x ∷ xs) b a (inl lt, none_there (x.offset + x.length) y.offset xs (omega arith) a.in_order.1))
    ends more (inr le) (inr ge) =
        let place : x.offset ≡ y.offset = omega arith in
        let size : x.length ≡ y.length = same_length bytes x y a.each.0 b.each.0 place in
        let next : AreGoodFrom (x.offset + x.length) bytes ys = subst (λ n. AreGoodFrom n bytes ys) (omega (arith, place, size)) (tail_good bytes from y ys b) in
        ap (λ (r : GoodPage). r ∷ xs) (same_range x y place size) ∙ ap (λ (l : List GoodPage). y ∷ l) (more next)

-- ---- how many are left
-- the good pages are the same from a later place on, if no page begins in between
pub from_later : (bytes : List ℕ) (from to : ℕ) (ranges : List GoodPage) → from ≤ to → NoneFrom bytes from to → AreGoodFrom from bytes ranges → AreGoodFrom to bytes ranges
from_later bytes from to ranges le none good = record {
  in_order = order ranges good.in_order good.each;
  each = good.each;
  no_other = λ place page low outside stands. good.no_other place page (omega (arith, low, le)) outside stands;
}
  where
    order : (ranges : List GoodPage) → AreInOrder from ranges → AllByRecursion (IsRange bytes) ranges → AreInOrder to ranges
    order [] in_order each = tt
    order (x ∷ xs) in_order each = (by_place (cases_lt x.offset to), in_order.1)
      where
        by_place : (x.offset < to) ⊎ (to ≤ x.offset) → to ≤ x.offset
        by_place (inl lt) = absurd (none x.offset each.0.0 in_order.0 lt each.0.1)
        by_place (inr ge) = ge

-- if the first page stands here, the good pages are one more than those after it
pub first_of : (bytes : List ℕ) (from at size : ℕ) (page : Page) (ranges : List GoodPage) → from ≤ at → NoneFrom bytes from at → StandsAt bytes at page → size ≡ page_size page
    → AreGoodFrom from bytes ranges → (later : List GoodPage) × AreGoodFrom (at + size) bytes later × (length ranges ≡ 1 + length later)
first_of bytes from at size page [] le none stands sized good = absurd (good.no_other at page le tt stands)
first_of bytes from at size page (x ∷ xs) le none stands sized good = by_place (cases_lt x.offset at) (cases_lt at x.offset)
  where
    by_place : (x.offset < at) ⊎ (at ≤ x.offset) → (at < x.offset) ⊎ (x.offset ≤ at) → (later : List GoodPage) × AreGoodFrom (at + size) bytes later × (length (x ∷ xs) ≡ 1 + length later)
    by_place (inl lt) q = absurd (none x.offset good.each.0.0 good.in_order.0 lt good.each.0.1)
    by_place (inr ge) (inl lt) = absurd (good.no_other at page le (inl lt, none_there (x.offset + x.length) at xs (omega arith) good.in_order.1) stands)
    by_place (inr ge) (inr gt) =
        let place : x.offset ≡ at = omega (arith, ge, gt) in
        let long : x.length ≡ size = same_length bytes x (record { offset = at; length = size }) good.each.0 (page, stands, sized) place in
        (xs, subst (λ n. AreGoodFrom n bytes xs) (omega (arith, place, long)) (tail_good bytes from x xs good), omega arith)
