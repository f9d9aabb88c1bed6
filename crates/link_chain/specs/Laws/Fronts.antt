-- A front of a link is a link; and what comes before a page of a link.
use Rattle.std.proofs.Common.{append_assoc, ◌≡◌, ◌≢◌, ℕ, ◌<◌, ◌≤◌, true, false, List, [], ◌∷◌, ◌++◌, length, map, refl, sym, ◌∙◌, ap, subst, arith, eq-eqb, inl, inr, ◌⊎◌, length-append}
use Rattle.std.specs.Prelude.{nat_eq}
use Rattle.std.specs.List.{AllByRecursion, IsDistinct, list_any, filter}
use Rattle.std.proofs.lemmas.List.{append-nil}
use Rattle.std.proofs.lemmas.List.Elements.{filter-append}
use Rattle.std.proofs.lemmas.Bool.{cond-true, ne_eqb, eqb-false, or_from}
use Rattle.ogg_page.specs.Page.{Page}
use Rattle.ogg_page.specs.LogicalStream.{FitsBehind, EachBehind, FlagsFit, is_first}
use Rattle.ogg_page.specs.StreamLaws.{behind_front, false_is_not_true}
use Rattle.link_chain.specs.Links.{IsLink, pages_with, serials_of, has_stream, has_ended, all_ended}
use Rattle.link_chain.specs.Laws.Grow.{Unmarked, OpenBehind, all_weaker, serials_same, stream_same}
use Rattle.link_chain.specs.Laws.LastLink.{all_split, some_open, some_not}
use Rattle.link_chain.specs.Laws.PageState.{serials_both}

-- ---- each after those before it
pub parts_of : {X : Type 0} (x y : X) (xs ys : List X) → x ∷ xs ≡ y ∷ ys → (x ≡ y) × (xs ≡ ys)
parts_of x y xs ys e = (cc, cc)

pub behind_at : (R : List Page → Page → Type 0) (start pages : List Page) → EachBehind R start pages → (before after : List Page) (page : Page) →
    pages ≡ before ++ page ∷ after → R (start ++ before) page
behind_at R start [] h [] after page e = cc
behind_at R start [] h (b ∷ before) after page e = cc
behind_at R start (p ∷ pages) h [] after page e =
    subst (λ (x : Page). R (start ++ []) x) (parts_of p page pages after e).0 (subst (λ (l : List Page). R l p) (sym (append-nil start)) h.0)
behind_at R start (p ∷ pages) h (b ∷ before) after page e =
    let parts : (p ≡ b) × (pages ≡ before ++ page ∷ after) = parts_of p b pages (before ++ page ∷ after) e in
    subst (λ (x : Page). R (start ++ x ∷ before) page) parts.0
    (subst (λ (l : List Page). R l page) (append_assoc start (p ∷ []) before) (behind_at R (start ++ p ∷ []) pages h.1 before after page parts.1))

pub push_not_nil : (front : List Page) (p : Page) → front ++ p ∷ [] ≢ []
push_not_nil [] p e = cc
push_not_nil (f ∷ front) p e = cc

-- ---- a list split in two ways
record Within (front rest a b : List Page) : Type 0 where
  middle : List Page
  longer : a ≡ front ++ middle
  left : rest ≡ middle ++ b

record Beyond (front rest a b : List Page) : Type 0 where
  middle : List Page
  longer : front ≡ a ++ middle
  left : b ≡ middle ++ rest

two_splits : (front rest a b : List Page) → front ++ rest ≡ a ++ b → Within front rest a b ⊎ Beyond front rest a b
two_splits [] rest a b e = inl (record { middle = a; longer = refl; left = e })
two_splits (x ∷ front) rest [] b e = inr (record { middle = x ∷ front; longer = refl; left = sym e })
two_splits (x ∷ front) rest (y ∷ a) b e =
    let parts : (x ≡ y) × (front ++ rest ≡ a ++ b) = parts_of x y (front ++ rest) (a ++ b) e in
    elim (two_splits front rest a b parts.1) [
      | inl w ↦ inl (record {
        middle = w.middle;
        longer = ap (λ (l : List Page). y ∷ l) w.longer ∙ ap (λ (p : Page). p ∷ (front ++ w.middle)) (sym parts.0);
        left = w.left;
      })
      | inr w ↦ inr (record {
        middle = w.middle;
        longer = ap (λ (l : List Page). x ∷ l) w.longer ∙ ap (λ (p : Page). p ∷ (a ++ w.middle)) parts.0;
        left = w.left;
      })
    ]

-- ---- fronts
distinct_front : (xs ys : List ℕ) → IsDistinct nat_eq (xs ++ ys) → IsDistinct nat_eq xs
unfolding IsDistinct
distinct_front [] ys d = tt
distinct_front (x ∷ xs) ys d = ((all_split (λ y. nat_eq x y ≡ false) xs ys d.0).0, distinct_front xs ys d.1)

-- what comes after a list of distinct numbers isn't in it
pub distinct_at : (xs : List ℕ) (y : ℕ) (ys : List ℕ) → IsDistinct nat_eq (xs ++ y ∷ ys) → list_any (nat_eq y) xs ≡ false
unfolding IsDistinct
distinct_at [] y ys d = refl
distinct_at (x ∷ xs) y ys d =
    let apart : nat_eq x y ≡ false = (all_split (λ z. nat_eq x z ≡ false) xs (y ∷ ys) d.0).1.0 in
    or_from (nat_eq y x) (list_any (nat_eq y) xs) (ne_eqb y x (λ e. eqb-false x y apart (sym e))) (distinct_at xs y ys d.1)

length_some : (pages : List Page) → pages ≢ [] → 0 < length pages
length_some [] ne = absurd (ne refl)
length_some (page ∷ pages) ne = omega arith

-- a front of a link is a link
pub front_is_link : (front rest : List Page) → front ≢ [] → IsLink (front ++ rest) → IsLink front
front_is_link front rest ne l =
    let fits : (serial : ℕ) → FlagsFit (pages_with serial front) =
    λ serial. behind_front FitsBehind [] (pages_with serial front) (pages_with serial rest)
    (subst FlagsFit (filter-append (λ (p : Page). nat_eq p.serial serial) front rest) (l.streams serial)) in
    let one : EachBehind (λ before page. before ≢ [] → all_ended before ≡ false) [] front =
    behind_front (λ (before : List Page) (page : Page). before ≢ [] → all_ended before ≡ false) [] front rest l.one in
    let d : IsDistinct nat_eq (serials_of front) =
    distinct_front (serials_of front) (serials_of rest) (subst (λ (s : List ℕ). IsDistinct nat_eq s) (serials_both front rest) l.distinct) in
    elim (two_splits front rest l.first_pages l.others l.split) [
      | inl w ↦ record {
        first_pages = front;
        others = [];
        split = sym (append-nil front);
        marked = (all_split (λ (p : Page). is_first p ≡ true) front w.middle (subst (AllByRecursion (λ (p : Page). is_first p ≡ true)) w.longer l.marked)).0;
        some = length_some front ne;
        few = (let n : length l.first_pages ≤ 64 = l.few in omega (arith, ap length w.longer, length-append front w.middle));
        distinct = d;
        unmarked = tt;
        known = tt;
        streams = fits;
        one = one;
      }
      | inr w ↦
          (let parts : AllByRecursion (λ (p : Page). is_first p ≡ false) w.middle × AllByRecursion (λ (p : Page). is_first p ≡ false) rest =
          all_split (λ (p : Page). is_first p ≡ false) w.middle rest (subst (AllByRecursion (λ (p : Page). is_first p ≡ false)) w.left l.unmarked) in
          let same : serials_of (front ++ rest) ≡ serials_of front = serials_same front rest parts.1 in
          record {
            first_pages = l.first_pages;
            others = w.middle;
            split = w.longer;
            marked = l.marked;
            some = l.some;
            few = l.few;
            distinct = d;
            unmarked = parts.0;
            known = all_weaker (λ (p : Page). has_stream (front ++ rest) p.serial ≡ true) (λ (p : Page). has_stream front p.serial ≡ true)
                (λ p there. ap (λ (s : List ℕ). list_any (nat_eq p.serial) s) (sym same) ∙ there) w.middle
                (all_split (λ (p : Page). has_stream (front ++ rest) p.serial ≡ true) w.middle rest
                (subst (AllByRecursion (λ (p : Page). has_stream (front ++ rest) p.serial ≡ true)) w.left l.known)).0;
            streams = fits;
            one = one;
          })
    ]

-- ---- what a page of a link is like, after those before it
pub page_fits : (front : List Page) (page : Page) (back : List Page) → IsLink (front ++ page ∷ back) → FitsBehind (pages_with page.serial front) page
page_fits front page back l =
    behind_at FitsBehind [] (pages_with page.serial (front ++ page ∷ back)) (l.streams page.serial) (pages_with page.serial front) (pages_with page.serial back) page
    (filter-append (λ (p : Page). nat_eq p.serial page.serial) front (page ∷ back)
    ∙ ap (λ (x : List Page). pages_with page.serial front ++ x)
    (cond-true (nat_eq page.serial page.serial) (page ∷ pages_with page.serial back) (pages_with page.serial back) (eq-eqb page.serial page.serial refl)))

-- a stream's first page: only first pages stand before it
pub first_behind : (front : List Page) (page : Page) (back : List Page) → is_first page ≡ true → IsLink (front ++ page ∷ back) →
    AllByRecursion (λ (p : Page). is_first p ≡ true) front × (length front < 64) × (has_stream front page.serial ≡ false)
first_behind front page back first l =
    let apart : has_stream front page.serial ≡ false =
    distinct_at (serials_of front) page.serial (serials_of back)
    (subst (λ (s : List ℕ). IsDistinct nat_eq s)
    (serials_both front (page ∷ back)
    ∙ ap (λ (x : List Page). serials_of front ++ map (λ (p : Page). p.serial) x) (cond-true (is_first page) (page ∷ filter is_first back) (filter is_first back) first))
    l.distinct) in
    elim (two_splits front (page ∷ back) l.first_pages l.others l.split) [
      | inl w ↦ (
        (all_split (λ (p : Page). is_first p ≡ true) front w.middle (subst (AllByRecursion (λ (p : Page). is_first p ≡ true)) w.longer l.marked)).0,
        (let more : 0 < length w.middle = some_middle w.middle l.others page back first w.left l.unmarked in
            let n : length l.first_pages ≤ 64 = l.few in
            omega (arith, ap length w.longer, length-append front w.middle)),
        apart,
      )
      | inr w ↦ false_is_not_true (is_first page) (all_split (λ (p : Page). is_first p ≡ false) w.middle (page ∷ back) (subst (AllByRecursion (λ (p : Page). is_first p ≡ false)) w.left l.unmarked)).1.0 first
    ]
  where
    some_middle : (middle others : List Page) (q : Page) (rest : List Page) → is_first q ≡ true → q ∷ rest ≡ middle ++ others → AllByRecursion (λ (p : Page). is_first p ≡ false) others → 0 < length middle
    some_middle [] others q rest f e h = false_is_not_true (is_first q) (subst (AllByRecursion (λ (p : Page). is_first p ≡ false)) (sym e) h).0 f
    some_middle (m ∷ middle) others q rest f e h = omega arith

-- another page: its stream's first page stands before it
pub later_behind : (front : List Page) (page : Page) (back : List Page) → is_first page ≡ false → IsLink (front ++ page ∷ back) → has_stream front page.serial ≡ true
later_behind front page back later l =
    elim (two_splits front (page ∷ back) l.first_pages l.others l.split) [
      | inl w ↦ at w.middle w.longer w.left
      | inr w ↦
          ap (λ (s : List ℕ). list_any (nat_eq page.serial) s)
          (sym (serials_same front (page ∷ back) (all_split (λ (p : Page). is_first p ≡ false) w.middle (page ∷ back) (subst (AllByRecursion (λ (p : Page). is_first p ≡ false)) w.left l.unmarked)).1))
          ∙ (all_split (λ (p : Page). has_stream (front ++ page ∷ back) p.serial ≡ true) w.middle (page ∷ back)
          (subst (AllByRecursion (λ (p : Page). has_stream (front ++ page ∷ back) p.serial ≡ true)) w.left l.known)).1.0
    ]
  where
    at : (middle : List Page) → l.first_pages ≡ front ++ middle → page ∷ back ≡ middle ++ l.others → has_stream front page.serial ≡ true
    at [] longer left =
        ap (λ (s : List ℕ). list_any (nat_eq page.serial) s)
        (sym (serials_same front (page ∷ back) (subst (AllByRecursion (λ (p : Page). is_first p ≡ false)) (sym left) l.unmarked)))
        ∙ (subst (AllByRecursion (λ (p : Page). has_stream (front ++ page ∷ back) p.serial ≡ true)) (sym left) l.known).0
    at (m ∷ middle) longer left =
        let marked : is_first m ≡ true = (all_split (λ (p : Page). is_first p ≡ true) front (m ∷ middle) (subst (AllByRecursion (λ (p : Page). is_first p ≡ true)) longer l.marked)).1.0 in
        false_is_not_true (is_first page) later (ap is_first (parts_of page m back (middle ++ l.others) left).0 ∙ marked)

-- ---- the link goes on while a page of it comes
pub goes_on : (before pages : List Page) → Unmarked pages → AllByRecursion (λ page. has_stream before page.serial ≡ true) pages →
    ((serial : ℕ) → FlagsFit (pages_with serial (before ++ pages))) → OpenBehind before pages
goes_on before [] later known fits = tt
goes_on before (page ∷ pages) later known fits =
    let own : List Page = pages_with page.serial before in
    let split : pages_with page.serial (before ++ page ∷ pages) ≡ own ++ page ∷ pages_with page.serial pages =
    filter-append (λ (p : Page). nat_eq p.serial page.serial) before (page ∷ pages)
    ∙ ap (λ l. own ++ l)
    (cond-true (nat_eq page.serial page.serial) (page ∷ pages_with page.serial pages) (pages_with page.serial pages) (eq-eqb page.serial page.serial refl)) in
    let here : FitsBehind own page = behind_at FitsBehind [] (pages_with page.serial (before ++ page ∷ pages)) (fits page.serial) own (pages_with page.serial pages) page split in
    let open_is : all_ended before ≡ false =
    some_open (has_ended before) is_first before (some_not (has_ended before) page.serial (serials_of before) known.0 here.last) in
    let all : (before ++ page ∷ []) ++ pages ≡ before ++ page ∷ pages = append_assoc before (page ∷ []) pages in (
      λ _. open_is,
      goes_on (before ++ page ∷ []) pages later.1
          (all_weaker (λ (p : Page). has_stream before p.serial ≡ true) (λ (p : Page). has_stream (before ++ page ∷ []) p.serial ≡ true)
          (λ p e. stream_same before (page ∷ []) p.serial (later.0, tt) ∙ e) pages known.1)
          (λ serial. subst (λ (l : List Page). FlagsFit (pages_with serial l)) (sym all) (fits serial)),
    )
