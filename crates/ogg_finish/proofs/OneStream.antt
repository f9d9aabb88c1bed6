-- The finished pages of one stream fit one another, and hold the same.
use Rattle.std.proofs.Common.{◌≡◌, ◌≢◌, ℕ, suc, ◌+◌, ◌/◌, ◌%◌, ◌<◌, ◌≤◌, Bool, true, false, not, cond, List, [], ◌∷◌, ◌++◌, length, sum, refl, sym, ◌∙◌, ap, subst, arith, eq-eqb, inl, inr, ◌⊎◌, Option, None, Some}
use Rattle.std.specs.Prelude.{nat_eq, nat_lt, ◌||◌, ◌&&◌}
use Rattle.std.specs.List.{AllByRecursion, flat_map, list_any}
use Rattle.std.proofs.lemmas.List.Concat.{flat_map-append}
use Rattle.std.proofs.lemmas.List.Folds.{list_any-append}
use Rattle.std.proofs.lemmas.Bool.{ne_eqb, eqb-true, eqb-false, lt-ltb, ltb-true, ltb-false, cond-true, cond-false, cond_both, false≢true, or_right}
use Rattle.ogg_page.specs.Page.{Page, IsPage}
use Rattle.ogg_page.specs.Lacing.{ends_open}
use Rattle.ogg_page.specs.LogicalStream.{FitsBehind, EachBehind, FlagsFit, joined_lacing, joined_bodies, number_behind, is_first, is_last, is_continued}
use Rattle.ogg_page.specs.StreamLaws.{behind_both, behind_front, behind_back, last_closes, number_push}
use Rattle.link_chain.specs.ChainState.{last_position}
use Rattle.link_chain.specs.Laws.LastLink.{all_split}
use Rattle.link_chain.specs.Laws.Fronts.{behind_at, push_not_nil}
use Rattle.ogg_finish.specs.Ended.{EndsFull, NoneFull, TellsMore}
use Rattle.ogg_finish.specs.Finishing.{is_full, mark_on, mark_in, marked_last, up_to, finished_page, finished_stream}
use Rattle.ogg_finish.specs.declared.stream_end.Mark.{Mark}
use Rattle.ogg_finish.proofs.Found.{Split, split_at, none_found, same_position}

-- ---- the mark
abbrev with_mark : ℕ → ℕ
with_mark f = cond (nat_eq (f / 4 % 2) 1) f (f + 4)

mark_continued : (f : ℕ) → with_mark f % 2 ≡ f % 2
mark_continued f = cond_both (nat_eq (f / 4 % 2) 1) f (f + 4) (λ n. n % 2 ≡ f % 2) (λ _. refl) (λ _. omega arith)

mark_first : (f : ℕ) → with_mark f / 2 % 2 ≡ f / 2 % 2
mark_first f = cond_both (nat_eq (f / 4 % 2) 1) f (f + 4) (λ n. n / 2 % 2 ≡ f / 2 % 2) (λ _. refl) (λ _. omega arith)

mark_last : (f : ℕ) → with_mark f / 4 % 2 ≡ 1
mark_last f =
    cond_both (nat_eq (f / 4 % 2) 1) f (f + 4) (λ n. n / 4 % 2 ≡ 1) (λ e. eqb-true (f / 4 % 2) 1 e) (λ e. not_one (eqb-false (f / 4 % 2) 1 e))
  where
    not_one : f / 4 % 2 ≢ 1 → (f + 4) / 4 % 2 ≡ 1
    not_one ne = omega (arith, ne)

mark_small : (f : ℕ) → f < 256 → with_mark f < 256
mark_small f small =
    cond_both (nat_eq (f / 4 % 2) 1) f (f + 4) (λ n. n < 256) (λ _. small) (λ e. not_one (eqb-false (f / 4 % 2) 1 e))
  where
    not_one : f / 4 % 2 ≢ 1 → f + 4 < 256
    not_one ne = omega (arith, ne, small)

pub marked_first : (page : Page) → is_first (marked_last page) ≡ is_first page
marked_first page = ap (λ n. nat_eq n 1) (mark_first page.flags)

marked_continued : (page : Page) → is_continued (marked_last page) ≡ is_continued page
marked_continued page = ap (λ n. nat_eq n 1) (mark_continued page.flags)

marked_is_last : (page : Page) → is_last (marked_last page) ≡ true
marked_is_last page = eq-eqb (with_mark page.flags / 4 % 2) 1 (mark_last page.flags)

pub marked_is_page : (page : Page) → IsPage page → IsPage (marked_last page)
marked_is_page page p = record {
  flags = mark_small page.flags p.flags;
  position = p.position;
  serial = p.serial;
  sequence = p.sequence;
  values = p.values;
  lacing = p.lacing;
  body = p.body;
  whole = p.whole;
}

-- ---- the numbers go up
at_least : (before front : List Page) (page : Page) (behind : List Page) → EachBehind FitsBehind before (front ++ page ∷ behind) → before ≢ [] →
    number_behind before ≤ page.sequence
at_least before [] page behind h some = omega (arith, h.0.sequence some)
at_least before (x ∷ front) page behind h some =
    let rest : number_behind (before ++ x ∷ []) ≤ page.sequence = at_least (before ++ x ∷ []) front page behind h.1 (push_not_nil before x) in
    omega (arith, h.0.sequence some, number_push before x, rest)

stays : (before front : List Page) (page : Page) (behind : List Page) → EachBehind FitsBehind before (front ++ page ∷ behind) →
    flat_map (finished_page (Some (mark_on page))) front ≡ front
stays before [] page behind h = refl
stays before (x ∷ front) page behind h =
    let mark : Mark = mark_on page in
    let number : ℕ = page.sequence in
    let rest : number_behind (before ++ x ∷ []) ≤ number = at_least (before ++ x ∷ []) front page behind h.1 (push_not_nil before x) in
    let small : x.sequence < number = omega (arith, number_push before x, rest) in
    let kept : up_to (Some mark) x ≡ x ∷ [] =
    cond-true (nat_lt x.sequence mark.sequence) (x ∷ []) (cond (nat_eq x.sequence mark.sequence) (marked_last x ∷ []) []) (lt-ltb x.sequence number small) in
    let one : finished_page (Some mark) x ≡ x ∷ [] =
    cond_both (is_first x) (x ∷ []) (up_to (Some mark) x) (λ l. l ≡ x ∷ []) (λ _. refl) (λ _. kept) in
    ap (λ l. l ++ flat_map (finished_page (Some mark)) front) one
    ∙ ap (λ l. x ∷ l) (stays (before ++ x ∷ []) front page behind h.1)

not_first : (before : List Page) (page : Page) → FitsBehind before page → before ≢ [] → is_first page ≡ false
not_first before page fits some = by_case (is_first page) refl
  where
    by_case : (b : Bool) → is_first page ≡ b → b ≡ false
    by_case true e = absurd (some (fits.first.0 e))
    by_case false e = refl

goes : (mark : Mark) (before behind : List Page) → EachBehind FitsBehind before behind → before ≢ [] → mark.sequence < number_behind before →
    flat_map (finished_page (Some mark)) behind ≡ []
goes mark before [] h some more = refl
goes mark before (x ∷ behind) h some more =
    let big : mark.sequence < x.sequence = omega (arith, more, h.0.sequence some) in
    let gone : up_to (Some mark) x ≡ [] =
    cond-false (nat_lt x.sequence mark.sequence) (x ∷ []) (cond (nat_eq x.sequence mark.sequence) (marked_last x ∷ []) []) (not_less x.sequence mark.sequence big)
    ∙ cond-false (nat_eq x.sequence mark.sequence) (marked_last x ∷ []) [] (ne_eqb x.sequence mark.sequence (λ e. differ e big)) in
    let one : finished_page (Some mark) x ≡ [] =
    cond-false (is_first x) (x ∷ []) (up_to (Some mark) x) (not_first before x h.0 some) ∙ gone in
    ap (λ l. l ++ flat_map (finished_page (Some mark)) behind) one
    ∙ goes mark (before ++ x ∷ []) behind h.1 (push_not_nil before x) (omega (arith, big, number_push before x))
  where
    not_less : (a b : ℕ) → b < a → nat_lt a b ≡ false
    not_less a b lt = by_case (nat_lt a b) refl
      where
        by_case : (t : Bool) → nat_lt a b ≡ t → t ≡ false
        by_case true e = absurd (omega (arith, ltb-true a b e, lt))
        by_case false e = refl

    differ : {a : ℕ} → a ≡ mark.sequence → mark.sequence < a → ⊥
    differ e lt = omega (arith, e, lt)

-- pages that can't carry the mark and come after a stream's first hold nothing
empty_list : (xs : List ℕ) → nat_lt 0 (length xs) ≡ false → xs ≡ []
empty_list [] e = refl
empty_list (x ∷ xs) e = absurd (omega (arith, ltb-false 0 (suc (length xs)) e))

nothing_left : (xs : List ℕ) → length xs ≡ 0 → xs ≡ []
nothing_left [] e = refl
nothing_left (x ∷ xs) e = absurd (omega (arith, e))

no_values : (page : Page) → is_full page ≡ false → is_first page ≡ false → page.lacing ≡ []
no_values page none later = empty_list page.lacing (left (nat_lt 0 (length page.lacing)) (is_first page) later none)
  where
    left : (a b : Bool) → b ≡ false → (a && not b) ≡ false → a ≡ false
    left true true later e = cc
    left true false later e = cc
    left false b later e = refl

hold_nothing : (before behind : List Page) → EachBehind FitsBehind before behind → before ≢ [] → NoneFull behind → AllByRecursion IsPage behind →
    (joined_lacing behind ≡ []) × (joined_bodies behind ≡ [])
hold_nothing before [] h some none all = (refl, refl)
hold_nothing before (x ∷ behind) h some none all =
    let rest : (joined_lacing behind ≡ []) × (joined_bodies behind ≡ []) =
    hold_nothing (before ++ x ∷ []) behind h.1 (push_not_nil before x) none.1 all.1 in
    let values : x.lacing ≡ [] = no_values x none.0 (not_first before x h.0 some) in
    let body : x.body ≡ [] = nothing_left x.body (sym all.0.whole ∙ ap sum values) in
    (ap (λ l. l ++ joined_lacing behind) values ∙ rest.0, ap (λ l. l ++ joined_bodies behind) body ∙ rest.1)

-- ---- the finished stream
pub record SameStream (old new : List Page) : Type 0 where
  pub fits : FlagsFit new
  pub lacing : joined_lacing new ≡ joined_lacing old
  pub bodies : joined_bodies new ≡ joined_bodies old
  pub ended : list_any is_last new ≡ list_any is_last old
  pub position : last_position new ≡ last_position old
  pub ends : list_any is_last old ≡ true → EndsFull old new

none_changed : (own : List Page) → flat_map (finished_page None) own ≡ own
none_changed [] = refl
none_changed (x ∷ own) =
    ap (λ l. l ++ flat_map (finished_page None) own) (cond_both (is_first x) (x ∷ []) (x ∷ []) (λ l. l ≡ x ∷ []) (λ _. refl) (λ _. refl))
    ∙ ap (λ l. x ∷ l) (none_changed own)

unchanged : (own : List Page) → FlagsFit own → (list_any is_last own ≡ true → NoneFull own ⊎ TellsMore own) → SameStream own own
unchanged own fits none = record { fits = fits; lacing = refl; bodies = refl; ended = refl; position = refl; ends = λ e. inr (none e, refl) }

cut : (own : List Page) (mark : Mark) → FlagsFit own → AllByRecursion IsPage own → list_any is_last own ≡ true → mark_in own ≡ Some mark →
    SameStream own (flat_map (finished_page (Some mark)) own)
cut own mark fits all ended found =
    let s : Split own mark = split_at own mark found in
    let numbered : s.page.sequence ≡ mark.sequence = ap (λ (m : Mark). m.sequence) s.at in
    let each : EachBehind FitsBehind [] (s.front ++ s.page ∷ s.behind) = subst (λ (l : List Page). FlagsFit l) s.split fits in
    let here : FitsBehind s.front s.page = behind_at FitsBehind [] own fits s.front s.behind s.page s.split in
    let later : is_first s.page ≡ false = second (nat_lt 0 (length s.page.lacing)) (is_first s.page) s.full in
    let back : EachBehind FitsBehind (s.front ++ s.page ∷ []) s.behind = (behind_back FitsBehind [] s.front (s.page ∷ s.behind) each).1 in
    let pages : AllByRecursion IsPage s.behind =
    (all_split IsPage s.front (s.page ∷ s.behind) (subst (λ (l : List Page). AllByRecursion IsPage l) s.split all)).1.1 in
    let nothing : (joined_lacing s.behind ≡ []) × (joined_bodies s.behind ≡ []) =
    hold_nothing (s.front ++ s.page ∷ []) s.behind back (push_not_nil s.front s.page) s.none pages in
    let new : List Page = s.front ++ marked_last s.page ∷ [] in
    let new_is : flat_map (finished_page (Some mark)) own ≡ new =
    ap (flat_map (finished_page (Some mark))) s.split
    ∙ flat_map-append (finished_page (Some mark)) s.front (s.page ∷ s.behind)
    ∙ ap (λ l. l ++ flat_map (finished_page (Some mark)) (s.page ∷ s.behind))
    (subst (λ (m : Mark). flat_map (finished_page (Some m)) s.front ≡ s.front) s.at (stays [] s.front s.page s.behind each))
    ∙ ap (λ l. s.front ++ (l ++ flat_map (finished_page (Some mark)) s.behind)) (marked_here s.page later numbered)
    ∙ ap (λ l. s.front ++ marked_last s.page ∷ l)
    (goes mark (s.front ++ s.page ∷ []) s.behind back (push_not_nil s.front s.page) (omega (arith, number_push s.front s.page, numbered))) in
    let lacing : joined_lacing new ≡ joined_lacing own =
    flat_map-append (λ (p : Page). p.lacing) s.front (marked_last s.page ∷ [])
    ∙ ap (λ l. joined_lacing s.front ++ (s.page.lacing ++ l)) (sym nothing.0)
    ∙ sym (flat_map-append (λ (p : Page). p.lacing) s.front (s.page ∷ s.behind))
    ∙ ap joined_lacing (sym s.split) in
    let bodies : joined_bodies new ≡ joined_bodies own =
    flat_map-append (λ (p : Page). p.body) s.front (marked_last s.page ∷ [])
    ∙ ap (λ l. joined_bodies s.front ++ (s.page.body ++ l)) (sym nothing.1)
    ∙ sym (flat_map-append (λ (p : Page). p.body) s.front (s.page ∷ s.behind))
    ∙ ap joined_bodies (sym s.split) in
    let closed : ends_open (joined_lacing new) ≡ false = ap ends_open lacing ∙ last_closes [] own fits refl ended in
    let fits_here : FitsBehind s.front (marked_last s.page) = record {
      continued = marked_continued s.page ∙ here.continued;
      sequence = here.sequence;
      first = (λ e. here.first.0 (sym (marked_first s.page) ∙ e), λ e. marked_first s.page ∙ here.first.1 e);
      first_packet = here.first_packet;
      last = here.last;
      last_packet = λ _. closed;
    } in
    let is_marked : is_last (marked_last s.page) ≡ true = marked_is_last s.page in
    subst (λ (l : List Page). SameStream own l) (sym new_is) (record {
      fits = behind_both FitsBehind [] s.front (marked_last s.page ∷ []) (behind_front FitsBehind [] s.front (s.page ∷ s.behind) each) (fits_here, tt);
      lacing = lacing;
      bodies = bodies;
      ended = list_any-append is_last s.front (marked_last s.page ∷ [])
          ∙ or_right (list_any is_last s.front) (is_last (marked_last s.page) || false) (ap (λ b. b || false) is_marked) ∙ sym ended;
      position = same_position own mark s;
      ends = λ _. inl (record {
        front = s.front;
        page = marked_last s.page;
        last = refl;
        full = ap (λ b. nat_lt 0 (length s.page.lacing) && not b) (marked_first s.page) ∙ s.full;
        marked = is_marked;
      });
    })
  where
    second : (a b : Bool) → (a && not b) ≡ true → b ≡ false
    second true true e = cc
    second true false e = refl
    second false b e = cc

    marked_here : (page : Page) → is_first page ≡ false → page.sequence ≡ mark.sequence → finished_page (Some mark) page ≡ marked_last page ∷ []
    marked_here page later same =
        cond-false (is_first page) (page ∷ []) (up_to (Some mark) page) later
        ∙ cond-false (nat_lt page.sequence mark.sequence) (page ∷ []) (cond (nat_eq page.sequence mark.sequence) (marked_last page ∷ []) []) (not_less page.sequence mark.sequence same)
        ∙ cond-true (nat_eq page.sequence mark.sequence) (marked_last page ∷ []) [] (eq-eqb page.sequence mark.sequence same)
      where
        not_less : (a b : ℕ) → a ≡ b → nat_lt a b ≡ false
        not_less a b e = by_case (nat_lt a b) refl
          where
            by_case : (t : Bool) → nat_lt a b ≡ t → t ≡ false
            by_case true f = absurd (omega (arith, ltb-true a b f, e))
            by_case false f = refl

pub same_stream : (own : List Page) → FlagsFit own → AllByRecursion IsPage own → SameStream own (finished_stream own)
same_stream own fits all = by_case (list_any is_last own) refl
  where
    by_mark : (o : Option Mark) → mark_in own ≡ o → list_any is_last own ≡ true → SameStream own (flat_map (finished_page o) own)
    by_mark None e ended = subst (λ (l : List Page). SameStream own l) (sym (none_changed own)) (unchanged own fits (λ _. none_found own e))
    by_mark (Some m) e ended = cut own m fits all ended e

    by_case : (b : Bool) → list_any is_last own ≡ b → SameStream own (flat_map (finished_page (cond b (mark_in own) None)) own)
    by_case true e = by_mark (mark_in own) refl e
    by_case false e =
        subst (λ (l : List Page). SameStream own l) (sym (none_changed own)) (unchanged own fits (λ f. absurd (false≢true (sym e ∙ f))))
