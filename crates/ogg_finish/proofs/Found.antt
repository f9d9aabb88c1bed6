-- How the place of the mark is found, and what the pages after it say.
use Rattle.std.proofs.Common.{◌≡◌, ℕ, ◌^◌, Bool, true, false, not, cond, List, [], ◌∷◌, ◌++◌, refl, sym, ◌∙◌, ap, subst, eq-eqb, inl, inr, ◌⊎◌, Option, None, Some, fold}
use Rattle.std.specs.Prelude.{nat_eq, nat_lt, ◌||◌, ◌&&◌, if◌then◌else◌}
use Rattle.std.specs.List.{AllByRecursion, list_any}
use Rattle.std.proofs.lemmas.Bool.{cases_Bool, cond-true, cond-false, eqb-true, or_left, or_right}
use Rattle.std.proofs.lemmas.List.Sums.{fold-append}
use Rattle.ogg_page.specs.Page.{Page}
use Rattle.ogg_page.specs.LogicalStream.{is_last}
use Rattle.link_chain.specs.ChainState.{last_position}
use Rattle.link_chain.specs.Links.{IsLink, all_ended}
use Rattle.ogg_finish.specs.Ended.{NoneFull, TellsMore}
use Rattle.ogg_finish.specs.Finishing.{is_full, repeats, mark_on, mark_after, kept_at, mark_in, marked_last, no_position}
use Rattle.ogg_finish.specs.declared.stream_end.Mark.{Mark}

-- ---- one page more
full_next : (found : Option Mark) (page : Page) → is_full page ≡ true → mark_after found page ≡ Some (mark_on page)
full_next found page full = cond-true (is_full page) (Some (mark_on page)) (kept_at page found) full

other_next : (found : Option Mark) (page : Page) → is_full page ≡ false → mark_after found page ≡ kept_at page found
other_next found page none = cond-false (is_full page) (Some (mark_on page)) (kept_at page found) none

-- ---- the mark is found

pub record Split (own : List Page) (mark : Mark) : Type 0 where
  pub front : List Page
  pub page : Page
  pub behind : List Page
  pub split : own ≡ front ++ page ∷ behind
  pub at : mark_on page ≡ mark
  pub full : is_full page ≡ true
  pub none : NoneFull behind
  pub same : AllByRecursion (λ later. repeats mark later ≡ true) behind

-- the mark stood there before, and these pages only repeat its position
record Stayed (found : Option Mark) (own : List Page) (mark : Mark) : Type 0 where
  is : found ≡ Some mark
  none : NoneFull own
  same : AllByRecursion (λ later. repeats mark later ≡ true) own

further : (page : Page) (own : List Page) (mark : Mark) → Split own mark → Split (page ∷ own) mark
further page own mark s = record {
  front = page ∷ s.front;
  page = s.page;
  behind = s.behind;
  split = ap (λ l. page ∷ l) s.split;
  at = s.at;
  full = s.full;
  none = s.none;
  same = s.same;
}

inside : {A : Type 0} (x y : A) → Some x ≡ Some y → x ≡ y
inside x y e = cc

-- a mark that was kept at a page was there before, and the page repeats it
kept_before : (found : Option Mark) (page : Page) (mark : Mark) → kept_at page found ≡ Some mark → (found ≡ Some mark) × (repeats mark page ≡ true)
kept_before None page mark e = cc
kept_before (Some m) page mark e = by_case (repeats m page) refl e
  where
    by_case : (b : Bool) → repeats m page ≡ b → cond b (Some m) None ≡ Some mark → (Some m ≡ Some mark) × (repeats mark page ≡ true)
    by_case true r f = (f, subst (λ (x : Mark). repeats x page ≡ true) (inside m mark f) r)
    by_case false r f = cc

found_from : (found : Option Mark) (own : List Page) (mark : Mark) → fold mark_after found own ≡ Some mark → Split own mark ⊎ Stayed found own mark
found_from found [] mark e = inr (record { is = e; none = tt; same = tt })
found_from found (page ∷ own) mark e =
    elim (cases_Bool (is_full page)) [
      | inl full ↦
          elim (found_from (mark_after found page) own mark e) [
            | inl s ↦ inl (further page own mark s)
            | inr stayed ↦ inl (record {
              front = [];
              page = page;
              behind = own;
              split = refl;
              at = inside (mark_on page) mark (sym (full_next found page full) ∙ stayed.is);
              full = full;
              none = stayed.none;
              same = stayed.same;
            })
          ]
      | inr none ↦
          elim (found_from (mark_after found page) own mark e) [
            | inl s ↦ inl (further page own mark s)
            | inr stayed ↦
                let was = kept_before found page mark (sym (other_next found page none) ∙ stayed.is) in
                inr (record { is = was.0; none = (none, stayed.none); same = (was.1, stayed.same) })
          ]
    ]

pub split_at : (own : List Page) (mark : Mark) → mark_in own ≡ Some mark → Split own mark
split_at own mark e =
    elim (found_from None own mark e) [
      | inl s ↦ s
      | inr stayed ↦ absurd (no stayed.is)
    ]
  where
    no : None ≡ Some mark → ⊥
    no f = cc

-- ---- no mark is found
tells_further : (page : Page) (own : List Page) → TellsMore own → TellsMore (page ∷ own)
tells_further page own t = record {
  front = page ∷ t.front;
  page = t.page;
  behind = t.behind;
  split = ap (λ l. page ∷ l) t.split;
  full = t.full;
  none = t.none;
  other = t.other;
}

-- None of these pages can carry the mark. If there was a place for it before, a page among them has another position.
abbrev LostIn : Option Mark → List Page → Type 0
LostIn None own = NoneFull own
LostIn (Some mark) own = NoneFull own × (list_any (λ later. not (repeats mark later)) own ≡ true)

none_from : (found : Option Mark) (own : List Page) → fold mark_after found own ≡ None → TellsMore own ⊎ LostIn found own
none_from None [] e = inr tt
none_from (Some m) [] e = cc
none_from found (page ∷ own) e = by_full (is_full page) refl (none_from (mark_after found page) own e)
  where
    by_found : (f : Option Mark) → is_full page ≡ false → LostIn (kept_at page f) own → LostIn f (page ∷ own)
    by_found None none lost = (none, lost)
    by_found (Some m) none lost = by_repeat (repeats m page) refl lost
      where
        by_repeat : (b : Bool) → repeats m page ≡ b → LostIn (cond b (Some m) None) own → LostIn (Some m) (page ∷ own)
        by_repeat true r l = ((none, l.0), or_right (not (repeats m page)) (list_any (λ later. not (repeats m later)) own) l.1)
        by_repeat false r l = ((none, l), or_left (not (repeats m page)) (list_any (λ later. not (repeats m later)) own) (ap not r))

    by_full : (b : Bool) → is_full page ≡ b → TellsMore own ⊎ LostIn (mark_after found page) own → TellsMore (page ∷ own) ⊎ LostIn found (page ∷ own)
    by_full b f (inl t) = inl (tells_further page own t)
    by_full true full (inr lost) =
        let l : LostIn (Some (mark_on page)) own = subst (λ (o : Option Mark). LostIn o own) (full_next found page full) lost in
        inl (record { front = []; page = page; behind = own; split = refl; full = full; none = l.0; other = l.1 })
    by_full false none (inr lost) = inr (by_found found none (subst (λ (o : Option Mark). LostIn o own) (other_next found page none) lost))

pub none_found : (own : List Page) → mark_in own ≡ None → NoneFull own ⊎ TellsMore own
none_found own e =
    elim (none_from None own e) [
      | inl t ↦ inr t
      | inr n ↦ inl n
    ]

-- ---- the position that is reached
abbrev reached : ℕ → ℕ → ℕ
reached found position = if nat_lt position (2 ^ 63) then position else found

abbrev reach : ℕ → Page → ℕ
reach found page = reached found page.position

again : (found position : ℕ) → reached (reached found position) position ≡ reached found position
again found position = by_case (nat_lt position (2 ^ 63))
  where
    by_case : (b : Bool) → cond b position (cond b position found) ≡ cond b position found
    by_case true = refl
    by_case false = refl

repeated : (mark : Mark) (page : Page) (found : ℕ) → repeats mark page ≡ true → reached (reached found mark.position) page.position ≡ reached found mark.position
repeated mark page found r = by_case (nat_eq page.position mark.position) refl r
  where
    by_case : (b : Bool) → nat_eq page.position mark.position ≡ b → (b || nat_eq page.position no_position) ≡ true →
        reached (reached found mark.position) page.position ≡ reached found mark.position
    by_case true e f = ap (λ n. reached (reached found mark.position) n) (eqb-true page.position mark.position e) ∙ again found mark.position
    by_case false e f = ap (λ n. reached (reached found mark.position) n) (eqb-true page.position no_position f)

rest_repeats : (mark : Mark) (found : ℕ) (behind : List Page) → AllByRecursion (λ later. repeats mark later ≡ true) behind →
    fold reach (reached found mark.position) behind ≡ reached found mark.position
rest_repeats mark found [] same = refl
rest_repeats mark found (page ∷ behind) same =
    ap (λ n. fold reach n behind) (repeated mark page found same.0) ∙ rest_repeats mark found behind same.1

pub same_position : (own : List Page) (mark : Mark) (s : Split own mark) → last_position (s.front ++ marked_last s.page ∷ []) ≡ last_position own
same_position own mark s =
    let before : ℕ = fold reach 0 s.front in
    let here : s.page.position ≡ mark.position = ap (λ (m : Mark). m.position) s.at in
    fold-append reach 0 s.front (marked_last s.page ∷ [])
    ∙ ap (reached before) here ∙ sym (rest_repeats mark before s.behind s.same) ∙ ap (λ n. fold reach (reached before n) s.behind) (sym here)
    ∙ sym (fold-append reach 0 s.front (s.page ∷ s.behind)) ∙ ap last_position (sym s.split)

-- ---- a link's first page
alone : (page : Page) → all_ended (page ∷ []) ≡ is_last page
alone page =
    ap (λ l. list_any is_last l && true) (cond-true (nat_eq page.serial page.serial) (page ∷ []) [] (eq-eqb page.serial page.serial refl))
    ∙ plain (is_last page)
  where
    plain : (b : Bool) → ((b || false) && true) ≡ b
    plain true = refl
    plain false = refl

pub goes_on : (page next : Page) (pages : List Page) → IsLink (page ∷ next ∷ pages) → is_last page ≡ false
goes_on page next pages l = sym (alone page) ∙ l.one.1.0 (λ e. cc)
