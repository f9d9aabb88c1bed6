-- The good pages of a file are those of its pieces.
use Rattle.std.proofs.Common.{◌≡◌, ◌⊎◌, inl, inr, ◌≤◌, ◌<◌, ℕ, ◌+◌, ◌-◌, ◌^◌, min, max, List, [], ◌∷◌, ◌++◌, length, take, drop, refl, sym, ◌∙◌, ap, subst, arith, append_assoc, append-nil, length-append, length-drop}
use Rattle.std.specs.Prelude.{nat_lt, if◌then◌else◌}
use Rattle.std.specs.List.{AllByRecursion}
use Rattle.std.proofs.Math.Seq.{take-append_seam}
use Rattle.std.proofs.lemmas.Bool.{cases_lt, cond-true, cond-false, lt-ltb, le-ltb}
use Rattle.std.proofs.lemmas.List.{drop-drop, drop-append-le, take-append-le, take-append-drop}
use Rattle.ogg_page.specs.Page.{Page, page_bytes, page_size}
use Rattle.ogg_page.specs.PageLaws.{length-page_bytes, page_begins, page_fits}
use Rattle.ogg_page.specs.Sizes.{longest_page}
use Rattle.ogg_split.specs.declared.salvaging.GoodPage.{GoodPage}
use Rattle.ogg_split.specs.Salvage.{AreGoodFrom, AreGoodPages, AreInOrder, IsOutside, IsRange, StandsAt}
use Rattle.file_actions.specs.Salvage.{AreGoodBetween, IsSure, page_line, page_lines, pages_before, searched_with, sum_of}

-- ---- one page more of a list
abbrev as_in_file : ℕ → GoodPage → GoodPage
as_in_file at page = record { offset = sum_of at page.offset; length = page.length }

before_here : (at sure : ℕ) (page : GoodPage) (pages : List GoodPage) → page.offset < sure → pages_before at sure (page ∷ pages) ≡ as_in_file at page ∷ pages_before at sure pages
before_here at sure page pages lt = cond-true (nat_lt page.offset sure) _ _ (lt-ltb page.offset sure lt)

before_later : (at sure : ℕ) (page : GoodPage) (pages : List GoodPage) → sure ≤ page.offset → pages_before at sure (page ∷ pages) ≡ pages_before at sure pages
before_later at sure page pages ge = cond-false (nat_lt page.offset sure) _ _ (le-ltb page.offset sure ge)

searched_here : (s sure : ℕ) (page : GoodPage) (pages : List GoodPage) → page.offset < sure
    → searched_with s sure (page ∷ pages) ≡ searched_with (max s (sum_of page.offset page.length)) sure pages
searched_here s sure page pages lt = cond-true (nat_lt page.offset sure) _ _ (lt-ltb page.offset sure lt)

searched_later : (s sure : ℕ) (page : GoodPage) (pages : List GoodPage) → sure ≤ page.offset → searched_with s sure (page ∷ pages) ≡ searched_with s sure pages
searched_later s sure page pages ge = cond-false (nat_lt page.offset sure) _ _ (le-ltb page.offset sure ge)

-- ---- where a page stands it fits
page_within : (bytes : List ℕ) (place : ℕ) (page : Page) → StandsAt bytes place page → (place + page_size page ≤ length bytes) × (2 ≤ page_size page)
page_within bytes place page stands =
    let (next, rest, begins) = page_begins page in
    let long : 2 ≤ length (page_bytes page) = omega (arith, ap length begins) in
    let size = ap length stands.spelled ∙ length-append (page_bytes page) stands.rest in
    (omega (arith, long, size, length-drop place bytes, length-page_bytes page), omega (arith, long, length-page_bytes page))

range_within : (bytes : List ℕ) (range : GoodPage) → IsRange bytes range → range.offset + range.length ≤ length bytes
range_within bytes range (page, stands, sized) = omega (arith, (page_within bytes range.offset page stands).0, sized)

-- no page begins after the last byte
pub none_after : (bytes : List ℕ) (at : ℕ) → length bytes ≤ at → AreGoodFrom at bytes []
none_after bytes at after = record {
  in_order = tt;
  each = tt;
  no_other = λ place page low outside stands. let (fits, long) = page_within bytes place page stands in omega (arith, low, fits, long, after);
}

-- ---- lists of pages
later_order : (from to : ℕ) (ranges : List GoodPage) → from ≤ to → AreInOrder to ranges → AreInOrder from ranges
later_order from to [] le order = tt
later_order from to (range ∷ ranges) le order = (omega (arith, le, order.0), order.1)

all_both : (P : GoodPage → Type 0) (a b : List GoodPage) → AllByRecursion P a → AllByRecursion P b → AllByRecursion P (a ++ b)
all_both P [] b p q = q
all_both P (x ∷ a) b p q = (p.0, all_both P a b p.1 q)

all_apart : (P : GoodPage → Type 0) (a b : List GoodPage) → AllByRecursion P (a ++ b) → AllByRecursion P a × AllByRecursion P b
all_apart P [] b p = (tt, p)
all_apart P (x ∷ a) b p = let (q, r) = all_apart P a b p.1 in ((p.0, q), r)

pub lines_both : (a b : List GoodPage) → page_lines (a ++ b) ≡ page_lines a ++ page_lines b
lines_both [] b = refl
lines_both (page ∷ a) b = ap (λ (l : List ℕ). page_line page.offset page.length ++ l) (lines_both a b) ∙ sym (append_assoc (page_line page.offset page.length) (page_lines a) (page_lines b))

pub between_both : (from at to : ℕ) (bytes : List ℕ) (a b : List GoodPage) → AreGoodBetween from at bytes a → AreGoodBetween at to bytes b → AreGoodBetween from to bytes (a ++ b)
between_both from at to bytes a b x y = λ more good. subst (AreGoodFrom from bytes) (sym (append_assoc a b more)) (x (b ++ more) (y more good))

pub between_all : (at : ℕ) (bytes : List ℕ) (pages : List GoodPage) → length bytes ≤ at → AreGoodBetween 0 at bytes pages → AreGoodPages bytes pages
between_all at bytes pages after good = subst (AreGoodFrom 0 bytes) (append-nil pages) (good [] (none_after bytes at after))

-- the piece is searched no further than it goes
pub searched_within : (piece : List ℕ) (s sure most : ℕ) (pages : List GoodPage) → AllByRecursion (IsRange piece) pages → s ≤ most → length piece ≤ most → searched_with s sure pages ≤ most
searched_within piece s sure most [] are le fits = le
searched_within piece s sure most (page ∷ pages) are le fits =
    elim (cases_lt page.offset sure) [
      | inl lt ↦
          let more = searched_within piece (max s (sum_of page.offset page.length)) sure most pages are.1 (omega (arith, range_within piece page are.0, le, fits)) fits in
          omega (arith, searched_here s sure page pages lt, more)
      | inr ge ↦ omega (arith, searched_later s sure page pages ge, searched_within piece s sure most pages are.1 le fits)
    ]

-- ---- a piece of the file
module _ (bytes piece : List ℕ) (at left : ℕ) (whole : length bytes ≡ at + left) (short : at + left < 2 ^ 63) (fits : length piece ≤ left)
    (is : piece ≡ take (length piece) (drop at bytes)) where
  abbrev behind : List ℕ
  behind = drop (length piece) (drop at bytes)

  split : drop at bytes ≡ piece ++ behind
  split = sym (take-append-drop (length piece) (drop at bytes)) ∙ ap (λ (l : List ℕ). l ++ behind) (sym is)

  from_here : (q : ℕ) → q ≤ length piece → drop (at + q) bytes ≡ drop q piece ++ behind
  from_here q le = sym (drop-drop q at bytes) ∙ ap (drop q) split ∙ drop-append-le q piece behind le

  in_file : (q : ℕ) → q ≤ length piece → sum_of at q ≡ at + q
  in_file q le = omega (arith, le, fits, short)

  to_file : (q : ℕ) (page : Page) → StandsAt piece q page → StandsAt bytes (at + q) page
  to_file q page stands = record {
    is_page = stands.is_page;
    rest = stands.rest ++ behind;
    spelled = from_here q (omega (arith, (page_within piece q page stands).0)) ∙ ap (λ (l : List ℕ). l ++ behind) stands.spelled ∙ append_assoc (page_bytes page) stands.rest behind;
  }

  to_piece : (q : ℕ) (page : Page) → q + page_size page ≤ length piece → StandsAt bytes (at + q) page → StandsAt piece q page
  to_piece q page shows stands =
      let size : ℕ = length (page_bytes page) in
      let enough : size ≤ length (drop q piece) = omega (arith, shows, length-page_bytes page, length-drop q piece) in
      let same : drop q piece ++ behind ≡ page_bytes page ++ stands.rest = sym (from_here q (omega (arith, shows))) ∙ stands.spelled in
      let front : take size (drop q piece) ≡ page_bytes page =
      sym (take-append-le size (drop q piece) behind enough) ∙ ap (take size) same ∙ take-append_seam (page_bytes page) stands.rest in
      record {
        is_page = stands.is_page;
        rest = drop size (drop q piece);
        spelled = sym (take-append-drop size (drop q piece)) ∙ ap (λ (l : List ℕ). l ++ drop size (drop q piece)) front;
      }

  -- a page that begins in the part that is sure shows whole
  shows_whole : (sure q : ℕ) (page : Page) → IsSure (length piece) left sure → q < sure → StandsAt bytes (at + q) page → q + page_size page ≤ length piece
  shows_whole sure q page known lt stands =
      elim known.whole [
        | inl all ↦ omega (arith, all, (page_within bytes (at + q) page stands).0, whole)
        | inr long ↦ omega (arith, long, lt, page_fits page stands.is_page)
      ]

  each_in_file : (sure : ℕ) (pages : List GoodPage) → AllByRecursion (IsRange piece) pages → AllByRecursion (IsRange bytes) (pages_before at sure pages)
  each_in_file sure [] are = tt
  each_in_file sure (page ∷ pages) are =
      elim (cases_lt page.offset sure) [
        | inl lt ↦
            let place : at + page.offset ≡ sum_of at page.offset = sym (in_file page.offset (omega (arith, range_within piece page are.0))) in
            let here : IsRange bytes (as_in_file at page) =
            (are.0.0, subst (λ n. StandsAt bytes n are.0.0) place (to_file page.offset are.0.0 are.0.1), are.0.2) in
            subst (AllByRecursion (IsRange bytes)) (sym (before_here at sure page pages lt)) (here, each_in_file sure pages are.1)
        | inr ge ↦ subst (AllByRecursion (IsRange bytes)) (sym (before_later at sure page pages ge)) (each_in_file sure pages are.1)
      ]

  in_order : (sure from low s : ℕ) (pages more : List GoodPage) → AllByRecursion (IsRange piece) pages → AreInOrder from pages → low ≤ from → low ≤ s
      → AreInOrder (at + searched_with s sure pages) more → AreInOrder (at + low) (pages_before at sure pages ++ more)
  in_order sure from low s [] more are order le reach after = later_order (at + low) (at + s) more (omega (arith, reach)) after
  in_order sure from low s (page ∷ pages) more are order le reach after =
      elim (cases_lt page.offset sure) [
        | inl lt ↦
            let end : ℕ = page.offset + page.length in
            let inside = range_within piece page are.0 in
            let place = in_file page.offset (omega (arith, inside)) in
            let further : ℕ = max s (sum_of page.offset page.length) in
            let next : AreInOrder (at + end) (pages_before at sure pages ++ more) =
            in_order sure end end further pages more are.1 order.1 (omega arith) (omega (arith, inside, fits, short))
            (subst (λ n. AreInOrder (at + n) more) (searched_here s sure page pages lt) after) in
            subst (λ (l : List GoodPage). AreInOrder (at + low) (l ++ more)) (sym (before_here at sure page pages lt))
            (omega (arith, le, order.0, place), subst (λ n. AreInOrder n (pages_before at sure pages ++ more)) (omega (arith, place)) next)
        | inr ge ↦
            subst (λ (l : List GoodPage). AreInOrder (at + low) (l ++ more)) (sym (before_later at sure page pages ge))
            (in_order sure (page.offset + page.length) low s pages more are.1 order.1 (omega (arith, le, order.0)) reach
            (subst (λ n. AreInOrder (at + n) more) (searched_later s sure page pages ge) after))
      ]

  -- a place that has been searched, outside of the pages that are listed, is sure
  is_sure_there : (sure s q : ℕ) (pages : List GoodPage) → AllByRecursion (IsRange piece) pages → AllByRecursion (IsOutside (at + q)) (pages_before at sure pages)
      → q < searched_with s sure pages → (q < sure) ⊎ (q < s)
  is_sure_there sure s q [] are outside lt = inr lt
  is_sure_there sure s q (page ∷ pages) are outside lt =
      elim (cases_lt page.offset sure) [
        | inl here ↦
            let (first, rest) = subst (AllByRecursion (IsOutside (at + q))) (before_here at sure page pages here) outside in
            let inside = range_within piece page are.0 in
            let place = in_file page.offset (omega (arith, inside)) in
            elim (is_sure_there sure (max s (sum_of page.offset page.length)) q pages are.1 rest (omega (arith, searched_here s sure page pages here, lt))) [
              | inl known ↦ inl known
              | inr reached ↦
                  elim (cases_lt q s) [
                    | inl less ↦ inr less
                    | inr more ↦
                        elim first [
                          | inl before ↦ inl (omega (arith, before, place, here))
                          | inr after ↦ absurd (omega (arith, after, place, reached, more))
                        ]
                  ]
            ]
        | inr later ↦
            is_sure_there sure s q pages are.1 (subst (AllByRecursion (IsOutside (at + q))) (before_later at sure page pages later) outside)
            (omega (arith, searched_later s sure page pages later, lt))
      ]

  outside_all : (sure q : ℕ) (pages : List GoodPage) → q < sure → AllByRecursion (IsRange piece) pages → AllByRecursion (IsOutside (at + q)) (pages_before at sure pages)
      → AllByRecursion (IsOutside q) pages
  outside_all sure q [] lt are outside = tt
  outside_all sure q (page ∷ pages) lt are outside =
      elim (cases_lt page.offset sure) [
        | inl here ↦
            let (first, rest) = subst (AllByRecursion (IsOutside (at + q))) (before_here at sure page pages here) outside in
            let place = in_file page.offset (omega (arith, range_within piece page are.0)) in
            let own : IsOutside q page =
            elim first [ inl before ↦ inl (omega (arith, before, place)) | inr after ↦ inr (omega (arith, after, place)) ] in
            (own, outside_all sure q pages lt are.1 rest)
        | inr later ↦
            (inl (omega (arith, lt, later)), outside_all sure q pages lt are.1 (subst (AllByRecursion (IsOutside (at + q))) (before_later at sure page pages later) outside))
      ]

  -- the pages that are listed of the piece are the good ones of the file as far as it has been searched
  pub listed_between : (sure : ℕ) (pages : List GoodPage) → IsSure (length piece) left sure → AreGoodPages piece pages
      → AreGoodBetween at (at + searched_with sure sure pages) bytes (pages_before at sure pages)
  listed_between sure pages known good = λ more after. record {
    in_order = subst (λ n. AreInOrder n (pages_before at sure pages ++ more)) (omega arith)
        (in_order sure 0 0 sure pages more good.each good.in_order (omega arith) (omega arith) after.in_order);
    each = all_both (IsRange bytes) (pages_before at sure pages) more (each_in_file sure pages good.each) after.each;
    no_other = λ place page low outside stands.
        let (here, there) = all_apart (IsOutside place) (pages_before at sure pages) more outside in
        elim (cases_lt place (at + searched_with sure sure pages)) [
          | inl lt ↦
              let q : ℕ = place - at in
              let sum : at + q ≡ place = omega (arith, low) in
              let own = subst (λ n. AllByRecursion (IsOutside n) (pages_before at sure pages)) (sym sum) here in
              let inside : q < sure =
              elim (is_sure_there sure sure q pages good.each own (omega (arith, sum, lt))) [ inl less ↦ less | inr less ↦ less ] in
              let stands_there = subst (λ n. StandsAt bytes n page) (sym sum) stands in
              good.no_other q page (omega arith) (outside_all sure q pages inside good.each own)
              (to_piece q page (shows_whole sure q page known inside stands_there) stands_there)
          | inr ge ↦ after.no_other place page ge there stands
        ];
  }
