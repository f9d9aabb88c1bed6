-- The finished link is made from what is kept of a link's streams after all of its pages.
use Rattle.std.proofs.Common.{◌≡◌, ◌≤◌, ◌<◌, ℕ, zero, suc, ◌+◌, Bool, true, false, Option, None, Some, List, [], ◌∷◌, ◌++◌, length, map, refl, sym, ◌∙◌, ap, subst, arith, append_assoc, append-nil, eq-eqb, inl, inr}
use Rattle.std.specs.Prelude.{nat_eq, ◌||◌, slice_get}
use Rattle.std.specs.List.{AllByRecursion, flat_map, filter, list_any}
use Rattle.std.proofs.lemmas.Bool.{cases_Bool, cases_eq, cond-true, cond-false, cond_both, ne_eqb}
use Rattle.std.proofs.lemmas.List.Elements.{filter-append}
use Rattle.std.proofs.lemmas.List.Folds.{list_any-append}
use Rattle.std.proofs.lemmas.List.Sums.{fold-append}
use Rattle.ogg_page.specs.Page.{Page, bytes_of_pages}
use Rattle.ogg_page.specs.LogicalStream.{is_first, is_last}
use Rattle.link_chain.specs.Links.{IsLink, pages_with, serials_of, has_stream}
use Rattle.link_chain.specs.Laws.Grow.{all_weaker, serials_same}
use Rattle.link_index.specs.Index.{LinkEntry, link_entry, index_from, stream_info}
use Rattle.ogg_finish.specs.declared.stream_end.Mark.{Mark}
use Rattle.ogg_finish.specs.declared.stream_end.StreamEnd.{StreamEnd}
use Rattle.ogg_finish.specs.Ends.{without_pages, after_page, ends_after, mark_for, finished_by}
use Rattle.ogg_finish.specs.Finishing.{end_mark, mark_in, mark_after, finished_page, finished_link, up_to}
use Rattle.ogg_page.specs.Laws.PageBytes.{all_both}

-- ---- one stream
abbrev pub end_in : List Page → ℕ → StreamEnd
end_in pages serial = record { serial = serial; ended = list_any is_last (pages_with serial pages); mark = mark_in (pages_with serial pages) }

-- what is kept after one page more
one_more : (before : List Page) (page : Page) (serial : ℕ) → after_page page (end_in before serial) ≡ end_in (before ++ page ∷ []) serial
one_more before page serial =
    let own : List Page = pages_with serial before in
    let split : pages_with serial (before ++ page ∷ []) ≡ own ++ pages_with serial (page ∷ []) = filter-append (λ (p : Page). nat_eq p.serial serial) before (page ∷ []) in
    elim (cases_Bool (nat_eq page.serial serial)) [
      | inl same ↦
          let more : pages_with serial (before ++ page ∷ []) ≡ own ++ page ∷ [] = split ∙ ap (λ l. own ++ l) (cond-true (nat_eq page.serial serial) (page ∷ []) [] same) in
          let ended : list_any is_last (own ++ page ∷ []) ≡ (list_any is_last own || is_last page) =
          list_any-append is_last own (page ∷ []) ∙ ap (λ b. list_any is_last own || b) (or_false (is_last page)) in
          let marked : mark_in (own ++ page ∷ []) ≡ mark_after (mark_in own) page = fold-append mark_after None own (page ∷ []) in
          cond-true (nat_eq page.serial serial) (made (list_any is_last own || is_last page) (mark_after (mark_in own) page)) (made (list_any is_last own) (mark_in own)) same
          ∙ ap (λ b. made b (mark_after (mark_in own) page)) (sym ended) ∙ ap (λ m. made (list_any is_last (own ++ page ∷ [])) m) (sym marked)
          ∙ ap (λ (l : List Page). made (list_any is_last l) (mark_in l)) (sym more)
      | inr other ↦
          let same : pages_with serial (before ++ page ∷ []) ≡ own =
          split ∙ ap (λ l. own ++ l) (cond-false (nat_eq page.serial serial) (page ∷ []) [] other) ∙ append-nil own in
          cond-false (nat_eq page.serial serial) (made (list_any is_last own || is_last page) (mark_after (mark_in own) page)) (made (list_any is_last own) (mark_in own)) other
          ∙ ap (λ (l : List Page). made (list_any is_last l) (mark_in l)) (sym same)
    ]
  where
    made : Bool → Option Mark → StreamEnd
    made ended mark = record { serial = serial; ended = ended; mark = mark }

    or_false : (b : Bool) → (b || false) ≡ b
    or_false true = refl
    or_false false = refl

-- ---- all streams
all_more : (before : List Page) (page : Page) (serials : List ℕ) → map (after_page page) (map (end_in before) serials) ≡ map (end_in (before ++ page ∷ [])) serials
all_more before page [] = refl
all_more before page (serial ∷ serials) =
    ap (λ e. e ∷ map (after_page page) (map (end_in before) serials)) (one_more before page serial)
    ∙ ap (λ l. end_in (before ++ page ∷ []) serial ∷ l) (all_more before page serials)

ends_from : (before pages : List Page) (serials : List ℕ) → ends_after pages (map (end_in before) serials) ≡ map (end_in (before ++ pages)) serials
ends_from before [] serials = ap (λ (l : List Page). map (end_in l) serials) (sym (append-nil before))
ends_from before (page ∷ pages) serials =
    ap (ends_after pages) (all_more before page serials) ∙ ends_from (before ++ page ∷ []) pages serials
    ∙ ap (λ (l : List Page). map (end_in l) serials) (append_assoc before (page ∷ []) pages)

at_first : (pages : List Page) (serials : List ℕ) → map without_pages (map (stream_info pages) serials) ≡ map (end_in []) serials
at_first pages [] = refl
at_first pages (serial ∷ serials) = ap (λ l. end_in [] serial ∷ l) (at_first pages serials)

pub ends_of_link : (pages : List Page) → ends_after pages (map without_pages (map (stream_info pages) (serials_of pages))) ≡ map (end_in pages) (serials_of pages)
ends_of_link pages = ap (ends_after pages) (at_first pages (serials_of pages)) ∙ ends_from [] pages (serials_of pages)

-- ---- what is found for a page
found_for : (pages : List Page) (serials : List ℕ) (serial : ℕ) → list_any (nat_eq serial) serials ≡ true →
    mark_for (map (end_in pages) serials) serial ≡ end_mark (pages_with serial pages)
found_for pages [] serial e = cc
found_for pages (s ∷ serials) serial e =
    elim (cases_eq s serial) [
      | inl same ↦
          cond-true (nat_eq s serial) (end_mark (pages_with s pages)) (mark_for (map (end_in pages) serials) serial) (eq-eqb s serial same)
          ∙ ap (λ n. end_mark (pages_with n pages)) same
      | inr other ↦
          cond-false (nat_eq s serial) (end_mark (pages_with s pages)) (mark_for (map (end_in pages) serials) serial) (ne_eqb s serial other)
          ∙ found_for pages serials serial (sym (ap (λ b. b || list_any (nat_eq serial) serials) (ne_eqb serial s (λ f. other (sym f)))) ∙ e)
    ]

-- a page is finished alike
Alike : List Page → Page → Type 0
Alike link page = finished_page (mark_for (map (end_in link) (serials_of link)) page.serial) page ≡ finished_page (end_mark (pages_with page.serial link)) page

first_alike : (link : List Page) (page : Page) → is_first page ≡ true → Alike link page
unfolding Alike
first_alike link page first =
    cond-true (is_first page) (page ∷ []) (up_to (mark_for (map (end_in link) (serials_of link)) page.serial) page) first
    ∙ sym (cond-true (is_first page) (page ∷ []) (up_to (end_mark (pages_with page.serial link)) page) first)

known_alike : (link : List Page) (page : Page) → has_stream link page.serial ≡ true → Alike link page
unfolding Alike
known_alike link page known = ap (λ m. finished_page m page) (found_for link (serials_of link) page.serial known)

each_alike : (link pages : List Page) → AllByRecursion (Alike link) pages → finished_by (map (end_in link) (serials_of link)) pages ≡ flat_map (λ page. finished_page (end_mark (pages_with page.serial link)) page) pages
unfolding Alike
each_alike link [] all = refl
each_alike link (page ∷ pages) all =
    ap (λ l. l ++ finished_by (map (end_in link) (serials_of link)) pages) all.0
    ∙ ap (λ l. finished_page (end_mark (pages_with page.serial link)) page ++ l) (each_alike link pages all.1)

pub by_ends : (link : List Page) → IsLink link → finished_by (map (end_in link) (serials_of link)) link ≡ finished_link link
by_ends link l =
    each_alike link link
    (subst (AllByRecursion (Alike link)) (sym l.split)
    (all_both (Alike link) l.first_pages l.others
    (all_weaker (λ (p : Page). is_first p ≡ true) (Alike link) (first_alike link) l.first_pages l.marked)
    (all_weaker (λ (p : Page). has_stream link p.serial ≡ true) (Alike link) (known_alike link) l.others l.known)))

-- ---- the index has the link's streams
inside : {A : Type 0} (x y : A) → Some x ≡ Some y → x ≡ y
inside x y e = cc

pub streams_in : (links : List (List Page)) (number start : ℕ) (pages : List Page) (entry : LinkEntry) → slice_get links number ≡ Some pages
    → slice_get (index_from start links) number ≡ Some entry → entry.streams ≡ map (stream_info pages) (serials_of pages)
streams_in [] number start pages entry e f = cc
streams_in (link ∷ links) zero start pages entry e f =
    ap (λ (x : LinkEntry). x.streams) (sym (inside (link_entry start link) entry f)) ∙ ap (λ (l : List Page). map (stream_info l) (serials_of l)) (inside link pages e)
streams_in (link ∷ links) (suc number) start pages entry e f = streams_in links number (start + length (bytes_of_pages link)) pages entry e f

pub pages_in : (links : List (List Page)) (number start : ℕ) → number < length (index_from start links) → (pages : List Page) × (slice_get links number ≡ Some pages)
pages_in [] number start lt = absurd (omega (arith, lt))
pages_in (link ∷ links) zero start lt = (link, refl)
pages_in (link ∷ links) (suc number) start lt = pages_in links number (start + length (bytes_of_pages link)) (omega (arith, lt))

pub as_many_links : (links : List (List Page)) (start : ℕ) → length (index_from start links) ≡ length links
as_many_links [] start = refl
as_many_links (link ∷ links) start = ap suc (as_many_links links (start + length (bytes_of_pages link)))

pub link_in : (links : List (List Page)) (number : ℕ) (pages : List Page) → AllByRecursion IsLink links → slice_get links number ≡ Some pages → IsLink pages
link_in [] number pages each e = cc
link_in (link ∷ links) zero pages each e = subst IsLink (inside link pages e) each.0
link_in (link ∷ links) (suc number) pages each e = link_in links number pages each.1 e

-- ---- a link's streams are few
few_filtered : (test : Page → Bool) (pages : List Page) → length (map (λ (p : Page). p.serial) (filter test pages)) ≤ length pages
few_filtered test [] = omega arith
few_filtered test (page ∷ pages) =
    let rest = few_filtered test pages in
    cond_both (test page) (page ∷ filter test pages) (filter test pages) (λ (l : List Page). length (map (λ (p : Page). p.serial) l) ≤ suc (length pages))
    (λ _. omega (arith, rest)) (λ _. omega (arith, rest))

same_count : {A B : Type 0} (f : A → B) (xs : List A) → length (map f xs) ≡ length xs
same_count f [] = refl
same_count f (x ∷ xs) = ap suc (same_count f xs)

pub few_streams : (pages : List Page) → IsLink pages → length (map (stream_info pages) (serials_of pages)) ≤ 64
few_streams pages l =
    let own : serials_of pages ≡ serials_of l.first_pages = ap serials_of l.split ∙ serials_same l.first_pages l.others l.unmarked in
    omega (arith, same_count (stream_info pages) (serials_of pages), ap length own, few_filtered is_first l.first_pages, l.few)
