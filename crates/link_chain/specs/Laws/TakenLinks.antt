-- Pages that are taken in turn are the pages of links.
use Rattle.std.proofs.Common.{◌≡◌, ◌≢◌, ℕ, suc, ◌+◌, ◌/◌, ◌%◌, ◌<◌, ◌≤◌, Bool, true, false, cond, List, [], ◌∷◌, ◌++◌, length, map, replicate, sum, refl, sym, ◌∙◌, ap, subst, arith, append_assoc, inl, inr, None, Some, length-append}
use Rattle.std.specs.Prelude.{nat_eq, ◌||◌, ◌&&◌, not}
use Rattle.std.specs.List.{AllByRecursion, IsDistinct, list_any, flat_map, filter}
use Rattle.std.specs.Option.{option_map_or}
use Rattle.std.proofs.lemmas.List.{append-nil, length-map}
use Rattle.std.proofs.lemmas.List.Concat.{flat_map-append}
use Rattle.std.proofs.lemmas.List.Sums.{sum_by-cons}
use Rattle.std.proofs.lemmas.Bool.{cond-true, cond_both, ne_eqb, eqb-true, eqb-false, cases_eq, cases_Bool, or_parts, and_parts, ltb-true, leb-false, not-false}
use Rattle.ogg_page.specs.Page.{Page, IsPage, page_bytes, bytes_of_pages}
use Rattle.ogg_page.specs.Lacing.{ends_open, lace, lacing_of}
use Rattle.ogg_page.specs.LogicalStream.{FitsBehind, FlagsFit, joined_lacing, number_behind, is_first, is_continued, is_last}
use Rattle.ogg_page.specs.StreamLaws.{false_is_not_true, behind_both, ends_open-lace}
use Rattle.link_chain.specs.declared.stream_state.StreamState.{StreamState}
use Rattle.link_chain.specs.Links.{IsLink, AreLinks, pages_with, serials_of, has_stream, has_ended, all_ended}
use Rattle.link_chain.specs.Progress.{stream_in}
use Rattle.link_chain.specs.ChainState.{ChainState, chain_state_of, state_of, last_link, is_open}
use Rattle.link_chain.specs.Links.{with_pages}
use Rattle.link_chain.specs.Taking.{fault_of_page, later_rules, joining_rules, opening_rules, links_with, AreTaken, is_one_packet, is_whole_packet, leaves_open}
use Rattle.link_chain.specs.Laws.Grow.{grow_link, all_weaker, stream_some, with_own, with_other, filter_all, filter_none}
use Rattle.link_chain.specs.Laws.LastLink.{open_link, open_some, known_stream, spelled_more, pages_more, length_more, ended_more, some_open}
use Rattle.link_chain.specs.Laws.LastLink.{each_known, ended_links, last_is_link, closed_link}
use Rattle.link_chain.specs.Laws.Rules.{NoneBroken}
use Rattle.link_chain.specs.Laws.PageRules.{later_kept, joining_kept, opening_kept}
use Rattle.link_chain.specs.Laws.PageState.{begins_here, goes_on_open, goes_on_later, not_zero, open_with, absent, all_first, serials_both}
use Rattle.ogg_page.specs.Laws.PageBytes.{all_both}

-- ---- further pages for the last link
each_more : (links : List (List Page)) (pages : List Page) → (IsLink (last_link links) → IsLink (last_link links ++ pages)) → AllByRecursion IsLink links → AllByRecursion IsLink (with_pages links pages)
each_more [] pages step h = tt
each_more (link ∷ []) pages step h = (step h.0, tt)
each_more (link ∷ next ∷ links) pages step h = (h.0, each_more (next ∷ links) pages step h.1)

last_more : (bytes : List ℕ) (links : List (List Page)) (page : Page) → links ≢ [] → IsPage page → (IsLink (last_link links) → IsLink (last_link links ++ page ∷ [])) →
    AreLinks bytes links → AreLinks (bytes ++ page_bytes page) (with_pages links (page ∷ []))
last_more bytes links page some is step l = record {
  spelled = ap (λ b. bytes ++ b) (sym (append-nil (page_bytes page))) ∙ ap (λ b. b ++ bytes_of_pages (page ∷ [])) l.spelled ∙ spelled_more links (page ∷ []) some;
  pages = pages_more links (page ∷ []) l.pages (is, tt);
  few = subst (λ n. n ≤ 65536) (sym (length_more links (page ∷ []))) l.few;
  each = each_more links (page ∷ []) step l.each;
  ended = ended_more (λ link. all_ended link ≡ true) links (page ∷ []) l.ended;
}

-- ---- a page that is no stream's first
continued_is : (c e : Bool) → cond c (not e) (not (not e)) ≡ false → c ≡ e
continued_is true true h = refl
continued_is true false h = cc
continued_is false true h = cc
continued_is false false h = refl

some_unended : (ended : ℕ → Bool) (serial : ℕ) (xs : List ℕ) → ended serial ≡ false → list_any (nat_eq serial) xs ≡ true → list_any (λ s. not (ended s)) xs ≡ true
some_unended ended serial [] e there = cc
some_unended ended serial (x ∷ xs) e there =
    elim (cases_eq serial x) [
      | inl same ↦ ap (λ b. not b || list_any (λ s. not (ended s)) xs) (ap ended (sym same) ∙ e)
      | inr other ↦
          or_later (not (ended x)) (list_any (λ s. not (ended s)) xs)
          (some_unended ended serial xs e (sym (ap (λ b. b || list_any (nat_eq serial) xs) (ne_eqb serial x other)) ∙ there))
    ]
  where
    or_later : (a b : Bool) → b ≡ true → (a || b) ≡ true
    or_later true b h = refl
    or_later false b h = h

at_stream : (links : List (List Page)) (serial : ℕ) (test : StreamState → Bool) → stream_in (chain_state_of links).streams serial ≡ Some (state_of (last_link links) serial) →
    option_map_or test (stream_in (chain_state_of links).streams serial) false ≡ test (state_of (last_link links) serial)
at_stream links serial test e = ap (λ o. option_map_or test o false) e

later_link : (links : List (List Page)) (page : Page) → is_first page ≡ false → NoneBroken (later_rules (chain_state_of links) page) → IsLink (last_link links) → IsLink (last_link links ++ page ∷ [])
later_link links page unmarked kept l =
    let link : List Page = last_link links in
    let chain : ChainState = chain_state_of links in
    let serial : ℕ = page.serial in
    let own : List Page = pages_with serial link in
    let known : (has_stream link serial ≡ true) × (stream_in chain.streams serial ≡ Some (state_of link serial)) = known_stream links serial kept.1.0 in
    let at : (test : StreamState → Bool) → option_map_or test (stream_in chain.streams serial) false ≡ test (state_of link serial) = λ test. at_stream links serial test known.1 in
    let unended : has_ended link serial ≡ false = sym (at (λ stream. stream.ended)) ∙ kept.1.1.0 in
    let number : page.sequence ≡ number_behind own =
    eqb-true page.sequence (number_behind own) (not-false (nat_eq page.sequence (number_behind own)) (sym (at (λ stream. not (nat_eq page.sequence stream.next_sequence))) ∙ kept.1.1.1.0)) in
    let continued : is_continued page ≡ ends_open (joined_lacing own) =
    continued_is (is_continued page) (ends_open (joined_lacing own)) (sym (at (λ stream. cond (is_continued page) stream.finished (not stream.finished))) ∙ kept.1.1.1.1.0) in
    let fits : FitsBehind own page = record {
      continued = continued;
      sequence = λ _. number;
      first = (λ e. false_is_not_true (is_first page) unmarked e, λ e. absurd (stream_some link serial known.0 e));
      first_packet = λ e. absurd (stream_some link serial known.0 e);
      last = unended;
      last_packet = λ last.
          ap ends_open (flat_map-append (λ (p : Page). p.lacing) own (page ∷ []) ∙ ap (λ l. joined_lacing own ++ l) (append-nil page.lacing))
          ∙ open_with (joined_lacing own) page.lacing
          ∙ sym (ap (λ b. b && leaves_open page (state_of link serial)) last)
          ∙ sym (at (λ stream. is_last page && leaves_open page stream)) ∙ kept.1.1.1.1.1.0;
    } in
    let opened : all_ended link ≡ false = some_open (has_ended link) is_first link (some_unended (has_ended link) serial (serials_of link) unended known.0) in
    grow_link link serial (page ∷ []) l known.0 (refl, tt) (unmarked, tt) (fits, tt) (λ _. opened, tt)

-- ---- a stream's first page
pub more_lacing : (n : ℕ) → lacing_of (255 + n) ≡ 255 ∷ lacing_of n
unfolding lacing_of
more_lacing n =
    let quotient : (255 + n) / 255 ≡ suc (n / 255) = omega arith in
    let rest : (255 + n) % 255 ≡ n % 255 = omega arith in
    ap (λ k. replicate k 255 ++ (255 + n) % 255 ∷ []) quotient ∙ ap (λ r. 255 ∷ (replicate (n / 255) 255 ++ r ∷ [])) rest

pub one_lacing : (n : ℕ) → n < 255 → n ∷ [] ≡ lacing_of n
unfolding lacing_of
one_lacing n small =
    let quotient : n / 255 ≡ 0 = omega arith in
    let rest : n % 255 ≡ n = omega arith in
    sym (ap (λ k. replicate k 255 ++ n % 255 ∷ []) quotient ∙ ap (λ r. r ∷ []) rest)

pub whole_lacing : (lacing : List ℕ) → is_one_packet lacing ≡ true → lacing ≡ lacing_of (sum lacing)
whole_lacing [] e = cc
whole_lacing (value ∷ []) e =
    one_lacing value (ltb-true value 255 e) ∙ ap lacing_of (sym (sum_by-cons (λ x. x) value [] ∙ omega arith))
whole_lacing (value ∷ next ∷ values) e =
    let parts : (nat_eq value 255 ≡ true) × (is_one_packet (next ∷ values) ≡ true) = and_parts (nat_eq value 255) (is_one_packet (next ∷ values)) e in
    let is : value ≡ 255 = eqb-true value 255 parts.0 in
    ap (λ l. value ∷ l) (whole_lacing (next ∷ values) parts.1)
    ∙ ap (λ v. v ∷ lacing_of (sum (next ∷ values))) is
    ∙ sym (more_lacing (sum (next ∷ values)))
    ∙ ap lacing_of (sym (sum_by-cons (λ x. x) value (next ∷ values) ∙ ap (λ v. v + sum (next ∷ values)) is))

whole_fits : (page : Page) → IsPage page → is_first page ≡ true → is_whole_packet page ≡ true → FitsBehind [] page
whole_fits page is first whole =
    let parts : (not (is_continued page) ≡ true) × (is_one_packet page.lacing ≡ true) = and_parts (not (is_continued page)) (is_one_packet page.lacing) whole in
    let lacing : page.lacing ≡ lace page.body = whole_lacing page.lacing parts.1 ∙ ap lacing_of is.whole in
    record {
      continued = no (is_continued page) parts.0;
      sequence = λ ne. absurd (ne refl);
      first = (λ _. refl, λ _. first);
      first_packet = λ _. (page.body, lacing);
      last = refl;
      last_packet = λ _. ap ends_open (append-nil page.lacing ∙ lacing) ∙ ends_open-lace page.body;
    }
  where
    no : (b : Bool) → not b ≡ true → b ≡ false
    no true e = cc
    no false e = refl

one_link : (page : Page) → IsPage page → is_first page ≡ true → is_whole_packet page ≡ true → IsLink (page ∷ [])
unfolding IsDistinct
one_link page is first whole =
    let serials : serials_of (page ∷ []) ≡ page.serial ∷ [] = ap (map (λ (p : Page). p.serial)) (cond-true (is_first page) (page ∷ []) [] first) in
    record {
      first_pages = page ∷ [];
      others = [];
      split = refl;
      marked = (first, tt);
      some = omega arith;
      few = omega arith;
      distinct = subst (λ (s : List ℕ). IsDistinct nat_eq s) (sym serials) (tt, tt);
      unmarked = tt;
      known = tt;
      streams = λ serial. cond_both (nat_eq page.serial serial) (page ∷ []) [] FlagsFit (λ _. (whole_fits page is first whole, tt)) (λ _. tt);
      one = (λ ne. absurd (ne refl), tt);
    }

pub distinct_push : (xs : List ℕ) (y : ℕ) → IsDistinct nat_eq xs → list_any (nat_eq y) xs ≡ false → IsDistinct nat_eq (xs ++ y ∷ [])
unfolding IsDistinct
distinct_push [] y d e = (tt, tt)
distinct_push (x ∷ xs) y d e =
    let parts : (nat_eq y x ≡ false) × (list_any (nat_eq y) xs ≡ false) = or_parts (nat_eq y x) (list_any (nat_eq y) xs) e in
    (all_both (λ z. nat_eq x z ≡ false) xs (y ∷ []) d.0 (ne_eqb x y (λ f. eqb-false y x parts.0 (sym f)), tt), distinct_push xs y d.1 parts.1)

pub without : (link : List Page) (serial : ℕ) → IsLink link → has_stream link serial ≡ false → pages_with serial link ≡ []
without link serial l none =
    filter_none (λ (p : Page). nat_eq p.serial serial) link
    (all_weaker (λ (p : Page). has_stream link p.serial ≡ true) (λ (p : Page). nat_eq p.serial serial ≡ false)
    (λ p there. ne_eqb p.serial serial (λ e. false_is_not_true (has_stream link p.serial) (ap (has_stream link) e ∙ none) there)) link (each_known link l))

first_link : (links : List (List Page)) (page : Page) → IsPage page → is_first page ≡ true → is_open (chain_state_of links) ≡ true →
    list_any (λ p. not (is_first p)) (last_link links) ≡ false → has_stream (last_link links) page.serial ≡ false → is_whole_packet page ≡ true →
    length (serials_of (last_link links)) < 64 → IsLink (last_link links) → IsLink (last_link links ++ page ∷ [])
first_link links page is first opened bare none whole few l =
    let link : List Page = last_link links in
    let marked : AllByRecursion (λ (p : Page). is_first p ≡ true) link = all_first link bare in
    let marked' : AllByRecursion (λ (p : Page). is_first p ≡ true) (link ++ page ∷ []) = all_both (λ (p : Page). is_first p ≡ true) link (page ∷ []) marked (first, tt) in
    let count : length (serials_of link) ≡ length link =
    length-map (filter is_first link) (λ (p : Page). p.serial) ∙ ap length (filter_all is_first link marked) in
    let serials : serials_of (link ++ page ∷ []) ≡ serials_of link ++ page.serial ∷ [] =
    serials_both link (page ∷ []) ∙ ap (λ (x : List Page). serials_of link ++ map (λ (p : Page). p.serial) x) (cond-true (is_first page) (page ∷ []) [] first) in
    record {
      first_pages = link ++ page ∷ [];
      others = [];
      split = sym (append-nil (link ++ page ∷ []));
      marked = marked';
      some = omega (arith, length-append link (page ∷ []));
      few = omega (arith, length-append link (page ∷ []));
      distinct = subst (λ (s : List ℕ). IsDistinct nat_eq s) (sym serials) (distinct_push (serials_of link) page.serial l.distinct none);
      unmarked = tt;
      known = tt;
      streams = λ serial.
          (elim (cases_eq page.serial serial) [
            | inl same ↦
                subst FlagsFit
                (sym (with_own serial link (page ∷ []) (same, tt)
                ∙ ap (λ (x : List Page). x ++ page ∷ []) (without link serial l (ap (has_stream link) (sym same) ∙ none))))
                (whole_fits page is first whole, tt)
            | inr other ↦ subst FlagsFit (sym (with_other page.serial serial link (page ∷ []) (refl, tt) other)) (l.streams serial)
          ]);
      one = behind_both (λ (before : List Page) (p : Page). before ≢ [] → all_ended before ≡ false) [] link (page ∷ []) l.one (λ _. open_link links opened, tt);
    }

-- ---- one page
pub page_is_taken : (bytes : List ℕ) (links : List (List Page)) (page : Page) → IsPage page → AreLinks bytes links → fault_of_page (chain_state_of links) page ≡ None →
    AreLinks (bytes ++ page_bytes page) (links_with links page)
page_is_taken bytes links page is l e =
    elim (cases_Bool (is_first page)) [
      | inl first ↦
          elim (cases_Bool (is_open (chain_state_of links))) [
            | inl opened ↦
                (let kept : NoneBroken (joining_rules (chain_state_of links) page) = joining_kept (chain_state_of links) page first opened e in
                let few : length (serials_of (last_link links)) < 64 =
                subst (λ n. n < 64) (length-map (serials_of (last_link links)) (state_of (last_link links)))
                (leb-false 64 (length (map (state_of (last_link links)) (serials_of (last_link links)))) kept.1.1.1.0) in
                subst (AreLinks (bytes ++ page_bytes page)) (sym (goes_on_open links page opened))
                (last_more bytes links page (open_some links opened) is
                (first_link links page is first opened kept.0 (absent links page.serial kept.1.0) (not-false (is_whole_packet page) kept.1.1.0) few) l))
            | inr closed ↦
                (let kept : NoneBroken (opening_rules (chain_state_of links) page) = opening_kept (chain_state_of links) page first closed e in
                let small : length links < 65536 = leb-false 65536 (length links) kept.1.0 in
                subst (AreLinks (bytes ++ page_bytes page)) (sym (begins_here links page first closed))
                (record {
                  spelled = ap (λ b. b ++ page_bytes page) l.spelled
                      ∙ ap (λ b. flat_map bytes_of_pages links ++ b) (sym (append-nil (page_bytes page)) ∙ sym (append-nil (page_bytes page ++ [])))
                      ∙ sym (flat_map-append bytes_of_pages links ((page ∷ []) ∷ []));
                  pages = all_both (AllByRecursion IsPage) links ((page ∷ []) ∷ []) l.pages ((is, tt), tt);
                  few = omega (arith, length-append links ((page ∷ []) ∷ []));
                  each = all_both IsLink links ((page ∷ []) ∷ []) l.each (one_link page is first (not-false (is_whole_packet page) kept.0), tt);
                  ended = ended_links (λ x. all_ended x ≡ true) links (page ∷ []) l.ended (λ ne. closed_link links (last_is_link links l.each ne) closed);
                }))
          ]
      | inr later ↦
          (let kept : NoneBroken (later_rules (chain_state_of links) page) = later_kept (chain_state_of links) page later e in
          subst (AreLinks (bytes ++ page_bytes page)) (sym (goes_on_later links page later))
          (last_more bytes links page (not_zero links kept.0) is (later_link links page later kept) l))
    ]

pub are_taken : (pages : List Page) (bytes : List ℕ) (start links : List (List Page)) → AllByRecursion IsPage pages → AreLinks bytes start → AreTaken start pages links →
    AreLinks (bytes ++ bytes_of_pages pages) links
are_taken [] bytes start links are l h =
    subst (AreLinks (bytes ++ [])) (sym h) (subst (λ (b : List ℕ). AreLinks b start) (sym (append-nil bytes)) l)
are_taken (page ∷ pages) bytes start links are l h =
    subst (λ (b : List ℕ). AreLinks b links) (append_assoc bytes (page_bytes page) (bytes_of_pages pages))
    (are_taken pages (bytes ++ page_bytes page) (links_with start page) links are.1 (page_is_taken bytes start page are.0 l h.0) h.1)

pub taken : (pages : List Page) (links : List (List Page)) → AllByRecursion IsPage pages → AreTaken [] pages links → AreLinks (bytes_of_pages pages) links
taken pages links are h =
    are_taken pages [] [] links are (record { spelled = refl; pages = tt; few = omega arith; each = tt; ended = tt }) h

-- ---- pages taken in turn
pub taken_front : (start : List (List Page)) (front rest : List Page) (links : List (List Page)) → AreTaken start (front ++ rest) links
    → (middle : List (List Page)) × AreTaken start front middle
taken_front start [] rest links all = (start, refl)
taken_front start (page ∷ front) rest links all =
    let (middle, more) = taken_front (links_with start page) front rest links all.1 in
    (middle, (all.0, more))
