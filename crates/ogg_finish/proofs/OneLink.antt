-- Finished links are links, and hold the same.
use Rattle.std.proofs.Common.{◌≡◌, ◌≢◌, ℕ, suc, ◌≤◌, Bool, true, false, cond, List, [], ◌∷◌, ◌++◌, length, refl, sym, ◌∙◌, ap, subst, eq-eqb, inl, inr, Option, None, Some}
use Rattle.std.specs.Prelude.{nat_eq, nat_lt}
use Rattle.std.specs.List.{AllByRecursion, AllZip, IsDistinct, flat_map, list_any}
use Rattle.std.proofs.lemmas.List.Concat.{flat_map-append}
use Rattle.std.proofs.lemmas.List.Elements.{filter-append}
use Rattle.std.proofs.lemmas.Bool.{ne_eqb, cases_eq, cond-true, cond-false, cond_both}
use Rattle.ogg_page.specs.Page.{Page, IsPage, bytes_of_pages}
use Rattle.ogg_page.specs.LogicalStream.{FlagsFit, is_first}
use Rattle.ogg_page.specs.StreamLaws.{behind_both, behind_front}
use Rattle.link_chain.specs.ChainState.{last_position}
use Rattle.link_chain.specs.Links.{IsLink, AreLinks, AllButLast, pages_with, serials_of, has_stream, has_ended, all_ended}
use Rattle.link_chain.specs.Recording.{Stream, Recording, HoldsStream, HoldsLink, HoldsLinks}
use Rattle.link_chain.specs.Laws.Grow.{all_true, each_true, all_weaker, all_filter, Own, Unmarked, OpenBehind, own_with, other_with, serials_same, stream_same}
use Rattle.link_chain.specs.Laws.Fronts.{goes_on}
use Rattle.ogg_finish.specs.Ended.{EndsFull}
use Rattle.ogg_finish.specs.Finishing.{end_mark, marked_last, up_to, finished_page, finished_stream, finished_link, finished_links}
use Rattle.ogg_finish.specs.declared.stream_end.Mark.{Mark}
use Rattle.ogg_finish.proofs.OneStream.{SameStream, same_stream, marked_first, marked_is_page}
use Rattle.ogg_page.specs.Laws.PageBytes.{all_both}

-- ---- a page, finished
-- what holds of a page, and of it marked as last, holds of each page that it becomes
each_page : (P : Page → Type 0) (mark : Option Mark) (page : Page) → P page → (is_first page ≡ false → P (marked_last page)) →
    AllByRecursion P (finished_page mark page)
each_page P mark page h m =
    cond_both (is_first page) (page ∷ []) (up_to mark page) (λ l. AllByRecursion P l) (λ _. (h, tt)) (λ later. by_mark mark later)
  where
    by_mark : (o : Option Mark) → is_first page ≡ false → AllByRecursion P (up_to o page)
    by_mark None later = (h, tt)
    by_mark (Some n) later =
        cond_both (nat_lt page.sequence n.sequence) (page ∷ []) (cond (nat_eq page.sequence n.sequence) (marked_last page ∷ []) []) (λ l. AllByRecursion P l)
        (λ _. (h, tt))
        (λ _. cond_both (nat_eq page.sequence n.sequence) (marked_last page ∷ []) [] (λ l. AllByRecursion P l) (λ _. (m later, tt)) (λ _. tt))

-- for the pages of any link
abbrev in_link : List Page → Page → List Page
in_link link page = finished_page (end_mark (pages_with page.serial link)) page

each_of : (P : Page → Type 0) (link pages : List Page) → ((page : Page) → P page → is_first page ≡ false → P (marked_last page)) →
    AllByRecursion P pages → AllByRecursion P (flat_map (in_link link) pages)
each_of P link [] m all = tt
each_of P link (page ∷ pages) m all =
    all_both P (in_link link page) (flat_map (in_link link) pages)
    (each_page P (end_mark (pages_with page.serial link)) page all.0 (m page all.0)) (each_of P link pages m all.1)

own_page : (link : List Page) (page : Page) → Own page.serial (in_link link page)
own_page link page = each_page (λ (p : Page). p.serial ≡ page.serial) (end_mark (pages_with page.serial link)) page refl (λ _. refl)

-- ---- each stream for itself
with_finished : (link pages : List Page) (serial : ℕ) →
    pages_with serial (flat_map (in_link link) pages) ≡ flat_map (finished_page (end_mark (pages_with serial link))) (pages_with serial pages)
with_finished link [] serial = refl
with_finished link (page ∷ pages) serial =
    let number : ℕ → Option Mark = λ s. end_mark (pages_with s link) in
    let test : Page → Bool = λ (p : Page). nat_eq p.serial serial in
    let rest : List Page = flat_map (finished_page (number serial)) (pages_with serial pages) in
    let start : pages_with serial (flat_map (in_link link) (page ∷ pages)) ≡ pages_with serial (in_link link page) ++ rest =
    filter-append test (in_link link page) (flat_map (in_link link) pages)
    ∙ ap (λ l. pages_with serial (in_link link page) ++ l) (with_finished link pages serial) in
    elim (cases_eq page.serial serial) [
      | inl same ↦
          start
          ∙ ap (λ l. l ++ rest) (own_with serial (in_link link page) (subst (λ (s : ℕ). Own s (in_link link page)) same (own_page link page)))
          ∙ ap (λ s. finished_page (number s) page ++ rest) same
          ∙ ap (flat_map (finished_page (number serial))) (sym (cond-true (test page) (page ∷ pages_with serial pages) (pages_with serial pages) (eq-eqb page.serial serial same)))
      | inr other ↦
          start
          ∙ ap (λ l. l ++ rest) (other_with page.serial serial (in_link link page) (own_page link page) other)
          ∙ ap (flat_map (finished_page (number serial))) (sym (cond-false (test page) (page ∷ pages_with serial pages) (pages_with serial pages) (ne_eqb page.serial serial other)))
    ]

pub of_stream : (link : List Page) (serial : ℕ) → pages_with serial (finished_link link) ≡ finished_stream (pages_with serial link)
of_stream link serial = with_finished link link serial

same_in : (link : List Page) (serial : ℕ) → IsLink link → AllByRecursion IsPage link → SameStream (pages_with serial link) (pages_with serial (finished_link link))
same_in link serial l all =
    subst (λ (n : List Page). SameStream (pages_with serial link) n) (sym (of_stream link serial))
    (same_stream (pages_with serial link) (l.streams serial) (all_filter IsPage (λ (p : Page). nat_eq p.serial serial) link all))

pub end_full : (link : List Page) (serial : ℕ) → IsLink link → AllByRecursion IsPage link → has_ended link serial ≡ true →
    EndsFull (pages_with serial link) (pages_with serial (finished_link link))
end_full link serial l all ended = (same_in link serial l all).ends ended

pub same_reached : (link : List Page) (serial : ℕ) → IsLink link → AllByRecursion IsPage link →
    last_position (pages_with serial (finished_link link)) ≡ last_position (pages_with serial link)
same_reached link serial l all = (same_in link serial l all).position

ended_alike : (link : List Page) (serial : ℕ) → IsLink link → AllByRecursion IsPage link → has_ended (finished_link link) serial ≡ has_ended link serial
ended_alike link serial l all = (same_in link serial l all).ended

-- ---- the first pages, and the others
first_stay : (link pages : List Page) → AllByRecursion (λ page. is_first page ≡ true) pages → flat_map (in_link link) pages ≡ pages
first_stay link [] h = refl
first_stay link (page ∷ pages) h =
    ap (λ l. l ++ flat_map (in_link link) pages)
    (cond-true (is_first page) (page ∷ []) (up_to (end_mark (pages_with page.serial link)) page) h.0)
    ∙ ap (λ l. page ∷ l) (first_stay link pages h.1)

abbrev others_of : (link : List Page) → IsLink link → List Page
others_of link l = flat_map (in_link link) l.others

split_new : (link : List Page) (l : IsLink link) → finished_link link ≡ l.first_pages ++ others_of link l
split_new link l =
    ap (flat_map (in_link link)) l.split
    ∙ flat_map-append (in_link link) l.first_pages l.others
    ∙ ap (λ x. x ++ others_of link l) (first_stay link l.first_pages l.marked)

others_unmarked : (link : List Page) (l : IsLink link) → Unmarked (others_of link l)
others_unmarked link l = each_of (λ (p : Page). is_first p ≡ false) link l.others (λ p e later. marked_first p ∙ later) l.unmarked

serials_alike : (link : List Page) → IsLink link → serials_of (finished_link link) ≡ serials_of link
serials_alike link l =
    ap serials_of (split_new link l) ∙ serials_same l.first_pages (others_of link l) (others_unmarked link l)
    ∙ sym (serials_same l.first_pages l.others l.unmarked) ∙ ap serials_of (sym l.split)

stream_alike : (link : List Page) (serial : ℕ) → IsLink link → has_stream (finished_link link) serial ≡ has_stream link serial
stream_alike link serial l = ap (list_any (nat_eq serial)) (serials_alike link l)

-- ---- the finished link
is_link : (link : List Page) → IsLink link → AllByRecursion IsPage link → IsLink (finished_link link)
is_link link l all =
    let others : List Page = others_of link l in
    let split : finished_link link ≡ l.first_pages ++ others = split_new link l in
    let later : Unmarked others = others_unmarked link l in
    let there : AllByRecursion (λ page. has_stream link page.serial ≡ true) others =
    each_of (λ (p : Page). has_stream link p.serial ≡ true) link l.others (λ p e _. e) l.known in
    let fits : (serial : ℕ) → FlagsFit (pages_with serial (finished_link link)) = λ serial. (same_in link serial l all).fits in
    let open_first : OpenBehind [] l.first_pages =
    behind_front (λ (before : List Page) (page : Page). before ≢ [] → all_ended before ≡ false) [] l.first_pages l.others
    (subst (λ (x : List Page). OpenBehind [] x) l.split l.one) in
    let first_there : AllByRecursion (λ page. has_stream l.first_pages page.serial ≡ true) others =
    all_weaker (λ (p : Page). has_stream link p.serial ≡ true) (λ (p : Page). has_stream l.first_pages p.serial ≡ true)
    (λ p e. sym (ap (λ x. has_stream x p.serial) l.split ∙ stream_same l.first_pages l.others p.serial l.unmarked) ∙ e) others there in
    let open_others : OpenBehind l.first_pages others =
    goes_on l.first_pages others later first_there (λ serial. subst (λ (x : List Page). FlagsFit (pages_with serial x)) split (fits serial)) in
    record {
      first_pages = l.first_pages;
      others = others;
      split = split;
      marked = l.marked;
      some = l.some;
      few = l.few;
      distinct = subst (λ (s : List ℕ). IsDistinct nat_eq s) (sym (serials_alike link l)) l.distinct;
      unmarked = later;
      known = all_weaker (λ (p : Page). has_stream link p.serial ≡ true) (λ (p : Page). has_stream (finished_link link) p.serial ≡ true)
          (λ p e. stream_alike link p.serial l ∙ e) others there;
      streams = fits;
      one = subst (λ (x : List Page). OpenBehind [] x) (sym split)
          (behind_both (λ (before : List Page) (page : Page). before ≢ [] → all_ended before ≡ false) [] l.first_pages others open_first open_others);
    }

are_pages : (link : List Page) → AllByRecursion IsPage link → AllByRecursion IsPage (finished_link link)
are_pages link all = each_of IsPage link link (λ p h _. marked_is_page p h) all

-- ---- what it holds
held_stream : (link : List Page) (serial : ℕ) (stream : Stream) → IsLink link → AllByRecursion IsPage link → HoldsStream link serial stream →
    HoldsStream (finished_link link) serial stream
held_stream link serial stream l all h =
    let same : SameStream (pages_with serial link) (pages_with serial (finished_link link)) = same_in link serial l all in
    record {
      serial_is = h.serial_is;
      packets = record {
        lacing = same.lacing ∙ h.packets.lacing;
        bodies = same.bodies ∙ h.packets.bodies;
        rest_size = h.packets.rest_size;
      };
      ended = h.ended ∙ sym same.ended;
    }

zip_weaker : {A B : Type 0} (R S : A → B → Type 0) → ((a : A) (b : B) → R a b → S a b) → (xs : List A) (ys : List B) → AllZip R xs ys → AllZip S xs ys
zip_weaker R S f [] [] z = tt
zip_weaker R S f [] (y ∷ ys) z = absurd z
zip_weaker R S f (x ∷ xs) [] z = absurd z
zip_weaker R S f (x ∷ xs) (y ∷ ys) z = (f x y z.0, zip_weaker R S f xs ys z.1)

held_link : (link : List Page) (streams : List Stream) → IsLink link → AllByRecursion IsPage link → HoldsLink link streams → HoldsLink (finished_link link) streams
held_link link streams l all h =
    subst (λ (s : List ℕ). AllZip (HoldsStream (finished_link link)) s streams) (sym (serials_alike link l))
    (zip_weaker (HoldsStream link) (HoldsStream (finished_link link)) (λ serial stream hs. held_stream link serial stream l all hs) (serials_of link) streams h)

-- ---- links
still_ended : (link : List Page) → IsLink link → AllByRecursion IsPage link → all_ended link ≡ true → all_ended (finished_link link) ≡ true
still_ended link l all e =
    all_true (λ (p : Page). has_ended (finished_link link) p.serial) (finished_link link)
    (all_weaker (λ (p : Page). has_ended link p.serial ≡ true) (λ (p : Page). has_ended (finished_link link) p.serial ≡ true)
    (λ p h. ended_alike link p.serial l all ∙ h) (finished_link link)
    (each_of (λ (p : Page). has_ended link p.serial ≡ true) link link (λ p h _. h) (each_true (λ (p : Page). has_ended link p.serial) link e)))

are_all_pages : (links : List (List Page)) → AllByRecursion (AllByRecursion IsPage) links → AllByRecursion (AllByRecursion IsPage) (finished_links links)
are_all_pages [] all = tt
are_all_pages (link ∷ links) all = (are_pages link all.0, are_all_pages links all.1)

each_link : (links : List (List Page)) → AllByRecursion (AllByRecursion IsPage) links → AllByRecursion IsLink links → AllByRecursion IsLink (finished_links links)
each_link [] all each = tt
each_link (link ∷ links) all each = (is_link link each.0 all.0, each_link links all.1 each.1)

all_still_ended : (links : List (List Page)) → AllByRecursion (AllByRecursion IsPage) links → AllByRecursion IsLink links → AllButLast (λ link. all_ended link ≡ true) links →
    AllButLast (λ link. all_ended link ≡ true) (finished_links links)
all_still_ended [] all each ended = tt
all_still_ended (link ∷ []) all each ended = tt
all_still_ended (link ∷ next ∷ links) all each ended = (still_ended link each.0 all.0 ended.0, all_still_ended (next ∷ links) all.1 each.1 ended.1)

as_many : (links : List (List Page)) → length (finished_links links) ≡ length links
as_many [] = refl
as_many (link ∷ links) = ap suc (as_many links)

pub are_links : (bytes : List ℕ) (links : List (List Page)) → AreLinks bytes links → AreLinks (flat_map bytes_of_pages (finished_links links)) (finished_links links)
are_links bytes links are = record {
  spelled = refl;
  pages = are_all_pages links are.pages;
  few = subst (λ n. n ≤ 65536) (sym (as_many links)) are.few;
  each = each_link links are.pages are.each;
  ended = all_still_ended links are.pages are.each are.ended;
}

held_links : (links : List (List Page)) (recording : Recording) → AllByRecursion (AllByRecursion IsPage) links → AllByRecursion IsLink links → HoldsLinks links recording →
    HoldsLinks (finished_links links) recording
held_links [] [] all each h = tt
held_links [] (r ∷ recording) all each h = absurd h
held_links (link ∷ links) [] all each h = absurd h
held_links (link ∷ links) (r ∷ recording) all each h = (held_link link r each.0 all.0 h.0, held_links links recording all.1 each.1 h.1)

pub hold_links : (bytes : List ℕ) (links : List (List Page)) (recording : Recording) → AreLinks bytes links → HoldsLinks links recording → HoldsLinks (finished_links links) recording
hold_links bytes links recording are h = held_links links recording are.pages are.each h
