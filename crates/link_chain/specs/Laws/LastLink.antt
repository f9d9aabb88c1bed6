-- The last link: what the chain state says of it, what further pages do to it, and another link after it.
use Rattle.std.proofs.Common.{◌≡◌, ◌≢◌, ℕ, suc, ◌<◌, ◌≤◌, ◌^◌, Bool, true, false, cond, List, [], ◌∷◌, ◌++◌, length, map, refl, sym, ◌∙◌, ap, subst, arith, append_assoc, eq-eqb, inl, inr, Option, Some}
use Rattle.std.specs.Prelude.{nat_eq, nat_lt, ◌||◌, ◌&&◌, not, is_none}
use Rattle.std.specs.List.{AllByRecursion, filter, list_any, list_all, find, fold, flat_map}
use Rattle.std.specs.Option.{option_map_or}
use Rattle.std.proofs.lemmas.List.{append-nil}
use Rattle.std.proofs.lemmas.Bool.{eqb-true, ne_eqb, cases_eq, cases_Bool, cond-true, cond-false, cond_both, ltb-true, or_parts, or_left, or_right, not-false}
use Rattle.ogg_page.specs.Page.{Page, IsPage, bytes_of_pages, page_bytes}
use Rattle.ogg_page.specs.LogicalStream.{number_behind, is_first}
use Rattle.link_chain.specs.declared.stream_state.StreamState.{StreamState}
use Rattle.link_chain.specs.Links.{IsLink, AreLinks, AllButLast, pages_with, with_pages, serials_of, has_stream, has_ended, all_ended}
use Rattle.link_chain.specs.Recording.{Stream, Recording, HoldsLink, HoldsLinks, change_last}
use Rattle.link_chain.specs.ChainState.{chain_state_of, state_of, last_link, last_position, is_open}
use Rattle.link_chain.specs.Progress.{stream_in, next_in}
use Rattle.link_chain.specs.Laws.Grow.{all_true, all_weaker, filter_all, serials_same}
use Rattle.ogg_page.specs.Laws.PageBytes.{all_both}

pub all_split : {X : Type 0} (P : X → Type 0) (xs ys : List X) → AllByRecursion P (xs ++ ys) → AllByRecursion P xs × AllByRecursion P ys
all_split P [] ys h = (tt, h)
all_split P (x ∷ xs) ys h =
    let rest : AllByRecursion P xs × AllByRecursion P ys = all_split P xs ys h.1 in
    ((h.0, rest.0), rest.1)

-- ---- an open link
pub any_map : {X Y : Type 0} (test : Y → Bool) (f : X → Y) (xs : List X) → list_any test (map f xs) ≡ list_any (λ x. test (f x)) xs
any_map test f [] = refl
any_map test f (x ∷ xs) = ap (λ b. test (f x) || b) (any_map test f xs)

not_first : (a b : Bool) → a ≡ true → (not a || b) ≡ true → b ≡ true
not_first true b e f = f
not_first false b e f = cc

pub some_open : (ended : ℕ → Bool) (test : Page → Bool) (pages : List Page) →
    list_any (λ serial. not (ended serial)) (map (λ (p : Page). p.serial) (filter test pages)) ≡ true → list_all (λ page. ended page.serial) pages ≡ false
some_open ended test [] e = cc
some_open ended test (page ∷ pages) e =
    elim (cases_Bool (ended page.serial)) [
      | inl yes' ↦
          ap (λ b. b && list_all (λ (p : Page). ended p.serial) pages) yes'
          ∙ some_open ended test pages
          (cond_both (test page) (page ∷ filter test pages) (filter test pages)
          (λ l. list_any (λ serial. not (ended serial)) (map (λ (p : Page). p.serial) l) ≡ true → list_any (λ serial. not (ended serial)) (map (λ (p : Page). p.serial) (filter test pages)) ≡ true)
          (λ _ h. not_first (ended page.serial) (list_any (λ serial. not (ended serial)) (map (λ (p : Page). p.serial) (filter test pages))) yes' h)
          (λ _ h. h) e)
      | inr no' ↦ ap (λ b. b && list_all (λ (p : Page). ended p.serial) pages) no'
    ]

pub open_link : (links : List (List Page)) → is_open (chain_state_of links) ≡ true → all_ended (last_link links) ≡ false
open_link links e =
    some_open (has_ended (last_link links)) is_first (last_link links)
    (sym (any_map (λ (s : StreamState). not s.ended) (state_of (last_link links)) (serials_of (last_link links))) ∙ e)

pub open_some : (links : List (List Page)) → is_open (chain_state_of links) ≡ true → links ≢ []
open_some [] e f = cc
open_some (link ∷ links) e f = cc

-- ---- a stream of the last link
looked_up : (link : List Page) (serial : ℕ) (xs : List ℕ) → is_none (find (λ stream. nat_eq stream.serial serial) (map (state_of link) xs)) ≡ false →
    (list_any (nat_eq serial) xs ≡ true) × (find (λ stream. nat_eq stream.serial serial) (map (state_of link) xs) ≡ Some (state_of link serial))
looked_up link serial [] e = cc
looked_up link serial (x ∷ xs) e =
    let rest : Option StreamState = find (λ stream. nat_eq stream.serial serial) (map (state_of link) xs) in
    elim (cases_eq x serial) [
      | inl same ↦ (
        ap (λ b. b || list_any (nat_eq serial) xs) (eq-eqb serial x (sym same)),
        cond-true (nat_eq x serial) (Some (state_of link x)) rest (eq-eqb x serial same) ∙ ap (λ s. Some (state_of link s)) same,
      )
      | inr other ↦
          let skipped : find (λ stream. nat_eq stream.serial serial) (map (state_of link) (x ∷ xs)) ≡ rest =
          cond-false (nat_eq x serial) (Some (state_of link x)) rest (ne_eqb x serial other) in
          let later : (list_any (nat_eq serial) xs ≡ true) × (rest ≡ Some (state_of link serial)) =
          looked_up link serial xs (sym (ap is_none skipped) ∙ e) in
          (ap (λ b. b || list_any (nat_eq serial) xs) (ne_eqb serial x (λ s. other (sym s))) ∙ later.0, skipped ∙ later.1)
    ]

pub known_stream : (links : List (List Page)) (serial : ℕ) → is_none (stream_in (chain_state_of links).streams serial) ≡ false →
    (has_stream (last_link links) serial ≡ true) × (stream_in (chain_state_of links).streams serial ≡ Some (state_of (last_link links) serial))
known_stream links serial e = looked_up (last_link links) serial (serials_of (last_link links)) e

pub found_at : (link : List Page) (serial : ℕ) (xs : List ℕ) → list_any (nat_eq serial) xs ≡ true →
    find (λ stream. nat_eq stream.serial serial) (map (state_of link) xs) ≡ Some (state_of link serial)
found_at link serial [] e = cc
found_at link serial (x ∷ xs) e =
    elim (cases_eq x serial) [
      | inl same ↦ cond-true (nat_eq x serial) (Some (state_of link x)) _ (eq-eqb x serial same) ∙ ap (λ s. Some (state_of link s)) same
      | inr other ↦
          cond-false (nat_eq x serial) (Some (state_of link x)) _ (ne_eqb x serial other)
          ∙ found_at link serial xs (sym (ap (λ b. b || list_any (nat_eq serial) xs) (ne_eqb serial x (λ s. other (sym s)))) ∙ e)
    ]

-- the number of the stream's next page, by its pages
pub next_is : (links : List (List Page)) (serial : ℕ) → has_stream (last_link links) serial ≡ true →
    next_in (chain_state_of links).streams serial ≡ number_behind (pages_with serial (last_link links))
next_is links serial e =
    ap (λ o. option_map_or (λ (stream : StreamState). stream.next_sequence) o 0) (found_at (last_link links) serial (serials_of (last_link links)) e)

pub not_ended_is : (links : List (List Page)) (serial : ℕ) → has_stream (last_link links) serial ≡ true →
    option_map_or (λ (stream : StreamState). stream.ended) (stream_in (chain_state_of links).streams serial) false ≡ has_ended (last_link links) serial
not_ended_is links serial e =
    ap (λ o. option_map_or (λ (stream : StreamState). stream.ended) o false) (found_at (last_link links) serial (serials_of (last_link links)) e)

pub position_is : (links : List (List Page)) (serial : ℕ) → has_stream (last_link links) serial ≡ true →
    option_map_or (λ (stream : StreamState). stream.last_position) (stream_in (chain_state_of links).streams serial) 0 ≡ last_position (pages_with serial (last_link links))
position_is links serial e =
    ap (λ o. option_map_or (λ (stream : StreamState). stream.last_position) o 0) (found_at (last_link links) serial (serials_of (last_link links)) e)

position_from : (pages : List Page) (found : ℕ) → found < 2 ^ 63 → fold (λ found page. cond (nat_lt page.position (2 ^ 63)) page.position found) found pages < 2 ^ 63
position_from [] found h = h
position_from (page ∷ pages) found h =
    position_from pages (cond (nat_lt page.position (2 ^ 63)) page.position found)
    (cond_both (nat_lt page.position (2 ^ 63)) page.position found (λ n. n < 2 ^ 63) (λ e. ltb-true page.position (2 ^ 63) e) (λ _. h))

pub position_small : (pages : List Page) → last_position pages < 2 ^ 63
position_small pages = position_from pages 0 (omega arith)

-- ---- further pages for the last link
pub spelled_more : (links : List (List Page)) (pages : List Page) → links ≢ [] →
    flat_map bytes_of_pages links ++ bytes_of_pages pages ≡ flat_map bytes_of_pages (with_pages links pages)
spelled_more [] pages some = absurd (some refl)
spelled_more (link ∷ []) pages some =
    ap (λ l. l ++ bytes_of_pages pages) (append-nil (bytes_of_pages link)) ∙ sym (bytes_both link pages) ∙ sym (append-nil (bytes_of_pages (link ++ pages)))
  where
    bytes_both : (xs ys : List Page) → bytes_of_pages (xs ++ ys) ≡ bytes_of_pages xs ++ bytes_of_pages ys
    bytes_both [] ys = refl
    bytes_both (x ∷ xs) ys = ap (λ l. page_bytes x ++ l) (bytes_both xs ys) ∙ sym (append_assoc (page_bytes x) (bytes_of_pages xs) (bytes_of_pages ys))
spelled_more (link ∷ next ∷ links) pages some =
    append_assoc (bytes_of_pages link) (flat_map bytes_of_pages (next ∷ links)) (bytes_of_pages pages)
    ∙ ap (λ l. bytes_of_pages link ++ l) (spelled_more (next ∷ links) pages (λ e. cc))

pub pages_more : (links : List (List Page)) (pages : List Page) → AllByRecursion (AllByRecursion IsPage) links → AllByRecursion IsPage pages →
    AllByRecursion (AllByRecursion IsPage) (with_pages links pages)
pages_more [] pages a b = tt
pages_more (link ∷ []) pages a b = (all_both IsPage link pages a.0 b, tt)
pages_more (link ∷ next ∷ links) pages a b = (a.0, pages_more (next ∷ links) pages a.1 b)

pub length_more : (links : List (List Page)) (pages : List Page) → length (with_pages links pages) ≡ length links
length_more [] pages = refl
length_more (link ∷ []) pages = refl
length_more (link ∷ next ∷ links) pages = ap suc (length_more (next ∷ links) pages)

pub ended_more : (P : List Page → Type 0) (links : List (List Page)) (pages : List Page) → AllButLast P links → AllButLast P (with_pages links pages)
ended_more P [] pages a = tt
ended_more P (link ∷ []) pages a = tt
ended_more P (link ∷ next ∷ []) pages a = (a.0, tt)
ended_more P (link ∷ next ∷ third ∷ links) pages a = (a.0, ended_more P (next ∷ third ∷ links) pages a.1)

-- what further pages do to a link and its streams
abbrev pub Grows : List Page → List Page → (List Stream → List Stream) → Type 0
Grows link pages change = (streams : List Stream) → IsLink link → HoldsLink link streams → IsLink (link ++ pages) × HoldsLink (link ++ pages) (change streams)

held_more : (links : List (List Page)) (recording : Recording) (pages : List Page) (change : List Stream → List Stream) → Grows (last_link links) pages change →
    AllByRecursion IsLink links → HoldsLinks links recording → AllByRecursion IsLink (with_pages links pages) × HoldsLinks (with_pages links pages) (change_last change recording)
held_more [] [] pages change step a h = (tt, tt)
held_more [] (r ∷ recording) pages change step a h = absurd h
held_more (link ∷ links) [] pages change step a h = absurd h
held_more (link ∷ []) (r ∷ []) pages change step a h =
    let new : IsLink (link ++ pages) × HoldsLink (link ++ pages) (change r) = step r a.0 h.0 in
    ((new.0, tt), (new.1, tt))
held_more (link ∷ []) (r ∷ s ∷ recording) pages change step a h = absurd h.1
held_more (link ∷ next ∷ links) (r ∷ []) pages change step a h = absurd h.1
held_more (link ∷ next ∷ links) (r ∷ s ∷ recording) pages change step a h =
    let rest : AllByRecursion IsLink (with_pages (next ∷ links) pages) × HoldsLinks (with_pages (next ∷ links) pages) (change_last change (s ∷ recording)) =
    held_more (next ∷ links) (s ∷ recording) pages change step a.1 h.1 in
    ((a.0, rest.0), (h.0, rest.1))

pub last_grows : (bytes : List ℕ) (links : List (List Page)) (recording : Recording) (pages : List Page) (change : List Stream → List Stream) →
    links ≢ [] → AllByRecursion IsPage pages → Grows (last_link links) pages change → AreLinks bytes links → HoldsLinks links recording →
    AreLinks (bytes ++ bytes_of_pages pages) (with_pages links pages) × HoldsLinks (with_pages links pages) (change_last change recording)
last_grows bytes links recording pages change some are step l h =
    let held : AllByRecursion IsLink (with_pages links pages) × HoldsLinks (with_pages links pages) (change_last change recording) =
    held_more links recording pages change step l.each h in (
      record {
        spelled = ap (λ b. b ++ bytes_of_pages pages) l.spelled ∙ spelled_more links pages some;
        pages = pages_more links pages l.pages are;
        few = subst (λ n. n ≤ 65536) (sym (length_more links pages)) l.few;
        each = held.0;
        ended = ended_more (λ link. all_ended link ≡ true) links pages l.ended;
      },
      held.1,
    )

-- the last one is there
pub last_changed : {A : Type 0} (change : A → A) (xs : List A) (x : A) → change_last change (xs ++ x ∷ []) ≡ xs ++ change x ∷ []
last_changed change [] x = refl
last_changed change (a ∷ []) x = refl
last_changed change (a ∷ b ∷ xs) x = ap (λ l. a ∷ l) (last_changed change (b ∷ xs) x)

-- ---- no link is open
ended_serial : (ended : ℕ → Bool) (xs : List ℕ) → list_any (λ s. not (ended s)) xs ≡ false → (serial : ℕ) → list_any (nat_eq serial) xs ≡ true → ended serial ≡ true
ended_serial ended [] e serial there = cc
ended_serial ended (x ∷ xs) e serial there =
    let parts : (not (ended x) ≡ false) × (list_any (λ s. not (ended s)) xs ≡ false) = or_parts (not (ended x)) (list_any (λ s. not (ended s)) xs) e in
    elim (cases_eq serial x) [
      | inl same ↦ ap ended same ∙ not-false (ended x) parts.0
      | inr other ↦ ended_serial ended xs parts.1 serial (sym (ap (λ b. b || list_any (nat_eq serial) xs) (ne_eqb serial x other)) ∙ there)
    ]

first_known : (pages : List Page) → AllByRecursion (λ (p : Page). is_first p ≡ true) pages → AllByRecursion (λ (p : Page). has_stream pages p.serial ≡ true) pages
first_known pages h =
    all_weaker (λ (p : Page). list_any (nat_eq p.serial) (map (λ (q : Page). q.serial) pages) ≡ true) (λ (p : Page). has_stream pages p.serial ≡ true)
    (λ p e. ap (λ (l : List Page). list_any (nat_eq p.serial) (map (λ (q : Page). q.serial) l)) (filter_all is_first pages h) ∙ e) pages (each pages)
  where
    each : (ps : List Page) → AllByRecursion (λ (p : Page). list_any (nat_eq p.serial) (map (λ (q : Page). q.serial) ps) ≡ true) ps
    each [] = tt
    each (p ∷ ps) = (
      or_left (nat_eq p.serial p.serial) (list_any (nat_eq p.serial) (map (λ (q : Page). q.serial) ps)) (eq-eqb p.serial p.serial refl),
      all_weaker (λ (q : Page). list_any (nat_eq q.serial) (map (λ (r : Page). r.serial) ps) ≡ true) (λ (q : Page). list_any (nat_eq q.serial) (map (λ (r : Page). r.serial) (p ∷ ps)) ≡ true)
          (λ q e. or_right (nat_eq q.serial p.serial) (list_any (nat_eq q.serial) (map (λ (r : Page). r.serial) ps)) e) ps (each ps),
    )

pub each_known : (link : List Page) → IsLink link → AllByRecursion (λ (p : Page). has_stream link p.serial ≡ true) link
each_known link l =
    subst (λ (x : List Page). AllByRecursion (λ (p : Page). has_stream link p.serial ≡ true) x) (sym l.split)
    (all_both (λ (p : Page). has_stream link p.serial ≡ true) l.first_pages l.others
    (all_weaker (λ (p : Page). has_stream l.first_pages p.serial ≡ true) (λ (p : Page). has_stream link p.serial ≡ true)
    (λ p e. ap (λ (x : List ℕ). list_any (nat_eq p.serial) x) (ap serials_of l.split ∙ serials_same l.first_pages l.others l.unmarked) ∙ e)
    l.first_pages (first_known l.first_pages l.marked))
    l.known)

pub closed_link : (links : List (List Page)) → IsLink (last_link links) → is_open (chain_state_of links) ≡ false → all_ended (last_link links) ≡ true
closed_link links l e =
    let link : List Page = last_link links in
    let none : list_any (λ s. not (has_ended link s)) (serials_of link) ≡ false =
    sym (any_map (λ (s : StreamState). not s.ended) (state_of link) (serials_of link)) ∙ e in
    all_true (λ (p : Page). has_ended link p.serial) link
    (all_weaker (λ (p : Page). has_stream link p.serial ≡ true) (λ (p : Page). has_ended link p.serial ≡ true)
    (λ p there. ended_serial (has_ended link) (serials_of link) none p.serial there) link (each_known link l))

-- ---- another link
pub ended_links : (P : List Page → Type 0) (links : List (List Page)) (new : List Page) → AllButLast P links → (links ≢ [] → P (last_link links)) → AllButLast P (links ++ new ∷ [])
ended_links P [] new h last = tt
ended_links P (link ∷ []) new h last = (last (λ e. cc), tt)
ended_links P (link ∷ next ∷ links) new h last = (h.0, ended_links P (next ∷ links) new h.1 (λ _. last (λ e. cc)))

pub last_is_link : (links : List (List Page)) → AllByRecursion IsLink links → links ≢ [] → IsLink (last_link links)
last_is_link [] h ne = absurd (ne refl)
last_is_link (link ∷ []) h ne = h.0
last_is_link (link ∷ next ∷ links) h ne = last_is_link (next ∷ links) h.1 (λ e. cc)

-- one of the serials hasn't ended
pub some_not : (ended : ℕ → Bool) (serial : ℕ) (serials : List ℕ) → list_any (nat_eq serial) serials ≡ true → ended serial ≡ false →
    list_any (λ s. not (ended s)) serials ≡ true
some_not ended serial [] e f = cc
some_not ended serial (s ∷ serials) e f =
    elim (cases_Bool (nat_eq serial s)) [
      | inl same ↦ or_left (not (ended s)) (list_any (λ s. not (ended s)) serials) (ap (λ n. not (ended n)) (sym (eqb-true serial s same)) ∙ ap not f)
      | inr other ↦
          or_right (not (ended s)) (list_any (λ s. not (ended s)) serials)
          (some_not ended serial serials (sym (ap (λ b. b || list_any (nat_eq serial) serials) other) ∙ e) f)
    ]
