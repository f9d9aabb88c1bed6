-- The pages of links are taken in turn.
use Rattle.std.proofs.Common.{◌≡◌, ◌≢◌, ℕ, zero, suc, ◌+◌, ◌/◌, ◌%◌, ◌<◌, ◌≤◌, Bool, true, false, cond, List, [], ◌∷◌, ◌++◌, length, map, replicate, refl, sym, ◌∙◌, ap, subst, arith, append_assoc, eq-eqb, inl, inr, Option, None, Some, length-append}
use Rattle.std.specs.Prelude.{nat_eq, ◌&&◌, not, is_none, is_some, ◌↔◌}
use Rattle.std.specs.List.{AllByRecursion, list_any, filter, flat_map}
use Rattle.std.specs.Option.{option_map_or}
use Rattle.std.proofs.lemmas.List.{append-nil, length-map}
use Rattle.std.proofs.lemmas.List.Concat.{flat_map-append}
use Rattle.std.proofs.lemmas.Bool.{ne_eqb, cases_Bool, or_from, and_from, lt-ltb, lt-leb, not_from_true, and_right}
use Rattle.ogg_page.specs.Page.{Page, IsPage, page_bytes, bytes_of_pages}
use Rattle.ogg_page.specs.PageLaws.{one_page}
use Rattle.ogg_page.specs.Lacing.{ends_open, lace, lacing_of}
use Rattle.ogg_page.specs.LogicalStream.{FitsBehind, joined_lacing, number_behind, is_first, is_last, is_continued}
use Rattle.ogg_page.specs.StreamLaws.{false_is_not_true}
use Rattle.link_chain.specs.declared.stream_state.StreamState.{StreamState}
use Rattle.link_chain.specs.Links.{IsLink, AreLinks, AllButLast, pages_with, serials_of, has_stream, all_ended, flattened}
use Rattle.link_chain.specs.Progress.{stream_in}
use Rattle.link_chain.specs.ChainState.{ChainState, chain_state_of, state_of, last_link, is_open}
use Rattle.link_chain.specs.Links.{with_pages}
use Rattle.link_chain.specs.Taking.{fault_of_page, links_with, AreTaken, is_one_packet, is_whole_packet, of_stream, leaves_open}
use Rattle.link_chain.specs.Laws.Grow.{filter_all, stream_some}
use Rattle.link_chain.specs.Laws.TakenLinks.{taken}
use Rattle.link_chain.specs.Laws.LastLink.{found_at, known_stream, open_link}
use Rattle.link_chain.specs.Laws.LastLink.{closed_link}
use Rattle.link_chain.specs.Laws.PageRules.{later_none, joining_none, opening_none}
use Rattle.link_chain.specs.Laws.StateBehind.{last_is}
use Rattle.link_chain.specs.Laws.PageState.{open_with, begins_here, goes_on_open}
use Rattle.link_chain.specs.Laws.Fronts.{behind_at, push_not_nil, front_is_link, page_fits, first_behind, later_behind}
use Rattle.ogg_page.specs.Laws.PageBytes.{all_both}
use Rattle.ogg_page.specs.Laws.Walk.{nothing_is_no_page}

-- ---- a page that is no stream's first
continued_kept : (c e : Bool) → c ≡ e → cond c (not e) (not (not e)) ≡ false
continued_kept true true h = refl
continued_kept true false h = cc
continued_kept false true h = cc
continued_kept false false h = refl

some_length : (links : List (List Page)) → links ≢ [] → nat_eq (length links) 0 ≡ false
some_length [] ne = absurd (ne refl)
some_length (link ∷ links) ne = ne_eqb (length (link ∷ links)) 0 (λ e. omega arith)

later_is_taken : (links : List (List Page)) (page : Page) (back : List Page) → links ≢ [] → is_first page ≡ false → IsLink (last_link links ++ page ∷ back) →
    fault_of_page (chain_state_of links) page ≡ None
later_is_taken links page back some later l =
    let front : List Page = last_link links in
    let chain : ChainState = chain_state_of links in
    let serial : ℕ = page.serial in
    let own : List Page = pages_with serial front in
    let there : has_stream front serial ≡ true = later_behind front page back later l in
    let found : stream_in chain.streams serial ≡ Some (state_of front serial) = found_at front serial (serials_of front) there in
    let at : (test : StreamState → Bool) → option_map_or test (stream_in chain.streams serial) false ≡ test (state_of front serial) = λ test. ap (λ o. option_map_or test o false) found in
    let fits : FitsBehind own page = page_fits front page back l in
    let closed : is_last page ≡ true → leaves_open page (state_of front serial) ≡ false =
    λ last. (sym (open_with (joined_lacing own) page.lacing)
    ∙ ap ends_open (sym (flat_map-append (λ (p : Page). p.lacing) own (page ∷ []) ∙ ap (λ x. joined_lacing own ++ x) (append-nil page.lacing))) ∙ fits.last_packet last) in
    let eos : of_stream chain page (λ stream. is_last page && leaves_open page stream) ≡ false =
    at (λ stream. is_last page && leaves_open page stream)
    ∙ elim (cases_Bool (is_last page)) [
      | inl last ↦ and_right (is_last page) (leaves_open page (state_of front serial)) (closed last)
      | inr not' ↦ ap (λ b. b && leaves_open page (state_of front serial)) not'
    ] in
    later_none chain page later (
      some_length links some,
      (
        ap is_none found,
        (
          at (λ stream. stream.ended) ∙ fits.last,
          (
            at (λ stream. not (nat_eq page.sequence stream.next_sequence)) ∙ ap not (eq-eqb page.sequence (number_behind own) (fits.sequence (stream_some front serial there))),
            (
              at (λ stream. cond (is_continued page) stream.finished (not stream.finished)) ∙ continued_kept (is_continued page) (ends_open (joined_lacing own)) fits.continued,
              (eos, tt),
            ),
          ),
        ),
      ),
    )

-- ---- a stream's first page
one_is : (n r : ℕ) → r < 255 → is_one_packet (replicate n 255 ++ r ∷ []) ≡ true
one_is zero r small = lt-ltb r 255 small
one_is (suc zero) r small = lt-ltb r 255 small
one_is (suc (suc n)) r small = one_is (suc n) r small

lace_is : (packet : List ℕ) → is_one_packet (lace packet) ≡ true
unfolding lacing_of
lace_is packet = one_is (length packet / 255) (length packet % 255) (omega arith)

whole_is : (own : List Page) (page : Page) → own ≡ [] → FitsBehind own page → not (is_whole_packet page) ≡ false
whole_is own page none fits =
    let lacing : (packet : List ℕ) × (page.lacing ≡ lace packet) = fits.first_packet none in
    let continued : is_continued page ≡ false = fits.continued ∙ ap (λ (x : List Page). ends_open (joined_lacing x)) none in
    not_from_true (is_whole_packet page) (and_from (not (is_continued page)) (is_one_packet page.lacing) (ap not continued) (ap is_one_packet lacing.1 ∙ lace_is lacing.0))

pub no_data : (pages : List Page) → AllByRecursion (λ (p : Page). is_first p ≡ true) pages → list_any (λ p. not (is_first p)) pages ≡ false
no_data [] h = refl
no_data (page ∷ pages) h = or_from (not (is_first page)) (list_any (λ p. not (is_first p)) pages) (ap not h.0) (no_data pages h.1)

still_open : (links : List (List Page)) → IsLink (last_link links) → all_ended (last_link links) ≡ false → is_open (chain_state_of links) ≡ true
still_open links l e =
    elim (cases_Bool (is_open (chain_state_of links))) [
      | inl opened ↦ opened
      | inr closed ↦ false_is_not_true (all_ended (last_link links)) e (closed_link links l closed)
    ]

missing : (links : List (List Page)) (serial : ℕ) → has_stream (last_link links) serial ≡ false → is_some (stream_in (chain_state_of links).streams serial) ≡ false
missing links serial e =
    elim (cases_Bool (is_none (stream_in (chain_state_of links).streams serial))) [
      | inl none ↦ not_some (stream_in (chain_state_of links).streams serial) none
      | inr some ↦ false_is_not_true (has_stream (last_link links) serial) e (known_stream links serial some).0
    ]
  where
    not_some : (found : Option StreamState) → is_none found ≡ true → is_some found ≡ false
    not_some None h = refl
    not_some (Some s) h = cc

first_is_open : (links : List (List Page)) (page : Page) (back : List Page) → last_link links ≢ [] → IsLink (last_link links ++ page ∷ back) → is_open (chain_state_of links) ≡ true
first_is_open links page back some l =
    still_open links (front_is_link (last_link links) (page ∷ back) some l)
    (behind_at (λ before page. before ≢ [] → all_ended before ≡ false) [] (last_link links ++ page ∷ back) l.one (last_link links) back page refl some)

first_is_taken : (links : List (List Page)) (page : Page) (back : List Page) → last_link links ≢ [] → is_first page ≡ true → IsLink (last_link links ++ page ∷ back) →
    fault_of_page (chain_state_of links) page ≡ None
first_is_taken links page back some first l =
    let front : List Page = last_link links in
    let chain : ChainState = chain_state_of links in
    let facts : AllByRecursion (λ (p : Page). is_first p ≡ true) front × (length front < 64) × (has_stream front page.serial ≡ false) = first_behind front page back first l in
    let fits : FitsBehind (pages_with page.serial front) page = page_fits front page back l in
    let count : length (map (state_of front) (serials_of front)) ≡ length front =
    length-map (serials_of front) (state_of front) ∙ length-map (filter is_first front) (λ (p : Page). p.serial) ∙ ap length (filter_all is_first front facts.0) in
    joining_none chain page first (first_is_open links page back some l) (
      no_data front facts.0,
      (
        missing links page.serial facts.2,
        (
          whole_is (pages_with page.serial front) page (fits.first.0 first) fits,
          (lt-leb 64 (length (map (state_of front) (serials_of front))) (omega (arith, count, facts.1)), tt),
        ),
      ),
    )

begin_is_taken : (links : List (List Page)) (page : Page) (back : List Page) → is_open (chain_state_of links) ≡ false → length links < 65536 → is_first page ≡ true → IsLink (page ∷ back) →
    fault_of_page (chain_state_of links) page ≡ None
begin_is_taken links page back closed few first l =
    opening_none (chain_state_of links) page first closed (
      whole_is [] page refl (page_fits [] page back l),
      (lt-leb 65536 (length links) few, tt),
    )

-- ---- in turn
pub with_more : (done : List (List Page)) (link pages : List Page) → with_pages (done ++ link ∷ []) pages ≡ done ++ (link ++ pages) ∷ []
with_more [] link pages = refl
with_more (d ∷ []) link pages = refl
with_more (d ∷ e ∷ done) link pages = ap (λ l. d ∷ l) (with_more (e ∷ done) link pages)

push_some : (done : List (List Page)) (link : List Page) → done ++ link ∷ [] ≢ []
push_some [] link e = cc
push_some (d ∷ done) link e = cc

rest_taken : (done : List (List Page)) (front pages after : List Page) (links : List (List Page)) → front ≢ [] → IsLink (front ++ pages) →
    AreTaken (done ++ (front ++ pages) ∷ []) after links → AreTaken (done ++ front ∷ []) (pages ++ after) links
rest_taken done front [] after links some l h = subst (λ (x : List Page). AreTaken (done ++ x ∷ []) after links) (append-nil front) h
rest_taken done front (page ∷ pages) after links some l h =
    let here : List (List Page) = done ++ front ∷ [] in
    let last : last_link here ≡ front = last_is done front in
    let l' : IsLink (last_link here ++ page ∷ pages) = subst (λ (x : List Page). IsLink (x ++ page ∷ pages)) (sym last) l in
    let some' : last_link here ≢ [] = λ e. some (sym last ∙ e) in
    let fault : fault_of_page (chain_state_of here) page ≡ None =
    elim (cases_Bool (is_first page)) [
      | inl first ↦ first_is_taken here page pages some' first l'
      | inr later ↦ later_is_taken here page pages (push_some done front) later l'
    ] in
    let next : links_with here page ≡ done ++ (front ++ page ∷ []) ∷ [] =
    goes_on_open here page (first_is_open here page pages some' l') ∙ with_more done front (page ∷ []) in (
      fault,
      subst (λ (x : List (List Page)). AreTaken x (pages ++ after) links) (sym next)
          (rest_taken done (front ++ page ∷ []) pages after links (push_not_nil front page)
          (subst IsLink (sym (append_assoc front (page ∷ []) pages)) l)
          (subst (λ (x : List Page). AreTaken (done ++ x ∷ []) after links) (sym (append_assoc front (page ∷ []) pages)) h)),
    )

-- the first page of a link
begins_first : (page : Page) (pages : List Page) → IsLink (page ∷ pages) → is_first page ≡ true
begins_first page pages l = (page_fits [] page pages l).first.1 refl

link_taken : (done : List (List Page)) (link after : List Page) (links : List (List Page)) → is_open (chain_state_of done) ≡ false → length done < 65536 → IsLink link →
    AreTaken (done ++ link ∷ []) after links → AreTaken done (link ++ after) links
link_taken done [] after links closed few l h =
    (let n : 0 < length l.first_pages = l.some in let e : length l.first_pages + length l.others ≡ 0 = sym (length-append l.first_pages l.others) ∙ ap length (sym l.split) in absurd (omega arith))
link_taken done (page ∷ pages) after links closed few l h =
    let first : is_first page ≡ true = begins_first page pages l in
    let next : links_with done page ≡ done ++ (page ∷ []) ∷ [] = begins_here done page first closed in (
      begin_is_taken done page pages closed few first l,
      subst (λ (x : List (List Page)). AreTaken x (pages ++ after) links) (sym next) (rest_taken done (page ∷ []) pages after links (λ e. cc) l h),
    )

all_taken : (done rest : List (List Page)) → (rest ≢ [] → is_open (chain_state_of done) ≡ false) → length done + length rest ≤ 65536 →
    AllByRecursion IsLink rest → AllButLast (λ link. all_ended link ≡ true) rest → AreTaken done (flattened rest) (done ++ rest)
all_taken done [] closed few l ended = append-nil done
all_taken done (link ∷ rest) closed few l ended =
    let later : AreTaken (done ++ link ∷ []) (flattened rest) ((done ++ link ∷ []) ++ rest) =
    all_taken (done ++ link ∷ []) rest (λ ne. shut rest ne ended) (omega (arith, length-append done (link ∷ []))) l.1 (tail_ended rest ended) in
    link_taken done link (flattened rest) (done ++ link ∷ rest) (closed (λ e. cc)) (omega arith) l.0
    (subst (λ (x : List (List Page)). AreTaken (done ++ link ∷ []) (flattened rest) x) (append_assoc done (link ∷ []) rest) later)
  where
    tail_ended : (r : List (List Page)) → AllButLast (λ x. all_ended x ≡ true) (link ∷ r) → AllButLast (λ x. all_ended x ≡ true) r
    tail_ended [] e = tt
    tail_ended (n ∷ r) e = e.1

    shut : (r : List (List Page)) → r ≢ [] → AllButLast (λ x. all_ended x ≡ true) (link ∷ r) → is_open (chain_state_of (done ++ link ∷ [])) ≡ false
    shut [] ne e = absurd (ne refl)
    shut (n ∷ r) ne e =
        elim (cases_Bool (is_open (chain_state_of (done ++ link ∷ [])))) [
          | inl opened ↦ false_is_not_true (all_ended link) (ap all_ended (sym (last_is done link)) ∙ open_link (done ++ link ∷ []) opened) e.0
          | inr no' ↦ no'
        ]

pub only : (bytes : List ℕ) (links : List (List Page)) → AreLinks bytes links → AreTaken [] (flattened links) links
only bytes links l = let few : length links ≤ 65536 = l.few in all_taken [] links (λ _. refl) (omega arith) l.each l.ended

-- ---- a list of pages
-- bytes are joined from one list of pages
pub same_pages : (p q : List Page) → AllByRecursion IsPage p → AllByRecursion IsPage q → bytes_of_pages p ≡ bytes_of_pages q → p ≡ q
same_pages [] [] a b e = refl
same_pages [] (y ∷ q) a b e = absurd (nothing_is_no_page y (bytes_of_pages q) e)
same_pages (x ∷ p) [] a b e = absurd (nothing_is_no_page x (bytes_of_pages p) (sym e))
same_pages (x ∷ p) (y ∷ q) a b e =
    let first : (x ≡ y) × (bytes_of_pages p ≡ bytes_of_pages q) = one_page x y (bytes_of_pages p) (bytes_of_pages q) a.0 b.0 e in
    ap (λ l. l ∷ p) first.0 ∙ ap (λ (l : List Page). y ∷ l) (same_pages p q a.1 b.1 first.1)

pub bytes_flattened : (links : List (List Page)) → flat_map bytes_of_pages links ≡ bytes_of_pages (flattened links)
bytes_flattened [] = refl
bytes_flattened (link ∷ links) =
    ap (λ l. bytes_of_pages link ++ l) (bytes_flattened links) ∙ sym (flat_map-append page_bytes link (flattened links))

pub pages_flattened : (links : List (List Page)) → AllByRecursion (AllByRecursion IsPage) links → AllByRecursion IsPage (flattened links)
pages_flattened [] h = tt
pages_flattened (link ∷ links) h = all_both IsPage link (flattened links) h.0 (pages_flattened links h.1)

pub in_turn : (pages : List Page) (links : List (List Page)) → AllByRecursion IsPage pages → AreTaken [] pages links ↔ AreLinks (bytes_of_pages pages) links
in_turn pages links are = (taken pages links are, from_links)
  where
    from_links : AreLinks (bytes_of_pages pages) links → AreTaken [] pages links
    from_links l =
        subst (λ (p : List Page). AreTaken [] p links)
        (same_pages (flattened links) pages (pages_flattened links l.pages) are (sym (bytes_flattened links) ∙ sym l.spelled))
        (only (bytes_of_pages pages) links l)
