-- The chain state after a page that may follow.
use Rattle.std.proofs.Common.{◌≡◌, ◌≢◌, ◌+◌, ◌<◌, ◌^◌, ℕ, true, false, cond, List, [], ◌∷◌, ◌++◌, length, map, refl, sym, ◌∙◌, ap, subst, arith, None, Some, inl, inr, eq-eqb, length-append, append_assoc}
use Rattle.std.specs.Prelude.{nat_eq, nat_lt, not, ◌||◌, ◌&&◌, is_some}
use Rattle.std.specs.List.{AllByRecursion, list_any, flat_map, filter}
use Rattle.std.proofs.lemmas.Bool.{cond-true, cond-false, ne_eqb, eqb-false, or_parts, cases_Bool, leb-false, not-false}
use Rattle.std.proofs.lemmas.List.{append-nil, map-append}
use Rattle.std.proofs.lemmas.List.Elements.{filter-append}
use Rattle.std.proofs.lemmas.List.Concat.{flat_map-append}
use Rattle.std.proofs.lemmas.List.Folds.{list_any-append}
use Rattle.std.proofs.lemmas.List.Sums.{fold_push, sum_by-append, sum_by-cons}
use Rattle.ogg_page.specs.Page.{Page, page_size}
use Rattle.ogg_page.specs.Lacing.{ends_open}
use Rattle.ogg_page.specs.LogicalStream.{is_first, is_last, joined_lacing, number_behind}
use Rattle.ogg_page.specs.StreamLaws.{ends_open-at}
use Rattle.link_chain.specs.declared.stream_state.StreamState.{StreamState}
use Rattle.link_chain.specs.Links.{pages_with, serials_of, has_stream, has_ended}
use Rattle.link_chain.specs.ChainState.{ChainState, chain_state_of, state_of, last_link, last_position, is_open}
use Rattle.link_chain.specs.Links.{with_pages}
use Rattle.link_chain.specs.Size.{size_of_pages}
use Rattle.link_chain.specs.Progress.{stream_in}
use Rattle.link_chain.specs.Taking.{fault_of_page, begins_link, links_with, leaves_open, later_rules, joining_rules}
use Rattle.link_chain.specs.Followed.{followed, without_pages, entered, opened, joined, continued}
use Rattle.link_chain.specs.Laws.Grow.{with_own, ended_both, filter_all, filter_none}
use Rattle.link_chain.specs.Laws.LastLink.{any_map, open_some, length_more, found_at}
use Rattle.link_chain.specs.Laws.StateBehind.{last_is, state, chain_of, state_behind, state_other, last_with, size_with, size_of_links}
use Rattle.link_chain.specs.Followed.{moved_by}
use Rattle.link_chain.specs.Laws.Rules.{NoneBroken}
use Rattle.link_chain.specs.Laws.Rules.{none_if}
use Rattle.link_chain.specs.Laws.PageRules.{later_kept, joining_kept, opening_kept}
use Rattle.std.proofs.Math.Bool.{or-false, and-false, not-not}

-- ---- the links with the page
pub begins_here : (links : List (List Page)) (page : Page) → is_first page ≡ true → is_open (chain_state_of links) ≡ false → links_with links page ≡ links ++ (page ∷ []) ∷ []
begins_here links page first closed =
    cond-true (begins_link (chain_state_of links) page) (links ++ (page ∷ []) ∷ []) (with_pages links (page ∷ []))
    (ap (λ b. is_first page && not b) closed ∙ ap (λ b. b && true) first)

pub goes_on_open : (links : List (List Page)) (page : Page) → is_open (chain_state_of links) ≡ true → links_with links page ≡ with_pages links (page ∷ [])
goes_on_open links page opened' =
    cond-false (begins_link (chain_state_of links) page) (links ++ (page ∷ []) ∷ []) (with_pages links (page ∷ []))
    (ap (λ b. is_first page && not b) opened' ∙ and-false (is_first page))

pub goes_on_later : (links : List (List Page)) (page : Page) → is_first page ≡ false → links_with links page ≡ with_pages links (page ∷ [])
goes_on_later links page later =
    cond-false (begins_link (chain_state_of links) page) (links ++ (page ∷ []) ∷ []) (with_pages links (page ∷ []))
    (ap (λ b. b && not (is_open (chain_state_of links))) later)

pub not_zero : (links : List (List Page)) → nat_eq (length links) 0 ≡ false → links ≢ []
not_zero links e f = eqb-false (length links) 0 e (ap length f)

-- ---- a stream with another page
pub open_with : (before lacing : List ℕ) → ends_open (before ++ lacing) ≡ cond (nat_eq (length lacing) 0) (not (not (ends_open before))) (ends_open lacing)
open_with before [] = ap ends_open (append-nil before) ∙ sym (not-not (ends_open before))
open_with before (value ∷ lacing) =
    ends_open-at before value lacing
    ∙ sym (cond-false (nat_eq (length (value ∷ lacing)) 0) (not (not (ends_open before))) (ends_open (value ∷ lacing)) (ne_eqb (length (value ∷ lacing)) 0 (λ e. omega arith)))

pub stream_behind : (link : List Page) (page : Page) → state_of (link ++ page ∷ []) page.serial ≡ followed page (state_of link page.serial)
stream_behind link page =
    let serial : ℕ = page.serial in
    let own : List Page = pages_with serial link in
    let both : pages_with serial (link ++ page ∷ []) ≡ own ++ page ∷ [] = with_own serial link (page ∷ []) (refl, tt) in
    let alone : pages_with serial (page ∷ []) ≡ page ∷ [] = cond-true (nat_eq page.serial serial) (page ∷ []) [] (eq-eqb page.serial serial refl) in
    let number : number_behind (own ++ page ∷ []) ≡ page.sequence + 1 = fold_push (λ (found : ℕ) (p : Page). p.sequence + 1) 0 own page in
    let reached : ℕ = cond (nat_lt page.position (2 ^ 63)) page.position (last_position own) in
    let position : last_position (own ++ page ∷ []) ≡ reached =
    fold_push (λ (found : ℕ) (p : Page). cond (nat_lt p.position (2 ^ 63)) p.position found) 0 own page in
    let ended : has_ended (link ++ page ∷ []) serial ≡ (has_ended link serial || is_last page) =
    ended_both serial link (page ∷ []) ∙ ap (λ b. has_ended link serial || b) (ap (list_any is_last) alone ∙ or-false (is_last page)) in
    let lacing : joined_lacing (own ++ page ∷ []) ≡ joined_lacing own ++ page.lacing =
    flat_map-append (λ (p : Page). p.lacing) own (page ∷ []) ∙ ap (λ l. joined_lacing own ++ l) (append-nil page.lacing) in
    let finished : not (ends_open (joined_lacing (own ++ page ∷ []))) ≡ not (leaves_open page (state_of link serial)) =
    ap (λ l. not (ends_open l)) lacing ∙ ap not (open_with (joined_lacing own) page.lacing) in
    ap (λ (l : List Page). state serial (number_behind l) (last_position l) (has_ended (link ++ page ∷ []) serial) (not (ends_open (joined_lacing l)))) both
    ∙ ap (λ n. state serial n (last_position (own ++ page ∷ [])) (has_ended (link ++ page ∷ []) serial) (not (ends_open (joined_lacing (own ++ page ∷ []))))) number
    ∙ ap (λ n. state serial (page.sequence + 1) n (has_ended (link ++ page ∷ []) serial) (not (ends_open (joined_lacing (own ++ page ∷ []))))) position
    ∙ ap (λ b. state serial (page.sequence + 1) reached b (not (ends_open (joined_lacing (own ++ page ∷ []))))) ended
    ∙ ap (λ b. state serial (page.sequence + 1) reached (has_ended link serial || is_last page) b) finished

-- ---- a page that isn't its stream's first
one_size : (page : Page) → size_of_pages (page ∷ []) ≡ page_size page
one_size page = sum_by-cons page_size page [] ∙ omega arith

later_links : (links : List (List Page)) (page : Page) → is_first page ≡ false → fault_of_page (chain_state_of links) page ≡ None →
    chain_state_of (links_with links page) ≡ continued (chain_state_of links) page
later_links links page later e =
    let chain : ChainState = chain_state_of links in
    let kept : NoneBroken (later_rules chain page) = later_kept chain page later e in
    ap chain_state_of (goes_on_later links page later)
    ∙ state_behind links (page ∷ []) page.serial (followed page) (not_zero links kept.0) (omega arith) (refl, tt) (later, tt) (stream_behind (last_link links) page)
    ∙ ap (moved_by chain page.serial (followed page)) (one_size page)

-- ---- the first page of a link
pub one_serial : (page : Page) → is_first page ≡ true → serials_of (page ∷ []) ≡ page.serial ∷ []
one_serial page first = ap (map (λ (p : Page). p.serial)) (cond-true (is_first page) (page ∷ []) [] first)

opened_links : (links : List (List Page)) (page : Page) → is_first page ≡ true → is_open (chain_state_of links) ≡ false →
    chain_state_of (links_with links page) ≡ opened (chain_state_of links) page
opened_links links page first closed =
    let link : List Page = page ∷ [] in
    let all : List (List Page) = links ++ link ∷ [] in
    let own : serials_of link ≡ page.serial ∷ [] = one_serial page first in
    let streams : map (state_of link) (serials_of link) ≡ entered page ∷ [] =
    ap (map (state_of link)) own ∙ ap (λ s. s ∷ []) (stream_behind [] page) in
    let marked : list_any (λ p. not (is_first p)) link ≡ false = ap (λ b. not b || false) first in
    let more : flat_map serials_of all ≡ flat_map serials_of links ++ page.serial ∷ [] =
    flat_map-append serials_of links (link ∷ []) ∙ ap (λ l. flat_map serials_of links ++ l) (append-nil (serials_of link) ∙ own) in
    let count : length all ≡ length links + 1 = length-append links (link ∷ []) in
    let longer : size_of_links all ≡ size_of_links links + page_size page =
    sum_by-append size_of_pages links (link ∷ []) ∙ ap (λ n. size_of_links links + n) (sum_by-cons size_of_pages link [] ∙ omega (arith, one_size page)) in
    ap chain_state_of (begins_here links page first closed)
    ∙ ap (λ (l : List Page). chain_of (map (state_of l) (serials_of l)) (list_any (λ page. not (is_first page)) l) (flat_map serials_of all) (length all) (size_of_links all)) (last_is links link)
    ∙ ap (λ l. chain_of l (list_any (λ page. not (is_first page)) link) (flat_map serials_of all) (length all) (size_of_links all)) streams
    ∙ ap (λ b. chain_of (entered page ∷ []) b (flat_map serials_of all) (length all) (size_of_links all)) marked
    ∙ ap (λ l. chain_of (entered page ∷ []) false l (length all) (size_of_links all)) more
    ∙ ap (λ n. chain_of (entered page ∷ []) false (flat_map serials_of links ++ page.serial ∷ []) n (size_of_links all)) count
    ∙ ap (λ n. chain_of (entered page ∷ []) false (flat_map serials_of links ++ page.serial ∷ []) (length links + 1) n) longer

-- ---- the first page of one more stream
pub serials_both : (xs ys : List Page) → serials_of (xs ++ ys) ≡ serials_of xs ++ serials_of ys
serials_both xs ys = ap (map (λ (p : Page). p.serial)) (filter-append is_first xs ys) ∙ map-append (λ (p : Page). p.serial) (filter is_first xs) (filter is_first ys)

pub all_first : (pages : List Page) → list_any (λ page. not (is_first page)) pages ≡ false → AllByRecursion (λ page. is_first page ≡ true) pages
all_first [] e = tt
all_first (page ∷ pages) e =
    let parts : (not (is_first page) ≡ false) × (list_any (λ p. not (is_first p)) pages ≡ false) = or_parts (not (is_first page)) (list_any (λ p. not (is_first p)) pages) e in
    (not-false (is_first page) parts.0, all_first pages parts.1)

-- no stream with this serial
pub absent : (links : List (List Page)) (serial : ℕ) → is_some (stream_in (chain_state_of links).streams serial) ≡ false → has_stream (last_link links) serial ≡ false
absent links serial e =
    elim (cases_Bool (has_stream (last_link links) serial)) [
      | inl there ↦ some_none (state_of (last_link links) serial) (sym (ap is_some (found_at (last_link links) serial (serials_of (last_link links)) there)) ∙ e)
      | inr not' ↦ not'
    ]
  where
    some_none : (s : StreamState) {A : Type 0} → is_some (Some s) ≡ false → A
    some_none s h = cc

unmatched : (serial : ℕ) (pages : List Page) → list_any (λ (p : Page). nat_eq serial p.serial) pages ≡ false → AllByRecursion (λ (p : Page). nat_eq p.serial serial ≡ false) pages
unmatched serial [] e = tt
unmatched serial (page ∷ pages) e =
    let parts : (nat_eq serial page.serial ≡ false) × (list_any (λ (p : Page). nat_eq serial p.serial) pages ≡ false) =
    or_parts (nat_eq serial page.serial) (list_any (λ (p : Page). nat_eq serial p.serial) pages) e in
    (ne_eqb page.serial serial (λ f. eqb-false serial page.serial parts.0 (sym f)), unmatched serial pages parts.1)

-- if all pages are first ones, there is no page of it either
pub no_pages : (link : List Page) (serial : ℕ) → list_any (λ p. not (is_first p)) link ≡ false → has_stream link serial ≡ false → pages_with serial link ≡ []
no_pages link serial bare none =
    let firsts : filter is_first link ≡ link = filter_all is_first link (all_first link bare) in
    filter_none (λ (p : Page). nat_eq p.serial serial) link
    (unmatched serial link
    (sym (any_map (nat_eq serial) (λ (p : Page). p.serial) link) ∙ ap (λ (l : List Page). list_any (nat_eq serial) (map (λ (p : Page). p.serial) l)) (sym firsts) ∙ none))

others_same : (link : List Page) (page : Page) (xs : List ℕ) → list_any (nat_eq page.serial) xs ≡ false → map (state_of (link ++ page ∷ [])) xs ≡ map (state_of link) xs
others_same link page [] e = refl
others_same link page (x ∷ xs) e =
    let parts : (nat_eq page.serial x ≡ false) × (list_any (nat_eq page.serial) xs ≡ false) = or_parts (nat_eq page.serial x) (list_any (nat_eq page.serial) xs) e in
    ap (λ s. s ∷ map (state_of (link ++ page ∷ [])) xs) (state_other link (page ∷ []) page.serial x (refl, tt) (eqb-false page.serial x parts.0))
    ∙ ap (λ l. state_of link x ∷ l) (others_same link page xs parts.1)

serials_more : (links : List (List Page)) (page : Page) → links ≢ [] → is_first page ≡ true → flat_map serials_of (with_pages links (page ∷ [])) ≡ flat_map serials_of links ++ page.serial ∷ []
serials_more [] page some first = absurd (some refl)
serials_more (link ∷ []) page some first =
    append-nil (serials_of (link ++ page ∷ [])) ∙ serials_both link (page ∷ []) ∙ ap (λ l. serials_of link ++ l) (one_serial page first)
    ∙ ap (λ l. l ++ page.serial ∷ []) (sym (append-nil (serials_of link)))
serials_more (link ∷ next ∷ links) page some first =
    ap (λ l. serials_of link ++ l) (serials_more (next ∷ links) page (λ e. cc) first)
    ∙ sym (append_assoc (serials_of link) (flat_map serials_of (next ∷ links)) (page.serial ∷ []))

joined_links : (links : List (List Page)) (page : Page) → is_first page ≡ true → is_open (chain_state_of links) ≡ true → fault_of_page (chain_state_of links) page ≡ None →
    chain_state_of (links_with links page) ≡ joined (chain_state_of links) page
joined_links links page first open' e =
    let chain : ChainState = chain_state_of links in
    let last : List Page = last_link links in
    let serial : ℕ = page.serial in
    let all : List (List Page) = with_pages links (page ∷ []) in
    let kept : NoneBroken (joining_rules chain page) = joining_kept chain page first open' e in
    let some : links ≢ [] = open_some links open' in
    let bare : list_any (λ p. not (is_first p)) last ≡ false = kept.0 in
    let none : has_stream last serial ≡ false = absent links serial kept.1.0 in
    let no_own : state_of last serial ≡ without_pages serial =
    ap (λ (own : List Page). state serial (number_behind own) (last_position own) (list_any is_last own) (not (ends_open (joined_lacing own)))) (no_pages last serial bare none) in
    let streams : map (state_of (last ++ page ∷ [])) (serials_of (last ++ page ∷ [])) ≡ chain.streams ++ entered page ∷ [] =
    ap (map (state_of (last ++ page ∷ []))) (serials_both last (page ∷ []) ∙ ap (λ l. serials_of last ++ l) (one_serial page first))
    ∙ map-append (state_of (last ++ page ∷ [])) (serials_of last) (serial ∷ [])
    ∙ ap (λ l. l ++ state_of (last ++ page ∷ []) serial ∷ []) (others_same last page (serials_of last) none)
    ∙ ap (λ s. map (state_of last) (serials_of last) ++ s ∷ []) (stream_behind last page ∙ ap (followed page) no_own) in
    let marked : list_any (λ p. not (is_first p)) (last ++ page ∷ []) ≡ list_any (λ p. not (is_first p)) last =
    list_any-append (λ (p : Page). not (is_first p)) last (page ∷ [])
    ∙ ap (λ b. list_any (λ (p : Page). not (is_first p)) last || (not b || false)) first ∙ or-false (list_any (λ (p : Page). not (is_first p)) last) in
    ap chain_state_of (goes_on_open links page open')
    ∙ ap (λ (l : List Page). chain_of (map (state_of l) (serials_of l)) (list_any (λ page. not (is_first page)) l) (flat_map serials_of all) (length all) (size_of_links all)) (last_with links (page ∷ []) some)
    ∙ ap (λ l. chain_of l (list_any (λ page. not (is_first page)) (last ++ page ∷ [])) (flat_map serials_of all) (length all) (size_of_links all)) streams
    ∙ ap (λ b. chain_of (chain.streams ++ entered page ∷ []) b (flat_map serials_of all) (length all) (size_of_links all)) marked
    ∙ ap (λ l. chain_of (chain.streams ++ entered page ∷ []) chain.has_data l (length all) (size_of_links all)) (serials_more links page some first)
    ∙ ap (λ n. chain_of (chain.streams ++ entered page ∷ []) chain.has_data (flat_map serials_of links ++ serial ∷ []) n (size_of_links all)) (length_more links (page ∷ []))
    ∙ ap (λ n. chain_of (chain.streams ++ entered page ∷ []) chain.has_data (flat_map serials_of links ++ serial ∷ []) (length links) n) (size_with links (page ∷ []) some ∙ ap (λ n. size_of_links links + n) (one_size page))

-- ---- room
pub joins_few : (chain : ChainState) (page : Page) → is_first page ≡ true → is_open chain ≡ true → fault_of_page chain page ≡ None → length chain.streams < 64
joins_few chain page first open' e = leb-false 64 (length chain.streams) (joining_kept chain page first open' e).1.1.1.0

pub joins_fresh : (chain : ChainState) (page : Page) → is_first page ≡ true → is_open chain ≡ true → fault_of_page chain page ≡ None →
    stream_in chain.streams page.serial ≡ None
joins_fresh chain page first open' e = none_if (stream_in chain.streams page.serial) (joining_kept chain page first open' e).1.0

pub opens_few : (chain : ChainState) (page : Page) → is_first page ≡ true → is_open chain ≡ false → fault_of_page chain page ≡ None → chain.links < 65536
opens_few chain page first closed e = leb-false 65536 chain.links (opening_kept chain page first closed e).1.0

-- ---- of a chain whose state is that of links
module _ (chain : ChainState) (links : List (List Page)) (page : Page) (is : chain ≡ chain_state_of links) where
  pub later_state : is_first page ≡ false → fault_of_page chain page ≡ None → chain_state_of (links_with links page) ≡ continued chain page
  later_state later =
      subst (λ (c : ChainState). fault_of_page c page ≡ None → chain_state_of (links_with links page) ≡ continued c page) (sym is) (later_links links page later)

  pub opened_state : is_first page ≡ true → is_open chain ≡ false → chain_state_of (links_with links page) ≡ opened chain page
  opened_state first =
      subst (λ (c : ChainState). is_open c ≡ false → chain_state_of (links_with links page) ≡ opened c page) (sym is) (opened_links links page first)

  pub joined_state : is_first page ≡ true → is_open chain ≡ true → fault_of_page chain page ≡ None → chain_state_of (links_with links page) ≡ joined chain page
  joined_state first =
      subst (λ (c : ChainState). is_open c ≡ true → fault_of_page c page ≡ None → chain_state_of (links_with links page) ≡ joined c page) (sym is) (joined_links links page first)
