-- The index of links with one more page.
use Rattle.std.proofs.Common.{◌≡◌, ◌≢◌, ℕ, ◌+◌, Bool, true, false, List, [], ◌∷◌, ◌++◌, length, map, refl, sym, ◌∙◌, ap, subst, arith, inl, inr, eq-eqb, length-append, None}
use Rattle.std.specs.Prelude.{nat_eq, ◌||◌}
use Rattle.std.specs.List.{flat_map, list_any}
use Rattle.std.proofs.lemmas.Bool.{cond-true, cond-false, ne_eqb, cases_eq, eqb-false, or_parts}
use Rattle.std.proofs.lemmas.List.{append-nil, map-append}
use Rattle.ogg_page.specs.Page.{Page, page_bytes, bytes_of_pages}
use Rattle.ogg_page.specs.PageLaws.{bytes_both}
use Rattle.ogg_page.specs.LogicalStream.{is_first, is_last}
use Rattle.link_chain.specs.Links.{pages_with, serials_of, has_ended, with_pages, flattened}
use Rattle.link_chain.specs.ChainState.{chain_state_of, is_open, last_link}
use Rattle.link_chain.specs.Taking.{fault_of_page, links_with, joining_rules, later_rules}
use Rattle.link_chain.specs.Laws.Rules.{NoneBroken}
use Rattle.link_chain.specs.Laws.PageRules.{joining_kept, later_kept}
use Rattle.link_chain.specs.Laws.Grow.{with_own, with_other, serials_same, ended_both, no_stream}
use Rattle.link_chain.specs.Laws.LastLink.{open_some, last_changed}
use Rattle.link_chain.specs.Laws.StateBehind.{last_is, map-map, map-same}
use Rattle.link_chain.specs.Laws.PageState.{begins_here, goes_on_open, goes_on_later, not_zero, serials_both, absent, no_pages, one_serial}
use Rattle.link_index.specs.declared.info.StreamInfo.{StreamInfo}
use Rattle.link_index.specs.Index.{LinkEntry, stream_info, link_entry, index_from, index_of}
use Rattle.link_index.specs.Growth.{first_info, counted, opened_entry, joined_entry, continued_entry, change_last}
use Rattle.std.proofs.Math.Bool.{or-false}
use Rattle.link_chain.specs.Laws.Lengths.{sizes_are}
use Rattle.link_chain.specs.Laws.InTurn.{with_more}

-- ---- lists
pub record EndsWith {A : Type 0} (xs : List A) : Type 0 where
  pub front : List A
  pub last : A
  pub is : xs ≡ front ++ last ∷ []

pub ends_with : {A : Type 0} (xs : List A) → xs ≢ [] → EndsWith xs
ends_with [] some = absurd (some refl)
ends_with (x ∷ []) some = record { front = []; last = x; is = refl }
ends_with (x ∷ y ∷ xs) some =
    let more : EndsWith (y ∷ xs) = ends_with (y ∷ xs) (λ e. cc) in
    record { front = x ∷ more.front; last = more.last; is = ap (λ l. x ∷ l) more.is }

-- ---- sizes
bytes_more : (pages : List Page) (page : Page) → length (bytes_of_pages (pages ++ page ∷ [])) ≡ length (bytes_of_pages pages) + length (page_bytes page)
bytes_more pages page =
    ap length (bytes_both pages (page ∷ []) ∙ ap (λ l. bytes_of_pages pages ++ l) (append-nil (page_bytes page)))
    ∙ length-append (bytes_of_pages pages) (page_bytes page)

-- ---- a stream with another page
abbrev info : ℕ → ℕ → ℕ → Bool → StreamInfo
info serial bytes pages ended = record { serial = serial; bytes = bytes; pages = pages; ended = ended }

ended_with : (link : List Page) (page : Page) → has_ended (link ++ page ∷ []) page.serial ≡ (has_ended link page.serial || is_last page)
ended_with link page =
    let alone : pages_with page.serial (page ∷ []) ≡ page ∷ [] = cond-true (nat_eq page.serial page.serial) (page ∷ []) [] (eq-eqb page.serial page.serial refl) in
    ended_both page.serial link (page ∷ []) ∙ ap (λ b. has_ended link page.serial || b) (ap (list_any is_last) alone ∙ or-false (is_last page))

own_counted : (link : List Page) (page : Page) → stream_info (link ++ page ∷ []) page.serial ≡ counted page (stream_info link page.serial)
own_counted link page =
    let serial : ℕ = page.serial in
    let own : List Page = pages_with serial link in
    let both : pages_with serial (link ++ page ∷ []) ≡ own ++ page ∷ [] = with_own serial link (page ∷ []) (refl, tt) in
    ap (λ (l : List Page). info serial (length (bytes_of_pages l)) (length l) (has_ended (link ++ page ∷ []) serial)) both
    ∙ ap (λ b. info serial b (length (own ++ page ∷ [])) (has_ended (link ++ page ∷ []) serial)) (bytes_more own page)
    ∙ ap (λ n. info serial (length (bytes_of_pages own) + length (page_bytes page)) n (has_ended (link ++ page ∷ []) serial)) (length-append own (page ∷ []))
    ∙ ap (info serial (length (bytes_of_pages own) + length (page_bytes page)) (length own + 1)) (ended_with link page)
    ∙ sym (cond-true (nat_eq serial page.serial) (info serial (length (bytes_of_pages own) + length (page_bytes page)) (length own + 1) (has_ended link serial || is_last page)) (stream_info link serial) (eq-eqb serial serial refl))

other_same : (link : List Page) (page : Page) (serial : ℕ) → (page.serial ≡ serial → ⊥) → stream_info (link ++ page ∷ []) serial ≡ stream_info link serial
other_same link page serial ne =
    ap (λ (l : List Page). info serial (length (bytes_of_pages l)) (length l) (list_any is_last l)) (with_other page.serial serial link (page ∷ []) (refl, tt) ne)

each_counted : (link : List Page) (page : Page) (serial : ℕ) → stream_info (link ++ page ∷ []) serial ≡ counted page (stream_info link serial)
each_counted link page serial =
    elim (cases_eq serial page.serial) [
      | inl same ↦ subst (λ (s : ℕ). stream_info (link ++ page ∷ []) s ≡ counted page (stream_info link s)) (sym same) (own_counted link page)
      | inr other ↦
          other_same link page serial (λ e. other (sym e))
          ∙ sym (cond-false (nat_eq serial page.serial) (info serial (length (bytes_of_pages (pages_with serial link)) + length (page_bytes page)) (length (pages_with serial link) + 1) (has_ended link serial || is_last page)) (stream_info link serial) (ne_eqb serial page.serial other))
    ]

-- ---- a link with another page
abbrev pub entry : ℕ → ℕ → ℕ → List StreamInfo → LinkEntry
entry start size count streams = record { info = record { start = start; length = size; streams = count }; streams = streams }

continued : (start : ℕ) (link : List Page) (page : Page) → is_first page ≡ false → link_entry start (link ++ page ∷ []) ≡ continued_entry page (link_entry start link)
continued start link page later =
    let serials : serials_of (link ++ page ∷ []) ≡ serials_of link = serials_same link (page ∷ []) (later, tt) in
    ap (λ n. entry start n (length (serials_of (link ++ page ∷ []))) (map (stream_info (link ++ page ∷ [])) (serials_of (link ++ page ∷ [])))) (bytes_more link page)
    ∙ ap (λ s. entry start (length (bytes_of_pages link) + length (page_bytes page)) (length s) (map (stream_info (link ++ page ∷ [])) s)) serials
    ∙ ap (entry start (length (bytes_of_pages link) + length (page_bytes page)) (length (serials_of link)))
    (map-same (stream_info (link ++ page ∷ [])) (λ s. counted page (stream_info link s)) (each_counted link page) (serials_of link)
    ∙ sym (map-map (counted page) (stream_info link) (serials_of link)))

others_same : (link : List Page) (page : Page) (serials : List ℕ) → list_any (nat_eq page.serial) serials ≡ false
    → map (stream_info (link ++ page ∷ [])) serials ≡ map (stream_info link) serials
others_same link page [] e = refl
others_same link page (s ∷ serials) e =
    let parts : (nat_eq page.serial s ≡ false) × (list_any (nat_eq page.serial) serials ≡ false) = or_parts (nat_eq page.serial s) (list_any (nat_eq page.serial) serials) e in
    ap (λ x. x ∷ map (stream_info (link ++ page ∷ [])) serials) (other_same link page s (eqb-false page.serial s parts.0))
    ∙ ap (λ l. stream_info link s ∷ l) (others_same link page serials parts.1)

-- a stream that had no page
begun : (link : List Page) (page : Page) → pages_with page.serial link ≡ [] → stream_info (link ++ page ∷ []) page.serial ≡ first_info page
begun link page none =
    let serial : ℕ = page.serial in
    let alone : pages_with serial (link ++ page ∷ []) ≡ page ∷ [] = with_own serial link (page ∷ []) (refl, tt) ∙ ap (λ l. l ++ page ∷ []) none in
    ap (λ (l : List Page). info serial (length (bytes_of_pages l)) (length l) (list_any is_last l)) alone
    ∙ ap (λ b. info serial b 1 (is_last page || false)) (ap length (append-nil (page_bytes page)))
    ∙ ap (info serial (length (page_bytes page)) 1) (or-false (is_last page))

joined : (start : ℕ) (link : List Page) (page : Page) → is_first page ≡ true → pages_with page.serial link ≡ [] → link_entry start (link ++ page ∷ []) ≡ joined_entry page (link_entry start link)
joined start link page first none =
    let serials : serials_of (link ++ page ∷ []) ≡ serials_of link ++ page.serial ∷ [] = serials_both link (page ∷ []) ∙ ap (λ l. serials_of link ++ l) (one_serial page first) in
    let streams : map (stream_info (link ++ page ∷ [])) (serials_of link ++ page.serial ∷ []) ≡ map (stream_info link) (serials_of link) ++ first_info page ∷ [] =
    map-append (stream_info (link ++ page ∷ [])) (serials_of link) (page.serial ∷ [])
    ∙ ap (λ l. l ++ stream_info (link ++ page ∷ []) page.serial ∷ []) (others_same link page (serials_of link) (no_stream link page.serial none))
    ∙ ap (λ s. map (stream_info link) (serials_of link) ++ s ∷ []) (begun link page none) in
    ap (λ n. entry start n (length (serials_of (link ++ page ∷ []))) (map (stream_info (link ++ page ∷ [])) (serials_of (link ++ page ∷ [])))) (bytes_more link page)
    ∙ ap (λ s. entry start (length (bytes_of_pages link) + length (page_bytes page)) (length s) (map (stream_info (link ++ page ∷ [])) s)) serials
    ∙ ap (λ n. entry start (length (bytes_of_pages link) + length (page_bytes page)) n (map (stream_info (link ++ page ∷ [])) (serials_of link ++ page.serial ∷ []))) (length-append (serials_of link) (page.serial ∷ []))
    ∙ ap (entry start (length (bytes_of_pages link) + length (page_bytes page)) (length (serials_of link) + 1)) streams

opened : (start : ℕ) (page : Page) → is_first page ≡ true → link_entry start (page ∷ []) ≡ opened_entry start page
opened start page first =
    ap (λ b. entry start b (length (serials_of (page ∷ []))) (map (stream_info (page ∷ [])) (serials_of (page ∷ [])))) (ap length (append-nil (page_bytes page)))
    ∙ ap (λ s. entry start (length (page_bytes page)) (length s) (map (stream_info (page ∷ [])) s)) (one_serial page first)
    ∙ ap (λ s. entry start (length (page_bytes page)) 1 (s ∷ [])) (begun [] page refl)

-- ---- the index with another page
index_at : (start : ℕ) (done : List (List Page)) (link : List Page)
    → index_from start (done ++ link ∷ []) ≡ index_from start done ++ link_entry (start + length (flat_map bytes_of_pages done)) link ∷ []
index_at start [] link = ap (λ n. link_entry n link ∷ []) (omega arith)
index_at start (first ∷ done) link =
    ap (λ l. link_entry start first ∷ l)
    (index_at (start + length (bytes_of_pages first)) done link
    ∙ ap (λ n. index_from (start + length (bytes_of_pages first)) done ++ link_entry n link ∷ []) (omega (arith, length-append (bytes_of_pages first) (flat_map bytes_of_pages done))))

index_grows : (links : List (List Page)) (page : Page) (change : LinkEntry → LinkEntry) → links ≢ []
    → ((start : ℕ) → link_entry start (last_link links ++ page ∷ []) ≡ change (link_entry start (last_link links)))
    → index_of (with_pages links (page ∷ [])) ≡ change_last change (index_of links)
index_grows links page change some grows =
    let at : EndsWith links = ends_with links some in
    let done : List (List Page) = at.front in
    let start : ℕ = 0 + length (flat_map bytes_of_pages done) in
    let last : last_link links ≡ at.last = ap last_link at.is ∙ last_is done at.last in
    ap (λ l. index_of (with_pages l (page ∷ []))) at.is
    ∙ ap index_of (with_more done at.last (page ∷ []))
    ∙ index_at 0 done (at.last ++ page ∷ [])
    ∙ ap (λ e. index_from 0 done ++ e ∷ []) (subst (λ (l : List Page). link_entry start (l ++ page ∷ []) ≡ change (link_entry start l)) last (grows start))
    ∙ sym (last_changed change (index_from 0 done) (link_entry start at.last))
    ∙ ap (change_last change) (sym (index_at 0 done at.last))
    ∙ ap (λ l. change_last change (index_of l)) (sym at.is)

pub index_later : (links : List (List Page)) (page : Page) → is_first page ≡ false → fault_of_page (chain_state_of links) page ≡ None
    → index_of (links_with links page) ≡ change_last (continued_entry page) (index_of links)
index_later links page later none =
    let kept : NoneBroken (later_rules (chain_state_of links) page) = later_kept (chain_state_of links) page later none in
    ap index_of (goes_on_later links page later)
    ∙ index_grows links page (continued_entry page) (not_zero links kept.0) (λ start. continued start (last_link links) page later)

pub index_joined : (links : List (List Page)) (page : Page) → is_first page ≡ true → is_open (chain_state_of links) ≡ true → fault_of_page (chain_state_of links) page ≡ None
    → index_of (links_with links page) ≡ change_last (joined_entry page) (index_of links)
index_joined links page first open' none =
    let kept : NoneBroken (joining_rules (chain_state_of links) page) = joining_kept (chain_state_of links) page first open' none in
    let no_own : pages_with page.serial (last_link links) ≡ [] = no_pages (last_link links) page.serial kept.0 (absent links page.serial kept.1.0) in
    ap index_of (goes_on_open links page open')
    ∙ index_grows links page (joined_entry page) (open_some links open') (λ start. joined start (last_link links) page first no_own)

pub index_opened : (links : List (List Page)) (page : Page) → is_first page ≡ true → is_open (chain_state_of links) ≡ false
    → index_of (links_with links page) ≡ index_of links ++ opened_entry (chain_state_of links).length_of page ∷ []
index_opened links page first closed =
    ap index_of (begins_here links page first closed)
    ∙ index_at 0 links (page ∷ [])
    ∙ ap (λ e. index_of links ++ e ∷ []) (opened (0 + length (flat_map bytes_of_pages links)) page first)
    ∙ ap (λ n. index_of links ++ opened_entry n page ∷ []) (omega (arith, sizes_are links))

-- the pages of all links have the bytes of the links
pub joined_flat : (links : List (List Page)) → bytes_of_pages (flattened links) ≡ flat_map bytes_of_pages links
joined_flat [] = refl
joined_flat (link ∷ links) = bytes_both link (flattened links) ∙ ap (λ l. bytes_of_pages link ++ l) (joined_flat links)
