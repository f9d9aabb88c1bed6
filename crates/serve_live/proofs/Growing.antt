-- The links that more pages make of the links at a moment; and what a listener hears of them is a chain.
use Rattle.std.proofs.Common.{◌≡◌, ◌≢◌, ℕ, ◌<◌, Bool, true, false, List, [], ◌∷◌, ◌++◌, length, map, refl, sym, ◌∙◌, ap, subst, arith, append_assoc, length-append, inl, inr, None}
use Rattle.std.specs.Prelude.{not, ◌&&◌, ◌||◌}
use Rattle.std.specs.List.{AllByRecursion, flat_map, list_any}
use Rattle.std.proofs.lemmas.Bool.{cases_Bool, false≢true}
use Rattle.std.proofs.lemmas.List.{append-nil}
use Rattle.std.proofs.lemmas.List.Concat.{flat_map-append}
use Rattle.std.proofs.lemmas.List.Folds.{list_any-append}
use Rattle.ogg_page.specs.Page.{Page, IsPage, bytes_of_pages}
use Rattle.ogg_page.specs.PageLaws.{bytes_both}
use Rattle.ogg_page.specs.LogicalStream.{is_first, number_behind}
use Rattle.ogg_page.specs.StreamLaws.{false_is_not_true}
use Rattle.ogg_page.specs.Laws.Prefixes.{same_fronts}
use Rattle.link_chain.specs.ChainState.{chain_state_of, is_open, last_link}
use Rattle.link_chain.specs.Links.{AreLinks, IsLink, all_ended, flattened, has_ended, pages_with, serials_of, with_pages}
use Rattle.link_chain.specs.Taking.{AreTaken, fault_of_page, links_with}
use Rattle.link_chain.specs.LinkLaws.{in_turn, one_chain, only, pages_flattened}
use Rattle.link_chain.specs.Laws.Fronts.{behind_at}
use Rattle.link_chain.specs.Laws.Grow.{filter_none}
use Rattle.link_chain.specs.Laws.InTurn.{bytes_flattened, same_pages}
use Rattle.link_chain.specs.Laws.LastLink.{all_split, closed_link, last_is_link}
use Rattle.link_chain.specs.Laws.PageRules.{joining_kept}
use Rattle.link_chain.specs.Laws.PageState.{all_first, begins_here, goes_on_later, goes_on_open}
use Rattle.link_chain.specs.Laws.StateBehind.{last_is}
use Rattle.serve_live.specs.Heard.{gap, end_page, ended_unheard, heard_after, heard_bytes, heard_link}
use Rattle.serve_live.specs.Joining.{AreLater}
use Rattle.serve_live.specs.Live.{IsBetween, IsLive, IsMidway, IsMomentOf, Moment}
use Rattle.serve_live.proofs.Chain.{are_links, front_is_chain, links_behind}
use Rattle.serve_live.proofs.Commands.{with_last}
use Rattle.serve_live.proofs.Hearing.{heard_alike, no_gaps}
use Rattle.ogg_page.specs.Laws.PageBytes.{all_both}

-- whether a page of the link is no stream's first
abbrev has_data : List Page → Bool
has_data link = list_any (λ (page : Page). not (is_first page)) link

-- The link has further pages, and further links follow. If it had a page that is no stream's first, none of its further
-- pages is a stream's first.
record HasGrown (before : List (List Page)) (link : List Page) (links : List (List Page)) : Type 0 where
  pub later : List Page
  pub further : List (List Page)
  pub split : links ≡ before ++ (link ++ later) ∷ further
  pub unmarked : has_data link ≡ true → AreLater later

grown_by_page : (before : List (List Page)) (link : List Page) (links : List (List Page)) (page : Page) → fault_of_page (chain_state_of links) page ≡ None →
    HasGrown before link links → HasGrown before link (links_with links page)
grown_by_page before link links page none g =
    elim (cases_Bool (is_first page)) [
      | inr later ↦ subst (HasGrown before link) (sym (goes_on_later links page later)) (with_one g.further g.split (λ _ _. (later, tt)))
      | inl first ↦
          elim (cases_Bool (is_open (chain_state_of links))) [
            | inr closed ↦
                subst (HasGrown before link) (sym (begins_here links page first closed))
                (record {
                  later = g.later;
                  further = g.further ++ (page ∷ []) ∷ [];
                  split = ap (λ l. l ++ (page ∷ []) ∷ []) g.split ∙ append_assoc before ((link ++ g.later) ∷ g.further) ((page ∷ []) ∷ []);
                  unmarked = g.unmarked;
                })
            | inl open' ↦
                subst (HasGrown before link) (sym (goes_on_open links page open'))
                (with_one g.further g.split (λ last some.
                false_is_not_true (has_data (link ++ g.later))
                (sym (ap has_data (ap last_link (g.split ∙ ap (λ x. before ++ (link ++ g.later) ∷ x) last) ∙ last_is before (link ++ g.later))) ∙ (joining_kept (chain_state_of links) page first open' none).0)
                (list_any-append (λ (p : Page). not (is_first p)) link g.later ∙ ap (λ b. b || has_data g.later) some)))
          ]
    ]
  where
    with_one : (further : List (List Page)) → links ≡ before ++ (link ++ g.later) ∷ further → (further ≡ [] → has_data link ≡ true → AreLater (page ∷ [])) →
        HasGrown before link (with_pages links (page ∷ []))
    with_one [] split unmarked = record {
      later = g.later ++ page ∷ [];
      further = [];
      split = ap (λ l. with_pages l (page ∷ [])) split ∙ with_last before (link ++ g.later) [] (page ∷ []) ∙ ap (λ x. before ++ x ∷ []) (append_assoc link g.later (page ∷ []));
      unmarked = λ some. all_both (λ (p : Page). is_first p ≡ false) g.later (page ∷ []) (g.unmarked some) (unmarked refl some);
    }
    with_one (next ∷ further) split unmarked = record {
      later = g.later;
      further = with_pages (next ∷ further) (page ∷ []);
      split = ap (λ l. with_pages l (page ∷ [])) split ∙ with_last before (link ++ g.later) (next ∷ further) (page ∷ []);
      unmarked = g.unmarked;
    }

grown_by_pages : (before : List (List Page)) (link : List Page) (start : List (List Page)) (pages : List Page) (links : List (List Page)) → HasGrown before link start →
    AreTaken start pages links → HasGrown before link links
grown_by_pages before link start [] links g h = subst (HasGrown before link) (sym h) g
grown_by_pages before link start (page ∷ pages) links g h =
    grown_by_pages before link (links_with start page) pages links (grown_by_page before link start page h.0 g) h.1

grown_from : (before : List (List Page)) (link : List Page) (pages : List Page) (links : List (List Page)) → AreTaken (before ++ link ∷ []) pages links → HasGrown before link links
grown_from before link pages links h =
    grown_by_pages before link (before ++ link ∷ []) pages links
    (record { later = []; further = []; split = ap (λ x. before ++ x ∷ []) (sym (append-nil link)); unmarked = λ _. tt }) h

-- ---- pages that are taken after those of links
record TakenBoth (start : List (List Page)) (front rest : List Page) (links : List (List Page)) : Type 0 where
  pub middle : List (List Page)
  pub before : AreTaken start front middle
  pub after : AreTaken middle rest links

taken_both : (start : List (List Page)) (front rest : List Page) (links : List (List Page)) → AreTaken start (front ++ rest) links → TakenBoth start front rest links
taken_both start [] rest links h = record { middle = start; before = refl; after = h }
taken_both start (page ∷ front) rest links h =
    let more : TakenBoth (links_with start page) front rest links = taken_both (links_with start page) front rest links h.1 in
    record { middle = more.middle; before = (h.0, more.before); after = more.after }

taken_after : (front committed : List ℕ) (old links : List (List Page)) (after : List Page) → AreLinks front old → AreLinks committed links → AllByRecursion IsPage after →
    committed ≡ front ++ bytes_of_pages after → AreTaken old after links
taken_after front committed old links after lo ln are split =
    let first : List Page = flattened old in
    let first_pages : AllByRecursion IsPage first = pages_flattened old lo.pages in
    let spelled : front ≡ bytes_of_pages first = lo.spelled ∙ bytes_flattened old in
    let all : flattened links ≡ first ++ after =
    same_pages (flattened links) (first ++ after) (pages_flattened links ln.pages) (all_both IsPage first after first_pages are)
    (sym (bytes_flattened links) ∙ sym ln.spelled ∙ split ∙ ap (λ x. x ++ bytes_of_pages after) spelled ∙ sym (bytes_both first after)) in
    let both : TakenBoth [] first after links = taken_both [] first after links (subst (λ (p : List Page). AreTaken [] p links) all (only committed links ln)) in
    let middle : both.middle ≡ old = one_chain front both.middle old
    (subst (λ b. AreLinks b both.middle) (sym spelled) ((in_turn first both.middle first_pages).0 both.before)) lo in
    subst (λ (x : List (List Page)). AreTaken x after links) middle both.after

-- ---- what is heard is a chain
abbrev Heard : List ℕ → Type 0
Heard bytes = (links : List (List Page)) × AreLinks bytes links

-- the last links of a chain are a chain
rest_heard : (committed bytes : List ℕ) (before rest : List (List Page)) → AreLinks committed (before ++ rest) → committed ≡ flat_map bytes_of_pages before ++ bytes → Heard bytes
rest_heard committed bytes before rest l split =
    let back : AreLinks (flat_map bytes_of_pages rest) rest = links_behind committed before rest l in
    let same : flat_map bytes_of_pages rest ≡ bytes =
    (same_fronts (flat_map bytes_of_pages before) (flat_map bytes_of_pages before) (flat_map bytes_of_pages rest) bytes refl
    (sym (flat_map-append bytes_of_pages before rest) ∙ sym l.spelled ∙ split)).1 in
    (rest, subst (λ b. AreLinks b rest) same back)

-- if nothing was passed, pages are heard as they are
none_passed : (begin after : List Page) → heard_bytes begin [] after ≡ bytes_of_pages (begin ++ after)
none_passed begin after =
    ap (λ l. bytes_of_pages (begin ++ (map (end_page begin []) l ++ heard_after (gap begin []) after))) none
    ∙ ap (λ l. bytes_of_pages (begin ++ l)) (heard_alike (gap begin []) (λ _. 0) no_gap after ∙ no_gaps after)
  where
    same : begin ++ [] ≡ begin
    same = append-nil begin

    no_gap : (s : ℕ) → gap begin [] s ≡ 0
    no_gap s =
        let number : number_behind (pages_with s (begin ++ [])) ≡ number_behind (pages_with s begin) = ap (λ x. number_behind (pages_with s x)) same in
        omega (arith, number)

    and_not : (b : Bool) → (b && not b) ≡ false
    and_not true = refl
    and_not false = refl

    each : (serials : List ℕ) → AllByRecursion (λ s. (has_ended (begin ++ []) s && not (has_ended begin s)) ≡ false) serials
    each [] = tt
    each (s ∷ serials) = (ap (λ x. has_ended x s && not (has_ended begin s)) same ∙ and_not (has_ended begin s), each serials)

    none : ended_unheard begin [] ≡ []
    none = filter_none (λ s. has_ended (begin ++ []) s && not (has_ended begin s)) (serials_of begin) (each (serials_of begin))

-- a link of first pages alone was joined
no_later : (pages : List Page) → AreLater pages → AllByRecursion (λ page. is_first page ≡ true) pages → pages ≡ []
no_later [] h a = refl
no_later (page ∷ pages) h a = false_is_not_true (is_first page) h.0 a.0

-- a link has a page
some_link : (link : List Page) → IsLink link → link ≢ []
some_link link l e =
    let n : 0 < length l.first_pages = l.some in
    absurd (omega (arith, n, ap length (sym l.split ∙ e), length-append l.first_pages l.others))

-- a link of which all streams have ended has no further page
nothing_later : (link later : List Page) → link ≢ [] → all_ended link ≡ true → IsLink (link ++ later) → later ≡ []
nothing_later link [] some ended l = refl
nothing_later link (page ∷ later) some ended l =
    absurd (false≢true (sym (behind_at (λ (before : List Page) (p : Page). before ≢ [] → all_ended before ≡ false) [] (link ++ page ∷ later) l.one link later page refl some) ∙ ended))

record LastOf (links : List (List Page)) : Type 0 where
  pub before : List (List Page)
  pub last : List Page
  pub split : links ≡ before ++ last ∷ []

last_of_links : (link : List Page) (links : List (List Page)) → LastOf (link ∷ links)
last_of_links link [] = record { before = []; last = link; split = refl }
last_of_links link (next ∷ links) =
    let more : LastOf (next ∷ links) = last_of_links next links in
    record { before = link ∷ more.before; last = more.last; split = ap (λ l. link ∷ l) more.split }

pub live_is_chain : (front committed more bytes : List ℕ) (moment : Moment) (links : List (List Page)) → IsMomentOf front moment → committed ≡ front ++ more →
    AreLinks committed links → IsLive moment committed bytes → Heard bytes
live_is_chain front committed more bytes moment links m goes_on l live =
    let size : length live.front ≡ length front = live.place_is ∙ m.place in
    let parts : (live.front ≡ front) × (bytes_of_pages live.after ≡ more) =
    same_fronts live.front front (bytes_of_pages live.after) more size (sym live.split ∙ goes_on) in
    let split : committed ≡ front ++ bytes_of_pages live.after = goes_on ∙ ap (λ x. front ++ x) (sym parts.1) in
    let taken : AreTaken m.links live.after links = taken_after front committed m.links links live.after m.are_links l live.are_pages split in
    let heard : Heard (heard_bytes moment.begin moment.passed live.after) =
    elim m.last [
      | inl mid ↦ midway mid taken split
      | inr none ↦ between none taken split
    ] in
    (heard.0, subst (λ b. AreLinks b heard.0) (sym live.bytes_are) heard.1)
  where
    -- a link was open
    midway : IsMidway m.links moment → AreTaken m.links live.after links → committed ≡ front ++ bytes_of_pages live.after → Heard (heard_bytes moment.begin moment.passed live.after)
    midway mid taken split =
        let link : List Page = moment.begin ++ moment.passed in
        let g : HasGrown mid.before link links =
        grown_from mid.before link live.after links (subst (λ (x : List (List Page)). AreTaken x live.after links) mid.split taken) in
        let was : AreLinks front (mid.before ++ link ∷ []) = subst (λ (x : List (List Page)). AreLinks front x) mid.split m.are_links in
        let now : AreLinks committed (mid.before ++ (link ++ g.later) ∷ g.further) = subst (λ (x : List (List Page)). AreLinks committed x) g.split l in
        let own : front ≡ flat_map bytes_of_pages mid.before ++ bytes_of_pages link =
        was.spelled ∙ flat_map-append bytes_of_pages mid.before (link ∷ []) ∙ ap (λ x. flat_map bytes_of_pages mid.before ++ x) (append-nil (bytes_of_pages link)) in
        elim (cases_Bool (has_data link)) [
          | inl some ↦
              (let later : AreLater g.later = g.unmarked some in
              let same : moment.begin ++ (moment.passed ++ g.later) ≡ link ++ g.later = sym (append_assoc moment.begin moment.passed g.later) in
              let all : AreLinks committed (mid.before ++ (moment.begin ++ (moment.passed ++ g.later)) ∷ g.further) =
              subst (λ (x : List Page). AreLinks committed (mid.before ++ x ∷ g.further)) (sym same) now in
              let spelled : committed ≡ front ++ bytes_of_pages (g.later ++ flattened g.further) =
              now.spelled ∙ flat_map-append bytes_of_pages mid.before ((link ++ g.later) ∷ g.further)
              ∙ ap (λ x. flat_map bytes_of_pages mid.before ++ (x ++ flat_map bytes_of_pages g.further)) (bytes_both link g.later)
              ∙ ap (λ x. flat_map bytes_of_pages mid.before ++ x) (append_assoc (bytes_of_pages link) (bytes_of_pages g.later) (flat_map bytes_of_pages g.further))
              ∙ sym (append_assoc (flat_map bytes_of_pages mid.before) (bytes_of_pages link) (bytes_of_pages g.later ++ flat_map bytes_of_pages g.further))
              ∙ ap (λ x. x ++ (bytes_of_pages g.later ++ flat_map bytes_of_pages g.further)) (sym own)
              ∙ ap (λ x. front ++ (bytes_of_pages g.later ++ x)) (bytes_flattened g.further)
              ∙ ap (λ x. front ++ x) (sym (bytes_both g.later (flattened g.further))) in
              let after : live.after ≡ g.later ++ flattened g.further =
              same_pages live.after (g.later ++ flattened g.further) live.are_pages (after_pages g now)
              (same_fronts front front (bytes_of_pages live.after) (bytes_of_pages (g.later ++ flattened g.further)) refl (sym split ∙ spelled)).1 in (
                heard_link moment.begin moment.passed g.later ∷ g.further,
                subst (λ (x : List Page). AreLinks (heard_bytes moment.begin moment.passed x) (heard_link moment.begin moment.passed g.later ∷ g.further)) (sym after)
                    (are_links committed mid.before g.further moment.begin moment.passed g.later all mid.joined later),
              ))
          | inr none ↦
              (let passed : moment.passed ≡ [] =
              no_later moment.passed mid.joined.begun (all_split (λ (p : Page). is_first p ≡ true) moment.begin moment.passed (all_first link none)).1 in
              let is : link ≡ moment.begin = ap (λ x. moment.begin ++ x) passed ∙ append-nil moment.begin in
              let heard : heard_bytes moment.begin moment.passed live.after ≡ bytes_of_pages (moment.begin ++ live.after) =
              ap (λ x. heard_bytes moment.begin x live.after) passed ∙ none_passed moment.begin live.after in
              let spelled : committed ≡ flat_map bytes_of_pages mid.before ++ bytes_of_pages (moment.begin ++ live.after) =
              split ∙ ap (λ x. x ++ bytes_of_pages live.after) (own ∙ ap (λ x. flat_map bytes_of_pages mid.before ++ bytes_of_pages x) is)
              ∙ append_assoc (flat_map bytes_of_pages mid.before) (bytes_of_pages moment.begin) (bytes_of_pages live.after)
              ∙ ap (λ x. flat_map bytes_of_pages mid.before ++ x) (sym (bytes_both moment.begin live.after)) in
              subst Heard (sym heard) (rest_heard committed (bytes_of_pages (moment.begin ++ live.after)) mid.before ((link ++ g.later) ∷ g.further) now spelled))
        ]
      where
        after_pages : (g : HasGrown mid.before (moment.begin ++ moment.passed) links) → AreLinks committed (mid.before ++ ((moment.begin ++ moment.passed) ++ g.later) ∷ g.further) →
            AllByRecursion IsPage (g.later ++ flattened g.further)
        after_pages g now =
            let pages = (all_split (AllByRecursion IsPage) mid.before (((moment.begin ++ moment.passed) ++ g.later) ∷ g.further) now.pages).1 in
            all_both IsPage g.later (flattened g.further) (all_split IsPage (moment.begin ++ moment.passed) g.later pages.0).1 (pages_flattened g.further pages.1)

    -- no link was open
    between : IsBetween m.links moment → AreTaken m.links live.after links → committed ≡ front ++ bytes_of_pages live.after → Heard (heard_bytes moment.begin moment.passed live.after)
    between none taken split =
        let heard : heard_bytes moment.begin moment.passed live.after ≡ bytes_of_pages live.after =
        ap (λ x. heard_bytes x moment.passed live.after) none.begin ∙ ap (λ x. heard_bytes [] x live.after) none.passed ∙ none_passed [] live.after in
        subst Heard (sym heard) (from m.links m.are_links none.closed taken)
      where
        from : (old : List (List Page)) → AreLinks front old → is_open (chain_state_of old) ≡ false → AreTaken old live.after links → Heard (bytes_of_pages live.after)
        from [] was closed taken =
            rest_heard committed (bytes_of_pages live.after) [] links l (split ∙ ap (λ x. x ++ bytes_of_pages live.after) was.spelled)
        from (link ∷ old) was closed taken =
            let at : LastOf (link ∷ old) = last_of_links link old in
            let g : HasGrown at.before at.last links = grown_from at.before at.last live.after links (subst (λ (x : List (List Page)). AreTaken x live.after links) at.split taken) in
            let now : AreLinks committed (at.before ++ (at.last ++ g.later) ∷ g.further) = subst (λ (x : List (List Page)). AreLinks committed x) g.split l in
            let last : last_link (link ∷ old) ≡ at.last = ap last_link at.split ∙ last_is at.before at.last in
            let is : IsLink at.last = subst IsLink last (last_is_link (link ∷ old) was.each (λ e. cc)) in
            let ended : all_ended at.last ≡ true = ap all_ended (sym last) ∙ closed_link (link ∷ old) (subst IsLink (sym last) is) closed in
            let none : g.later ≡ [] = nothing_later at.last g.later (some_link at.last is) ended (all_split IsLink at.before ((at.last ++ g.later) ∷ g.further) now.each).1.0 in
            let same : at.before ++ (at.last ++ g.later) ∷ g.further ≡ (link ∷ old) ++ g.further =
            ap (λ x. at.before ++ (at.last ++ x) ∷ g.further) none ∙ ap (λ x. at.before ++ x ∷ g.further) (append-nil at.last)
            ∙ sym (append_assoc at.before (at.last ∷ []) g.further) ∙ ap (λ x. x ++ g.further) (sym at.split) in
            rest_heard committed (bytes_of_pages live.after) (link ∷ old) g.further (subst (λ (x : List (List Page)). AreLinks committed x) same now)
            (split ∙ ap (λ x. x ++ bytes_of_pages live.after) was.spelled)

-- up to any of its pages
pub live_fronts : (front committed more bytes : List ℕ) (moment : Moment) (links : List (List Page)) (pages rest : List Page) → IsMomentOf front moment → committed ≡ front ++ more →
    AreLinks committed links → IsLive moment committed bytes → AllByRecursion IsPage (pages ++ rest) → bytes ≡ bytes_of_pages (pages ++ rest) → Heard (bytes_of_pages pages)
live_fronts front committed more bytes moment links pages rest m goes_on l live are is =
    let heard : Heard bytes = live_is_chain front committed more bytes moment links m goes_on l live in
    front_is_chain bytes heard.0 pages rest heard.1
    (same_pages (flattened heard.0) (pages ++ rest) (pages_flattened heard.0 heard.1.pages) are (sym (bytes_flattened heard.0) ∙ sym heard.1.spelled ∙ is))
