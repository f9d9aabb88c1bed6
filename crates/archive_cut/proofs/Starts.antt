-- Where a cut begins, and what is walked over for it.
use Rattle.std.proofs.Common.{◌≡◌, ◌≢◌, ℕ, ◌+◌, ◌<◌, ◌≤◌, Bool, true, false, List, [], ◌∷◌, ◌++◌, length, drop, refl, sym, ◌∙◌, ap, subst, arith, append_assoc, length-append, eq-eqb, inl, inr, None}
use Rattle.std.specs.Prelude.{nat_eq, not, ◌||◌}
use Rattle.std.specs.List.{AllByRecursion, flat_map, list_any}
use Rattle.std.proofs.lemmas.Bool.{cases_Bool, cond-true, cond-false, false≢true, ne_eqb}
use Rattle.std.proofs.lemmas.List.{append-nil, drop_at}
use Rattle.std.proofs.lemmas.List.Concat.{flat_map-append}
use Rattle.ogg_page.specs.LogicalStream.{is_first}
use Rattle.ogg_page.specs.Page.{Page, IsPage, page_bytes, bytes_of_pages}
use Rattle.ogg_page.specs.PageLaws.{bytes_both, length-page_bytes, pages_both}
use Rattle.link_chain.specs.declared.stream_state.StreamState.{StreamState}
use Rattle.link_chain.specs.ChainState.{ChainState, chain_state_of, is_open, last_link}
use Rattle.link_chain.specs.Followed.{entered}
use Rattle.link_chain.specs.Links.{AllButLast, AreLinks, IsLink, all_ended, flattened}
use Rattle.link_chain.specs.LinkLaws.{only, pages_flattened}
use Rattle.link_chain.specs.Taking.{AreTaken, fault_of_page, links_with}
use Rattle.link_chain.specs.Laws.Fronts.{page_fits}
use Rattle.link_chain.specs.Laws.InTurn.{bytes_flattened, same_pages}
use Rattle.link_chain.specs.Laws.LastLink.{all_split, open_link}
use Rattle.link_chain.specs.Laws.PageState.{joined_state, later_state, opened_state}
use Rattle.serve_live.specs.Joining.{AreLater}
use Rattle.serve_live.specs.Live.{Moment}
use Rattle.serve_live.specs.Places.{IsPlaceIn}
use Rattle.archive_times.specs.declared.line.Join.{Join}
use Rattle.archive_cut.specs.Cutting.{IsSameLink}
use Rattle.archive_cut.specs.Heads.{StandUpTo, begun_by, continued_by, entered_by, said_of, some_open, streams_after, streams_by, up_to_first}
use Rattle.archive_cut.specs.Starting.{IsStartJoined, IsStartWaiting}

-- ---- the streams after pages that are taken
step : (links : List (List Page)) (page : Page) → fault_of_page (chain_state_of links) page ≡ None →
    (chain_state_of (links_with links page)).streams ≡ streams_by (said_of page) (chain_state_of links).streams
step links page e =
    let chain : ChainState = chain_state_of links in
    let now : List StreamState = chain.streams in
    let begun : List StreamState = begun_by (said_of page) now in
    let on : List StreamState = continued_by (said_of page) now in
    elim (cases_Bool (is_first page)) [
      | inl first ↦
          elim (cases_Bool (is_open chain)) [
            | inl open' ↦
                ap (λ (c : ChainState). c.streams) (joined_state chain links page refl first open' e)
                ∙ ap (λ l. l ++ entered page ∷ []) (sym (cond-true (some_open now) now [] open'))
                ∙ sym (cond-true (is_first page) begun on first)
            | inr closed ↦
                ap (λ (c : ChainState). c.streams) (opened_state chain links page refl first closed)
                ∙ ap (λ l. l ++ entered page ∷ []) (sym (cond-false (some_open now) now [] closed))
                ∙ sym (cond-true (is_first page) begun on first)
          ]
      | inr later ↦
          ap (λ (c : ChainState). c.streams) (later_state chain links page refl later e) ∙ sym (cond-false (is_first page) begun on later)
    ]

streams_taken : (pages : List Page) (start links : List (List Page)) → AreTaken start pages links →
    streams_after (chain_state_of start).streams pages ≡ (chain_state_of links).streams
streams_taken [] start links h = ap (λ (l : List (List Page)). (chain_state_of l).streams) (sym h)
streams_taken (page ∷ pages) start links h =
    ap (λ s. streams_after s pages) (sym (step start page h.0)) ∙ streams_taken pages (links_with start page) links h.1

pub after_both : (a b : List Page) (s : List StreamState) → streams_after s (a ++ b) ≡ streams_after (streams_after s a) b
after_both [] b s = refl
after_both (page ∷ a) b s = after_both a b (streams_by (said_of page) s)

pub streams_of : (bytes : List ℕ) (links : List (List Page)) → AreLinks bytes links → streams_after [] (flattened links) ≡ (chain_state_of links).streams
streams_of bytes links l = streams_taken (flattened links) [] links (only bytes links l)

-- ---- a link begins with a first page
none_empty : IsLink [] → ⊥
none_empty l =
    let n : 0 < length l.first_pages = l.some in
    let e : length l.first_pages + length l.others ≡ 0 = sym (length-append l.first_pages l.others) ∙ ap length (sym l.split) in
    absurd (omega (arith, n, e))

link_first : (page : Page) (pages : List Page) → IsLink (page ∷ pages) → is_first page ≡ true
link_first page pages l = (page_fits [] page pages l).first.1 refl

-- whatever closed link stood before it, its streams are its own
streams_alone : (s : List StreamState) (link : List Page) → some_open s ≡ false → IsLink link → streams_after s link ≡ streams_after [] link
streams_alone s [] closed l = absurd (none_empty l)
streams_alone s (page ∷ pages) closed l =
    let first : is_first page ≡ true = link_first page pages l in
    ap (λ x. streams_after x pages)
    (cond-true (is_first page) (begun_by (said_of page) s) (continued_by (said_of page) s) first
    ∙ ap (λ x. x ++ entered_by (said_of page) ∷ []) (cond-false (some_open s) s [] closed)
    ∙ sym (cond-true (is_first page) (begun_by (said_of page) []) (continued_by (said_of page) []) first))

up_to_links : (since : List Page) (further : List (List Page)) → AreLater since → AllByRecursion IsLink further → up_to_first (since ++ flattened further) ≡ since
up_to_links [] [] later each = refl
up_to_links [] ([] ∷ further) later each = absurd (none_empty each.0)
up_to_links [] ((page ∷ pages) ∷ further) later each =
    cond-true (is_first page) [] (page ∷ up_to_first (pages ++ flattened further)) (link_first page pages each.0)
up_to_links (page ∷ since) further later each =
    cond-false (is_first page) [] (page ∷ up_to_first (since ++ flattened further)) later.0 ∙ ap (λ l. page ∷ l) (up_to_links since further later.1 each)

-- whether another link has begun
no_other : (since : List Page) → AreLater since → list_any is_first (since ++ []) ≡ false
no_other [] later = refl
no_other (page ∷ since) later = ap (λ b. b || list_any is_first (since ++ [])) later.0 ∙ no_other since later.1

other_begun : (since : List Page) (further : List (List Page)) → further ≢ [] → AllByRecursion IsLink further → list_any is_first (since ++ flattened further) ≡ true
other_begun [] [] some each = absurd (some refl)
other_begun [] ([] ∷ further) some each = absurd (none_empty each.0)
other_begun [] ((page ∷ pages) ∷ further) some each = ap (λ b. b || list_any is_first (pages ++ flattened further)) (link_first page pages each.0)
other_begun (page ∷ since) further some each =
    elim (cases_Bool (is_first page)) [
      | inl first ↦ ap (λ b. b || list_any is_first (since ++ flattened further)) first
      | inr later ↦ ap (λ b. b || list_any is_first (since ++ flattened further)) later ∙ other_begun since further some each
    ]

-- further links have bytes
some_bytes : (further : List (List Page)) → further ≢ [] → AllByRecursion IsLink further → 0 < length (bytes_of_pages (flattened further))
some_bytes [] some each = absurd (some refl)
some_bytes ([] ∷ further) some each = absurd (none_empty each.0)
some_bytes ((page ∷ pages) ∷ further) some each =
    let rest : List Page = pages ++ flattened further in
    let all : length (bytes_of_pages (page ∷ rest)) ≡ length (page_bytes page) + length (bytes_of_pages rest) = length-append (page_bytes page) (bytes_of_pages rest) in
    omega (arith, all, length-page_bytes page)

-- ---- the first of links are links
front_ended : (P : List Page → Type 0) (a b : List (List Page)) → AllButLast P (a ++ b) → AllButLast P a
front_ended P [] b h = tt
front_ended P (x ∷ []) b h = tt
front_ended P (x ∷ y ∷ a) b h = (h.0, front_ended P (y ∷ a) b h.1)

pub links_up_to : (bytes : List ℕ) (a b : List (List Page)) → AreLinks bytes (a ++ b) → AreLinks (flat_map bytes_of_pages a) a
links_up_to bytes a b l =
    let few : length (a ++ b) ≤ 65536 = l.few in
    record {
      spelled = refl;
      pages = (all_split (AllByRecursion IsPage) a b l.pages).0;
      few = omega (arith, few, length-append a b);
      each = (all_split IsLink a b l.each).0;
      ended = front_ended (λ x. all_ended x ≡ true) a b l.ended;
    }

last_ended : (before : List (List Page)) (link : List Page) (further : List (List Page)) → AllButLast (λ x. all_ended x ≡ true) (before ++ link ∷ further) → before ≢ [] →
    all_ended (last_link before) ≡ true
last_ended [] link further h some = absurd (some refl)
last_ended (b ∷ []) link further h some = h.0
last_ended (b ∷ c ∷ before) link further h some = last_ended (c ∷ before) link further h.1 (λ e. cc)

closed_before : (before : List (List Page)) (link : List Page) (further : List (List Page)) → AllButLast (λ x. all_ended x ≡ true) (before ++ link ∷ further) →
    some_open (chain_state_of before).streams ≡ false
closed_before [] link further h = refl
closed_before (b ∷ before) link further h =
    elim (cases_Bool (is_open (chain_state_of (b ∷ before)))) [
      | inr closed ↦ closed
      | inl open' ↦
          absurd (false≢true (sym (open_link (b ∷ before) open') ∙ last_ended (b ∷ before) link further h (λ e. cc)))
    ]

-- ---- what is walked over
-- the links up to a place, and those behind it
pub record AreBehind (bytes committed : List ℕ) (links up_to further : List (List Page)) (end : ℕ) : Type 0 where
  pub up_links : AreLinks (flat_map bytes_of_pages up_to) up_to
  pub split : committed ≡ flat_map bytes_of_pages up_to ++ bytes_of_pages (flattened further)
  pub are_pages : AllByRecursion IsPage (flattened further)
  pub each : AllByRecursion IsLink further
  pub stand : StandUpTo bytes (length (flat_map bytes_of_pages up_to)) end (flattened further)
  pub streams : streams_after (chain_state_of up_to).streams (flattened further) ≡ (chain_state_of links).streams

pub behind : (bytes committed more : List ℕ) (links up_to further : List (List Page)) (end : ℕ) → bytes ≡ committed ++ more → length committed ≡ end →
    AreLinks committed links → links ≡ up_to ++ further → AreBehind bytes committed links up_to further end
behind bytes committed more links up_to further end is end_is l split =
    let all : AreLinks committed (up_to ++ further) = subst (AreLinks committed) split l in
    let up : List ℕ = flat_map bytes_of_pages up_to in
    let own : AreLinks up up_to = links_up_to committed up_to further all in
    let pages : List Page = flattened further in
    let spelled : committed ≡ up ++ bytes_of_pages pages =
    all.spelled ∙ flat_map-append bytes_of_pages up_to further ∙ ap (λ x. up ++ x) (bytes_flattened further) in
    let are : AllByRecursion IsPage pages = pages_flattened further (all_split (AllByRecursion IsPage) up_to further all.pages).1 in
    let size : length committed ≡ length up + length (bytes_of_pages pages) = ap length spelled ∙ length-append up (bytes_of_pages pages) in
    record {
      up_links = own;
      split = spelled;
      are_pages = are;
      each = (all_split IsLink up_to further all.each).1;
      stand = record {
        are_pages = are;
        rest = more;
        stand = ap (drop (length up)) (is ∙ ap (λ x. x ++ more) spelled ∙ append_assoc up (bytes_of_pages pages) more)
            ∙ drop_at up (bytes_of_pages pages ++ more) (length up) refl;
        ends = omega (arith, size, end_is);
      };
      streams = ap (λ s. streams_after s pages) (sym (streams_of up up_to own))
          ∙ sym (after_both (flattened up_to) pages [])
          ∙ ap (streams_after []) (sym (flat_map-append (λ (x : List Page). x) up_to further))
          ∙ streams_of committed (up_to ++ further) all
          ∙ ap (λ (x : List (List Page)). (chain_state_of x).streams) (sym split);
    }

stands_behind : (bytes front : List ℕ) (pages : List Page) (rest : List ℕ) (start end : ℕ) → bytes ≡ front ++ (bytes_of_pages pages ++ rest) → length front ≡ start →
    start + length (bytes_of_pages pages) ≡ end → AllByRecursion IsPage pages → StandUpTo bytes start end pages
stands_behind bytes front pages rest start end is front_is ends are = record {
  are_pages = are;
  rest = rest;
  stand = ap (drop start) is ∙ drop_at front (bytes_of_pages pages ++ rest) start front_is;
  ends = ends;
}

same_of : (moment : Moment) (committed : List ℕ) (pages : List Page) (same : Bool) → AllByRecursion IsPage pages → drop moment.place committed ≡ bytes_of_pages pages →
    list_any is_first pages ≡ not same → IsSameLink moment committed same
same_of moment committed pages same own at is = λ after are h. ap (list_any is_first) (same_pages after pages are own (sym h ∙ at)) ∙ is

-- ---- where no link is open
pub record IsReadyToWait (bytes committed : List ℕ) (links : List (List Page)) (moment : Moment) (start end : ℕ) : Type 0 where
  pub front : List ℕ
  pub pages : List Page
  pub split : committed ≡ front ++ bytes_of_pages pages
  pub front_is : length front ≡ start
  pub moment_is : moment ≡ record { place = length front; begin = []; passed = [] }
  pub are_pages : AllByRecursion IsPage pages
  pub stand : StandUpTo bytes start end pages
  pub streams : streams_after [] pages ≡ (chain_state_of links).streams
  pub same : IsSameLink moment committed false

pub ready_to_wait : (bytes committed more : List ℕ) (links : List (List Page)) (moment : Moment) (start end : ℕ) → bytes ≡ committed ++ more → length committed ≡ end →
    AreLinks committed links → IsStartWaiting links moment start → IsReadyToWait bytes committed links moment start end
ready_to_wait bytes committed more links moment start end is end_is l w =
    let up : List ℕ = flat_map bytes_of_pages w.before in
    let b : AreBehind bytes committed links w.before w.further end = behind bytes committed more links w.before w.further end is end_is l w.split in
    let pages : List Page = flattened w.further in
    let place : moment.place ≡ length up = ap (λ (m : Moment). m.place) w.moment_is ∙ w.start_is in
    record {
      front = up;
      pages = pages;
      split = b.split;
      front_is = sym w.start_is;
      moment_is = w.moment_is ∙ ap (λ (n : ℕ). record { place = n; begin = []; passed = [] }) w.start_is;
      are_pages = b.are_pages;
      stand = subst (λ n. StandUpTo bytes n end pages) (sym w.start_is) b.stand;
      streams = alone w.before w.further w.some b.each (subst (λ (x : List (List Page)). AreLinks committed x) w.split l) ∙ b.streams;
      same = same_of moment committed pages false b.are_pages
          (ap (λ n. drop n committed) place ∙ ap (drop (length up)) b.split ∙ drop_at up (bytes_of_pages pages) (length up) refl)
          (other_begun [] w.further w.some b.each);
    }
  where
    alone : (before further : List (List Page)) → further ≢ [] → AllByRecursion IsLink further → AreLinks committed (before ++ further) →
        streams_after [] (flattened further) ≡ streams_after (chain_state_of before).streams (flattened further)
    alone before [] some each are = absurd (some refl)
    alone before (link ∷ further) some each are =
        let s : List StreamState = (chain_state_of before).streams in
        after_both link (flattened further) []
        ∙ ap (λ x. streams_after x (flattened further)) (sym (streams_alone s link (closed_before before link further are.ended) each.0))
        ∙ sym (after_both link (flattened further) s)

-- ---- where a link is open
pub record IsReadyToJoin (bytes committed : List ℕ) (links : List (List Page)) (moment : Moment) (start end : ℕ) (link : Join) : Type 0 where
  pub up_to : List (List Page)
  pub further : List (List Page)
  -- the pages of the link before the start, and those since
  pub before : List Page
  pub own : List Page
  pub since : List Page
  pub more : List ℕ
  pub up_links : AreLinks (flat_map bytes_of_pages up_to) up_to
  pub place : IsPlaceIn up_to moment (record { begin = link.begin; begun = link.begun; boundary = start })
  pub bytes_are : bytes ≡ flat_map bytes_of_pages up_to ++ more
  pub split : committed ≡ flat_map bytes_of_pages up_to ++ bytes_of_pages (flattened further)
  pub are_pages : AllByRecursion IsPage (flattened further)
  pub since_stand : StandUpTo bytes start end since
  pub found : start + length (bytes_of_pages (up_to_first since)) ≡ length (flat_map bytes_of_pages up_to)
  pub before_stand : StandUpTo bytes link.begin start before
  pub own_stand : StandUpTo bytes start (length (flat_map bytes_of_pages up_to)) own
  pub own_streams : streams_after (streams_after [] before) own ≡ (chain_state_of up_to).streams
  pub further_stand : StandUpTo bytes (length (flat_map bytes_of_pages up_to)) end (flattened further)
  pub all_streams : streams_after (chain_state_of up_to).streams (flattened further) ≡ (chain_state_of links).streams
  pub same : IsSameLink moment committed (nat_eq (length (flat_map bytes_of_pages up_to)) end)

pub ready_to_join : (bytes committed more : List ℕ) (links : List (List Page)) (moment : Moment) (start end : ℕ) (link : Join) → bytes ≡ committed ++ more →
    length committed ≡ end → AreLinks committed links → IsStartJoined links moment start link → IsReadyToJoin bytes committed links moment start end link
ready_to_join bytes committed more links moment start end link is end_is l j =
    let up : List ℕ = flat_map bytes_of_pages j.up_to in
    let b : AreBehind bytes committed links j.up_to j.further end = behind bytes committed more links j.up_to j.further end is end_is l j.split in
    let at = j.place in
    let since : List Page = at.since in
    let further : List Page = flattened j.further in
    let own : List Page = moment.begin ++ (moment.passed ++ since) in
    let rest : List ℕ = bytes_of_pages further ++ more in
    let bytes_are : bytes ≡ up ++ rest = is ∙ ap (λ x. x ++ more) b.split ∙ append_assoc up (bytes_of_pages further) more in
    let one : AreBehind bytes up j.up_to at.before (own ∷ []) (length up) =
    behind bytes up rest j.up_to at.before (own ∷ []) (length up) bytes_are refl b.up_links at.split in
    let own_pages : own ++ [] ≡ own = append-nil own in
    let before : List ℕ = flat_map bytes_of_pages at.before in
    let front : List ℕ = before ++ (bytes_of_pages moment.begin ++ bytes_of_pages moment.passed) in
    let up_is : up ≡ front ++ bytes_of_pages since =
    one.split ∙ ap (λ x. before ++ bytes_of_pages x) own_pages
    ∙ ap (λ x. before ++ x) (bytes_both moment.begin (moment.passed ++ since) ∙ ap (λ x. bytes_of_pages moment.begin ++ x) (bytes_both moment.passed since)
    ∙ sym (append_assoc (bytes_of_pages moment.begin) (bytes_of_pages moment.passed) (bytes_of_pages since)))
    ∙ sym (append_assoc before (bytes_of_pages moment.begin ++ bytes_of_pages moment.passed) (bytes_of_pages since)) in
    let front_size : length front ≡ length before + (length (bytes_of_pages moment.begin) + length (bytes_of_pages moment.passed)) =
    length-append before (bytes_of_pages moment.begin ++ bytes_of_pages moment.passed)
    ∙ ap (λ n. length before + n) (length-append (bytes_of_pages moment.begin) (bytes_of_pages moment.passed)) in
    let begin_is : link.begin ≡ length before = at.begin_is in
    let begun_is : link.begun ≡ link.begin + length (bytes_of_pages moment.begin) = at.begun_is in
    let start_is : start ≡ link.begun + length (bytes_of_pages moment.passed) = at.boundary_is in
    let front_is : length front ≡ start = omega (arith, front_size, begin_is, begun_is, start_is) in
    let up_size : length up ≡ length front + length (bytes_of_pages since) = ap length up_is ∙ length-append front (bytes_of_pages since) in
    let pages : List Page = since ++ further in
    let both : bytes_of_pages pages ≡ bytes_of_pages since ++ bytes_of_pages further = bytes_both since further in
    let committed_is : committed ≡ front ++ bytes_of_pages pages =
    b.split ∙ ap (λ x. x ++ bytes_of_pages further) up_is ∙ append_assoc front (bytes_of_pages since) (bytes_of_pages further) ∙ ap (λ x. front ++ x) (sym both) in
    let size : length committed ≡ length front + length (bytes_of_pages pages) = ap length committed_is ∙ length-append front (bytes_of_pages pages) in
    let own_are : AllByRecursion IsPage own = subst (AllByRecursion IsPage) own_pages one.are_pages in
    let since_are : AllByRecursion IsPage since = (all_split IsPage moment.passed since (all_split IsPage moment.begin (moment.passed ++ since) own_are).1).1 in
    let before_are : AllByRecursion IsPage (moment.begin ++ moment.passed) =
    (all_split IsPage (moment.begin ++ moment.passed) since (subst (AllByRecursion IsPage) (sym (append_assoc moment.begin moment.passed since)) own_are)).0 in
    let bytes_on : bytes ≡ front ++ (bytes_of_pages since ++ rest) = bytes_are ∙ ap (λ x. x ++ rest) up_is ∙ append_assoc front (bytes_of_pages since) rest in
    let pages_are : AllByRecursion IsPage pages = pages_both since further since_are b.are_pages in
    let own_ended : AllButLast (λ x. all_ended x ≡ true) (at.before ++ own ∷ []) =
    subst (λ (x : List (List Page)). AllButLast (λ y. all_ended y ≡ true) x) at.split b.up_links.ended in
    let until : ℕ = length up in
    let whole : length committed ≡ until + length (bytes_of_pages further) = ap length b.split ∙ length-append up (bytes_of_pages further) in
    let first_is : up_to_first pages ≡ since = up_to_links since j.further at.later b.each in
    record {
      up_to = j.up_to;
      further = j.further;
      before = moment.begin ++ moment.passed;
      own = since;
      since = pages;
      more = rest;
      up_links = b.up_links;
      place = at;
      bytes_are = bytes_are;
      split = b.split;
      are_pages = b.are_pages;
      since_stand = stands_behind bytes front pages more start end (is ∙ ap (λ x. x ++ more) committed_is ∙ append_assoc front (bytes_of_pages pages) more) front_is
          (omega (arith, size, front_is, end_is)) pages_are;
      found = ap (λ x. start + length (bytes_of_pages x)) first_is ∙ omega (arith, up_size, front_is);
      before_stand = stands_behind bytes before (moment.begin ++ moment.passed) (bytes_of_pages since ++ rest) link.begin start
          (bytes_on ∙ append_assoc before (bytes_of_pages moment.begin ++ bytes_of_pages moment.passed) (bytes_of_pages since ++ rest)
          ∙ ap (λ x. before ++ (x ++ (bytes_of_pages since ++ rest))) (sym (bytes_both moment.begin moment.passed)))
          (sym begin_is) (omega (arith, begun_is, start_is, ap length (bytes_both moment.begin moment.passed), length-append (bytes_of_pages moment.begin) (bytes_of_pages moment.passed)))
          before_are;
      own_stand = stands_behind bytes front since rest start until bytes_on front_is (omega (arith, up_size, front_is)) since_are;
      own_streams = sym (after_both (moment.begin ++ moment.passed) since [])
          ∙ ap (streams_after []) (append_assoc moment.begin moment.passed since)
          ∙ sym (streams_alone (chain_state_of at.before).streams own (closed_before at.before own [] own_ended) one.each.0)
          ∙ ap (streams_after (chain_state_of at.before).streams) (sym own_pages) ∙ one.streams;
      further_stand = b.stand;
      all_streams = b.streams;
      same = same_of moment committed pages (nat_eq until end) pages_are
          (ap (λ n. drop n committed) (at.moment_is ∙ sym front_is) ∙ ap (drop (length front)) committed_is ∙ drop_at front (bytes_of_pages pages) (length front) refl)
          (by_further j.further b.each since at.later until whole);
    }
  where
    by_further : (further : List (List Page)) → AllByRecursion IsLink further → (since : List Page) → AreLater since → (until : ℕ) →
        length committed ≡ until + length (bytes_of_pages (flattened further)) → list_any is_first (since ++ flattened further) ≡ not (nat_eq until end)
    by_further [] each since later until whole =
        let e : until ≡ end = (let w : length committed ≡ until + 0 = whole in omega (arith, w, end_is)) in
        no_other since later ∙ ap not (sym (eq-eqb until end e))
    by_further (next ∷ further) each since later until whole =
        let some : 0 < length (bytes_of_pages (flattened (next ∷ further))) = some_bytes (next ∷ further) (λ e. cc) each in
        let ne : until ≢ end = λ e. absurd (omega (arith, e, whole, end_is, some)) in
        other_begun since (next ∷ further) (λ e. cc) each ∙ ap not (sym (ne_eqb until end ne))
