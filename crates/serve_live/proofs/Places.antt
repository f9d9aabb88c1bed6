-- What is noted of a link's pages says of its streams what the moment does.
use Rattle.std.proofs.Common.{◌≡◌, ◌≢◌, ℕ, ◌+◌, ◌-◌, ◌≤◌, ◌^◌, Bool, true, false, List, [], ◌∷◌, ◌++◌, length, drop, take, map, min, refl, sym, ◌∙◌, ap, subst, arith, append_assoc, inl, inr, eq-eqb, length-append, drop-drop}
use Rattle.std.specs.Prelude.{nat_eq, nat_lt, not, ◌&&◌, ◌||◌}
use Rattle.std.specs.List.{AllByRecursion, flat_map, list_any, fold}
use Rattle.std.proofs.lemmas.List.{append-nil, drop_at, drop-append-le}
use Rattle.std.proofs.lemmas.List.Concat.{flat_map-append}
use Rattle.std.proofs.lemmas.Bool.{cases_Bool, cases_eq, cond-true, cond-false, ne_eqb}
use Rattle.std.proofs.Math.Seq.{take-append_seam}
use Rattle.ogg_page.specs.Page.{Page, IsPage, bytes_of_pages}
use Rattle.ogg_page.specs.PageLaws.{bytes_both}
use Rattle.ogg_page.specs.LogicalStream.{FitsBehind, EachBehind, FlagsFit, number_behind, is_first, is_last}
use Rattle.ogg_page.specs.StreamLaws.{behind_back, number_push}
use Rattle.link_chain.specs.ChainState.{chain_state_of, last_link, last_position, state_of}
use Rattle.link_chain.specs.Links.{AllButLast, AreLinks, IsLink, all_ended, pages_with, serials_of, has_stream}
use Rattle.link_chain.specs.Laws.Fronts.{front_is_link, push_not_nil}
use Rattle.link_chain.specs.Laws.LastLink.{all_split}
use Rattle.link_chain.specs.Laws.Grow.{all_weaker, stream_some, serials_same}
use Rattle.link_chain.specs.Laws.StateBehind.{last_is, map-map}
use Rattle.link_chain.specs.declared.stream_state.StreamState.{StreamState}
use Rattle.page_heads.specs.Fronts.{facts_of}
use Rattle.serve_live.specs.Joined.{joined_stream, joined_streams, as_of_now, ends_of, end_of, ends_unheard, name_between, IsNew}
use Rattle.serve_live.specs.Hearing.{IsHearing}
use Rattle.serve_live.specs.Listening.{ListenerState}
use Rattle.serve_live.specs.Places.{IsPlaceIn}
use Rattle.serve_live.specs.declared.listener.JoinPlace.{JoinPlace}
use Rattle.serve_live.specs.Joining.{AreLater}
use Rattle.serve_live.specs.Live.{IsMomentOf, Moment}
use Rattle.serve_live.specs.Noting.{noted, stream_by}
use Rattle.serve_live.specs.declared.names.StreamName.{StreamName}
use Rattle.serve_live.specs.declared.joined.JoinedStream.{JoinedStream}
use Rattle.serve_live.specs.declared.joined.LinkPart.{LinkPart}
use Rattle.serve_live.specs.declared.joined.LinkPart.TheVariants.{Beginning, Since}
use Rattle.serve_live.proofs.Beginning.{begins_hearing, joined_some}
use Rattle.serve_live.proofs.Hearing.{goes_on_hearing}
use Rattle.serve_live.proofs.OneLink.{with_three, with_both, listed}
use Rattle.serve_live.proofs.OneStream.{numbers_rise}
use Rattle.ogg_page.specs.Laws.PageBytes.{all_both}

-- ---- only the stream's own pages count
abbrev noted_by : LinkPart → List Page → JoinedStream → JoinedStream
noted_by part [] stream = stream
noted_by part (page ∷ pages) stream = noted_by part pages (stream_by part (facts_of page) stream)

serial_stays : (part : LinkPart) (page : Page) (stream : JoinedStream) → (stream_by part (facts_of page) stream).serial ≡ stream.serial
serial_stays Beginning page stream = refl
serial_stays Since page stream = refl

own_count : (part : LinkPart) (pages : List Page) (stream : JoinedStream) → noted part pages stream ≡ noted_by part (pages_with stream.serial pages) stream
own_count part [] stream = refl
own_count part (page ∷ pages) stream =
    elim (cases_eq stream.serial page.serial) [
      | inl same ↦
          ap (noted part pages) (cond-true (nat_eq stream.serial page.serial) (stream_by part (facts_of page) stream) stream (eq-eqb stream.serial page.serial same))
          ∙ own_count part pages (stream_by part (facts_of page) stream)
          ∙ ap (λ n. noted_by part (pages_with n pages) (stream_by part (facts_of page) stream)) (serial_stays part page stream)
          ∙ ap (λ l. noted_by part l stream)
          (sym (cond-true (nat_eq page.serial stream.serial) (page ∷ pages_with stream.serial pages) (pages_with stream.serial pages) (eq-eqb page.serial stream.serial (sym same))))
      | inr other ↦
          ap (noted part pages) (cond-false (nat_eq stream.serial page.serial) (stream_by part (facts_of page) stream) stream (ne_eqb stream.serial page.serial other))
          ∙ own_count part pages stream
          ∙ ap (λ l. noted_by part l stream)
          (sym (cond-false (nat_eq page.serial stream.serial) (page ∷ pages_with stream.serial pages) (pages_with stream.serial pages) (ne_eqb page.serial stream.serial (λ e. other (sym e)))))
    ]

-- ---- the pages of the beginning
abbrev number_from : ℕ → List Page → ℕ
number_from found pages = fold (λ found (page : Page). page.sequence + 1) found pages

begun_is : (own : List Page) (stream : JoinedStream) →
    noted_by Beginning own stream ≡ record stream { begun_next = number_from stream.begun_next own; begun_ended = stream.begun_ended || list_any is_last own }
begun_is [] stream = ap (λ b. record stream { begun_ended = b }) (sym (or_false stream.begun_ended))
  where
    or_false : (b : Bool) → (b || false) ≡ b
    or_false true = refl
    or_false false = refl
begun_is (page ∷ own) stream =
    begun_is own (stream_by Beginning (facts_of page) stream)
    ∙ ap (λ b. record stream { begun_next = number_from (page.sequence + 1) own; begun_ended = b }) (or_assoc stream.begun_ended (is_last page) (list_any is_last own))
  where
    or_assoc : (a b c : Bool) → ((a || b) || c) ≡ (a || (b || c))
    or_assoc true b c = refl
    or_assoc false b c = refl

-- ---- the pages since
abbrev lowest : ℕ → List Page → ℕ
lowest found [] = found
lowest found (page ∷ pages) = lowest (min found page.sequence) pages

abbrev goes_on : Bool → List Page → Bool
goes_on ended [] = ended
goes_on ended (page ∷ pages) = false

none_later : (own : List Page) → goes_on false own ≡ false
none_later [] = refl
none_later (page ∷ own) = refl

since_is : (own : List Page) (stream : JoinedStream) → noted_by Since own stream ≡ record stream { next = lowest stream.next own; ended = goes_on stream.ended own }
since_is [] stream = refl
since_is (page ∷ own) stream =
    since_is own (stream_by Since (facts_of page) stream)
    ∙ ap (λ b. record stream { next = lowest (min stream.next page.sequence) own; ended = b }) (none_later own)

-- the numbers of pages that follow are no lower than the number before them
still_lowest : (before own : List Page) (found : ℕ) → EachBehind FitsBehind before own → before ≢ [] → found ≤ number_behind before → lowest found own ≡ found
still_lowest before [] found h some le = refl
still_lowest before (page ∷ own) found h some le =
    let number : page.sequence ≡ number_behind before = h.0.sequence some in
    let same : min found page.sequence ≡ found = grind (arith, number, le) in
    ap (λ n. lowest n own) same
    ∙ still_lowest (before ++ page ∷ []) own found h.1 (push_not_nil before page) (omega (arith, number_push before page, number, le))

lowest_is : (before own : List Page) → EachBehind FitsBehind before own → before ≢ [] → lowest (number_behind (before ++ own)) own ≡ number_behind before
lowest_is before [] h some = ap number_behind (append-nil before)
lowest_is before (page ∷ own) h some =
    let number : page.sequence ≡ number_behind before = h.0.sequence some in
    let rise : number_behind before ≤ number_behind (before ++ page ∷ own) = numbers_rise before (page ∷ own) h some in
    let low : min (number_behind (before ++ page ∷ own)) page.sequence ≡ number_behind before = grind (arith, number, rise) in
    ap (λ n. lowest n own) low
    ∙ still_lowest (before ++ page ∷ []) own (number_behind before) h.1 (push_not_nil before page) (omega (arith, number_push before page, number))

-- a stream that goes on hadn't ended
ended_is : (before own : List Page) → EachBehind FitsBehind before own → goes_on (list_any is_last (before ++ own)) own ≡ list_any is_last before
ended_is before [] h = ap (list_any is_last) (append-nil before)
ended_is before (page ∷ own) h = sym h.0.last

-- and one that had ended has reached the position that it has now
reached_is : (before own : List Page) → EachBehind FitsBehind before own → list_any is_last before ≡ true → last_position (before ++ own) ≡ last_position before
reached_is before [] h ended = ap last_position (append-nil before)
reached_is before (page ∷ own) h ended = cc

-- ---- what a listener knows of a stream
-- the two tell the same of a stream; its position counts only if it had ended
record AreAlike (a b : JoinedStream) : Type 0 where
  pub serial : a.serial ≡ b.serial
  pub begun_next : a.begun_next ≡ b.begun_next
  pub begun_ended : a.begun_ended ≡ b.begun_ended
  pub next : a.next ≡ b.next
  pub ended : a.ended ≡ b.ended
  pub position : b.ended ≡ true → a.position ≡ b.position

-- the stream as it is noted: as all pages of the link leave it, then with those of the beginning and those since
abbrev pub noted_stream : Moment → List Page → ℕ → JoinedStream
noted_stream moment since serial =
    noted Since since (noted Beginning moment.begin (as_of_now (state_of (moment.begin ++ (moment.passed ++ since)) serial)))

stream_alike : (moment : Moment) (since : List Page) (serial : ℕ) → IsLink (moment.begin ++ (moment.passed ++ since)) → has_stream moment.begin serial ≡ true →
    AreAlike (noted_stream moment since serial) (joined_stream moment serial)
stream_alike moment since serial l there =
    let begin : List Page = moment.begin in
    let link : List Page = begin ++ (moment.passed ++ since) in
    let own : List Page = pages_with serial begin in
    let before : List Page = pages_with serial (begin ++ moment.passed) in
    let new : List Page = pages_with serial since in
    let first : JoinedStream = as_of_now (state_of link serial) in
    let begun : JoinedStream = record first { begun_next = number_behind own; begun_ended = list_any is_last own } in
    let now : JoinedStream = record begun { next = lowest first.next new; ended = goes_on first.ended new } in
    let one : noted Beginning begin first ≡ begun = own_count Beginning begin first ∙ begun_is own first in
    let two : noted Since since begun ≡ now = own_count Since since begun ∙ since_is new begun in
    let is : noted_stream moment since serial ≡ now = ap (noted Since since) one ∙ two in
    let split : pages_with serial link ≡ before ++ new =
    with_three begin moment.passed since serial ∙ sym (append_assoc own (pages_with serial moment.passed) new) ∙ ap (λ x. x ++ new) (sym (with_both begin moment.passed serial)) in
    let fits : EachBehind FitsBehind [] (before ++ new) = subst FlagsFit split (l.streams serial) in
    let later : EachBehind FitsBehind before new = behind_back FitsBehind [] before new fits in
    let some : before ≢ [] = λ e. stream_some begin serial there (no_front own (pages_with serial moment.passed) (sym (with_both begin moment.passed serial) ∙ e)) in
    subst (λ (s : JoinedStream). AreAlike s (joined_stream moment serial)) (sym is)
    (record {
      serial = refl;
      begun_next = refl;
      begun_ended = refl;
      next = ap (λ x. lowest (number_behind x) new) split ∙ lowest_is before new later some;
      ended = ap (λ x. goes_on (list_any is_last x) new) split ∙ ended_is before new later;
      position = λ ended. ap last_position split ∙ reached_is before new later ended;
    })
  where
    no_front : (a b : List Page) → a ++ b ≡ [] → a ≡ []
    no_front [] b e = refl
    no_front (x ∷ a) b e = cc

-- ---- what a listener is made of
abbrev end_with : ℕ → ℕ → ℕ → Page
end_with position serial number = record { flags = 4; position = position; serial = serial; sequence = number; lacing = []; body = [] }

ends_alike : (f g : ℕ → JoinedStream) (serials : List ℕ) → AllByRecursion (λ s. AreAlike (f s) (g s)) serials → ends_of (map f serials) ≡ ends_of (map g serials)
ends_alike f g [] h = refl
ends_alike f g (s ∷ serials) h =
    let a : AreAlike (f s) (g s) = h.0 in
    let rest : ends_of (map f serials) ≡ ends_of (map g serials) = ends_alike f g serials h.1 in
    let same : ends_unheard (f s) ≡ ends_unheard (g s) =
    ap (λ b. b && not (f s).begun_ended && nat_lt (f s).begun_next (2 ^ 32)) a.ended
    ∙ ap (λ b. (g s).ended && not b && nat_lt (f s).begun_next (2 ^ 32)) a.begun_ended
    ∙ ap (λ n. (g s).ended && not (g s).begun_ended && nat_lt n (2 ^ 32)) a.begun_next in
    elim (cases_Bool (ends_unheard (g s))) [
      | inl yes' ↦
          (let page : end_of (f s) ≡ end_of (g s) =
          ap (λ n. end_with n (f s).serial (f s).begun_next) (a.position (first_true (g s).ended (g s).begun_ended (nat_lt (g s).begun_next (2 ^ 32)) yes'))
          ∙ ap (λ n. end_with (g s).position n (f s).begun_next) a.serial
          ∙ ap (λ n. end_with (g s).position (g s).serial n) a.begun_next in
          cond-true (ends_unheard (f s)) (end_of (f s) ∷ ends_of (map f serials)) (ends_of (map f serials)) (same ∙ yes')
          ∙ ap (λ p. p ∷ ends_of (map f serials)) page ∙ ap (λ l. end_of (g s) ∷ l) rest
          ∙ sym (cond-true (ends_unheard (g s)) (end_of (g s) ∷ ends_of (map g serials)) (ends_of (map g serials)) yes'))
      | inr no' ↦
          cond-false (ends_unheard (f s)) (end_of (f s) ∷ ends_of (map f serials)) (ends_of (map f serials)) (same ∙ no') ∙ rest
          ∙ sym (cond-false (ends_unheard (g s)) (end_of (g s) ∷ ends_of (map g serials)) (ends_of (map g serials)) no')
    ]
  where
    first_true : (a b c : Bool) → (a && not b && c) ≡ true → a ≡ true
    first_true true b c e = refl
    first_true false b c e = cc

abbrev with_gap : ℕ → ℕ → StreamName
with_gap serial gap = record { serial = serial; name = serial; less = gap; more = 0 }

names_alike : (f g : ℕ → JoinedStream) (serials : List ℕ) → AllByRecursion (λ s. AreAlike (f s) (g s)) serials → map name_between (map f serials) ≡ map name_between (map g serials)
names_alike f g [] h = refl
names_alike f g (s ∷ serials) h =
    let a : AreAlike (f s) (g s) = h.0 in
    ap (λ n. with_gap n ((f s).next - (f s).begun_next) ∷ map name_between (map f serials)) a.serial
    ∙ ap (λ n. with_gap (g s).serial (n - (f s).begun_next) ∷ map name_between (map f serials)) a.next
    ∙ ap (λ n. with_gap (g s).serial ((g s).next - n) ∷ map name_between (map f serials)) a.begun_next
    ∙ ap (λ l. name_between (g s) ∷ l) (names_alike f g serials h.1)

-- The streams that are noted are as good as those of the moment.
pub record TellsMoment (moment : Moment) (streams : List JoinedStream) : Type 0 where
  pub ends : ends_of streams ≡ ends_of (joined_streams moment)
  pub names : map name_between streams ≡ map name_between (joined_streams moment)

pub streams_tell : (moment : Moment) (since : List Page) (states : List StreamState) (streams : List JoinedStream) → IsLink (moment.begin ++ (moment.passed ++ since)) →
    AreLater (moment.passed ++ since) → states ≡ map (state_of (moment.begin ++ (moment.passed ++ since))) (serials_of (moment.begin ++ (moment.passed ++ since))) →
    streams ≡ map (noted Since since) (map (noted Beginning moment.begin) (map as_of_now states)) → TellsMoment moment streams
streams_tell moment since states streams l later states_are streams_are =
    let link : List Page = moment.begin ++ (moment.passed ++ since) in
    let serials : List ℕ = serials_of moment.begin in
    let states_is : states ≡ map (state_of link) serials = states_are ∙ ap (map (state_of link)) (serials_same moment.begin (moment.passed ++ since) later) in
    let all : streams ≡ map (noted_stream moment since) serials =
    streams_are
    ∙ ap (λ x. map (noted Since since) (map (noted Beginning moment.begin) (map as_of_now x))) states_is
    ∙ ap (λ x. map (noted Since since) (map (noted Beginning moment.begin) x)) (map-map as_of_now (state_of link) serials)
    ∙ ap (map (noted Since since)) (map-map (noted Beginning moment.begin) (λ s. as_of_now (state_of link s)) serials)
    ∙ map-map (noted Since since) (λ s. noted Beginning moment.begin (as_of_now (state_of link s))) serials in
    let each : AllByRecursion (λ s. AreAlike (noted_stream moment since s) (joined_stream moment s)) serials =
    all_weaker (λ s. has_stream moment.begin s ≡ true) (λ s. AreAlike (noted_stream moment since s) (joined_stream moment s))
    (λ s there. stream_alike moment since s l there) serials (listed serials) in
    record {
      ends = ap ends_of all ∙ ends_alike (noted_stream moment since) (joined_stream moment) serials each;
      names = ap (map name_between) all ∙ names_alike (noted_stream moment since) (joined_stream moment) serials each;
    }

-- ---- where the pages stand
-- the pages of a link that may be joined, in the bytes
pub record StandAt (committed : List ℕ) (moment : Moment) (since : List Page) (place : JoinPlace) : Type 0 where
  pub are_pages : AllByRecursion IsPage (moment.begin ++ (moment.passed ++ since))
  pub is_link : IsLink (moment.begin ++ (moment.passed ++ since))
  pub begin_at : drop place.begin committed ≡ bytes_of_pages moment.begin ++ bytes_of_pages (moment.passed ++ since)
  pub since_at : drop place.boundary committed ≡ bytes_of_pages since
  pub end_is : place.boundary + length (bytes_of_pages since) ≡ length committed

pub stand_at : (committed : List ℕ) (links : List (List Page)) (moment : Moment) (place : JoinPlace) → AreLinks committed links → (at : IsPlaceIn links moment place) →
    StandAt committed moment at.since place
stand_at committed links moment place l at =
    let begin : List Page = moment.begin in
    let rest : List Page = moment.passed ++ at.since in
    let link : List Page = begin ++ rest in
    let front : List ℕ = flat_map bytes_of_pages at.before in
    let are : AreLinks committed (at.before ++ link ∷ []) = subst (λ (x : List (List Page)). AreLinks committed x) at.split l in
    let spelled : committed ≡ front ++ bytes_of_pages link =
    are.spelled ∙ flat_map-append bytes_of_pages at.before (link ∷ []) ∙ ap (λ x. front ++ x) (append-nil (bytes_of_pages link)) in
    let parts : bytes_of_pages link ≡ bytes_of_pages begin ++ bytes_of_pages rest = bytes_both begin rest in
    let more : bytes_of_pages rest ≡ bytes_of_pages moment.passed ++ bytes_of_pages at.since = bytes_both moment.passed at.since in
    let here : drop place.begin committed ≡ bytes_of_pages begin ++ bytes_of_pages rest =
    ap (λ n. drop n committed) at.begin_is ∙ ap (drop (length front)) spelled ∙ drop_at front (bytes_of_pages link) (length front) refl ∙ parts in
    let behind : drop place.begun committed ≡ bytes_of_pages rest =
    ap (λ n. drop n committed) at.begun_is
    ∙ sym (drop-drop (length (bytes_of_pages begin)) place.begin committed)
    ∙ ap (drop (length (bytes_of_pages begin))) here
    ∙ drop_at (bytes_of_pages begin) (bytes_of_pages rest) (length (bytes_of_pages begin)) refl in
    let last : drop place.boundary committed ≡ bytes_of_pages at.since =
    ap (λ n. drop n committed) at.boundary_is
    ∙ sym (drop-drop (length (bytes_of_pages moment.passed)) place.begun committed)
    ∙ ap (drop (length (bytes_of_pages moment.passed))) (behind ∙ more)
    ∙ drop_at (bytes_of_pages moment.passed) (bytes_of_pages at.since) (length (bytes_of_pages moment.passed)) refl in
    let size : length committed ≡ length front + (length (bytes_of_pages begin) + (length (bytes_of_pages moment.passed) + length (bytes_of_pages at.since))) =
    ap length spelled ∙ length-append front (bytes_of_pages link) ∙ ap (λ x. length front + length x) (parts ∙ ap (λ x. bytes_of_pages begin ++ x) more)
    ∙ ap (λ n. length front + n) (length-append (bytes_of_pages begin) (bytes_of_pages moment.passed ++ bytes_of_pages at.since)
    ∙ ap (λ n. length (bytes_of_pages begin) + n) (length-append (bytes_of_pages moment.passed) (bytes_of_pages at.since))) in
    record {
      are_pages = (all_split (AllByRecursion IsPage) at.before (link ∷ []) are.pages).1.0;
      is_link = (all_split IsLink at.before (link ∷ []) are.each).1.0;
      begin_at = here;
      since_at = last;
      end_is = omega (arith, size, at.begin_is, at.begun_is, at.boundary_is);
    }

-- ---- a listener that joins there
pub joins_hearing : (committed : List ℕ) (links : List (List Page)) (moment : Moment) (place : JoinPlace) (streams : List JoinedStream) (listener : ListenerState) →
    AreLinks committed links → IsPlaceIn links moment place → TellsMoment moment streams →
    IsNew place.begin (place.begun - place.begin) place.boundary streams listener → IsHearing moment committed listener []
joins_hearing committed links moment place streams listener l at tells new =
    let begin : List Page = moment.begin in
    let passed : List Page = moment.passed in
    let front : List ℕ = flat_map bytes_of_pages at.before in
    let s : StandAt committed moment at.since place = stand_at committed links moment place l at in
    let own : List ℕ = bytes_of_pages begin ++ bytes_of_pages passed in
    let until : List ℕ = front ++ own in
    let all : committed ≡ until ++ bytes_of_pages at.since =
    l.spelled ∙ ap (flat_map bytes_of_pages) at.split
    ∙ flat_map-append bytes_of_pages at.before ((begin ++ (passed ++ at.since)) ∷ [])
    ∙ ap (λ x. front ++ x)
    (append-nil (bytes_of_pages (begin ++ (passed ++ at.since)))
    ∙ bytes_both begin (passed ++ at.since) ∙ ap (λ x. bytes_of_pages begin ++ x) (bytes_both passed at.since)
    ∙ sym (append_assoc (bytes_of_pages begin) (bytes_of_pages passed) (bytes_of_pages at.since)))
    ∙ sym (append_assoc front own (bytes_of_pages at.since)) in
    let same : (begin ++ passed) ++ at.since ≡ begin ++ (passed ++ at.since) = append_assoc begin passed at.since in
    let are : AllByRecursion IsPage (begin ++ passed) × AllByRecursion IsPage at.since =
    all_split IsPage (begin ++ passed) at.since (subst (AllByRecursion IsPage) (sym same) s.are_pages) in
    let link : IsLink (begin ++ passed) = front_is_link (begin ++ passed) at.since (joined_some begin passed at.joined) (subst IsLink (sym same) s.is_link) in
    let size : length until ≡ length front + (length (bytes_of_pages begin) + length (bytes_of_pages passed)) =
    length-append front own ∙ ap (λ n. length front + n) (length-append (bytes_of_pages begin) (bytes_of_pages passed)) in
    let boundary : place.boundary ≡ length until = omega (arith, size, at.begin_is, at.begun_is, at.boundary_is) in
    let there : IsNew (length front) (length (bytes_of_pages begin)) (length until) (joined_streams moment) listener = record {
      begin_place = new.begin_place ∙ at.begin_is;
      begin_left = new.begin_left ∙ omega (arith, at.begun_is);
      text = new.text ∙ ap bytes_of_pages tells.ends;
      names = new.names ∙ tells.names;
      place = new.place ∙ boundary;
      skip = new.skip;
    } in
    let now : IsHearing moment until listener [] =
    begins_hearing until front (bytes_of_pages passed) moment listener link are.0 at.joined (at.moment_is ∙ boundary) refl there in
    subst (λ (b : List ℕ). IsHearing moment b listener []) (sym all) (goes_on_hearing moment until listener [] at.since now are.1)

pub joins_by : (committed : List ℕ) (links : List (List Page)) (moment : Moment) (place : JoinPlace) (states : List StreamState) (streams : List JoinedStream) (listener : ListenerState) →
    AreLinks committed links → states ≡ (chain_state_of links).streams → (at : IsPlaceIn links moment place) →
    streams ≡ map (noted Since at.since) (map (noted Beginning moment.begin) (map as_of_now states)) →
    IsNew place.begin (place.begun - place.begin) place.boundary streams listener → IsHearing moment committed listener []
joins_by committed links moment place states streams listener l states_are at streams_are new =
    let link : List Page = moment.begin ++ (moment.passed ++ at.since) in
    let last : last_link links ≡ link = ap last_link at.split ∙ last_is at.before link in
    let s : StandAt committed moment at.since place = stand_at committed links moment place l at in
    let later : AreLater (moment.passed ++ at.since) = all_both (λ (p : Page). is_first p ≡ false) moment.passed at.since at.joined.begun at.later in
    joins_hearing committed links moment place streams listener l at
    (streams_tell moment at.since states streams s.is_link later (states_are ∙ ap (λ x. map (state_of x) (serials_of x)) last) streams_are) new

-- ---- what is read
pub begin_stands : (committed more bytes : List ℕ) (links : List (List Page)) (moment : Moment) (place : JoinPlace) → bytes ≡ committed ++ more → AreLinks committed links →
    (at : IsPlaceIn links moment place) → drop place.begin bytes ≡ bytes_of_pages moment.begin ++ (bytes_of_pages (moment.passed ++ at.since) ++ more)
begin_stands committed more bytes links moment place is l at =
    let s : StandAt committed moment at.since place = stand_at committed links moment place l at in
    let inside : place.begin ≤ length committed = omega (arith, s.end_is, at.begun_is, at.boundary_is) in
    ap (drop place.begin) is ∙ drop-append-le place.begin committed more inside ∙ ap (λ x. x ++ more) s.begin_at
    ∙ append_assoc (bytes_of_pages moment.begin) (bytes_of_pages (moment.passed ++ at.since)) more

pub since_stands : (committed more bytes : List ℕ) (links : List (List Page)) (moment : Moment) (place : JoinPlace) → bytes ≡ committed ++ more → AreLinks committed links →
    (at : IsPlaceIn links moment place) → drop place.boundary bytes ≡ bytes_of_pages at.since ++ more
since_stands committed more bytes links moment place is l at =
    let s : StandAt committed moment at.since place = stand_at committed links moment place l at in
    let inside : place.boundary ≤ length committed = omega (arith, s.end_is) in
    ap (drop place.boundary) is ∙ drop-append-le place.boundary committed more inside ∙ ap (λ x. x ++ more) s.since_at

-- the pages of the beginning, and those since
pub begin_pages : (committed : List ℕ) (links : List (List Page)) (moment : Moment) (place : JoinPlace) → AreLinks committed links → IsPlaceIn links moment place → AllByRecursion IsPage moment.begin
begin_pages committed links moment place l at =
    (all_split IsPage moment.begin (moment.passed ++ at.since) (stand_at committed links moment place l at).are_pages).0

pub since_pages : (committed : List ℕ) (links : List (List Page)) (moment : Moment) (place : JoinPlace) → AreLinks committed links → (at : IsPlaceIn links moment place) → AllByRecursion IsPage at.since
since_pages committed links moment place l at =
    (all_split IsPage moment.passed at.since (all_split IsPage moment.begin (moment.passed ++ at.since) (stand_at committed links moment place l at).are_pages).1).1

-- ---- the moment
other_last : (P : List Page → Type 0) (before : List (List Page)) (link other : List Page) → AllButLast P (before ++ link ∷ []) → AllButLast P (before ++ other ∷ [])
other_last P [] link other h = tt
other_last P (b ∷ []) link other h = (h.0, tt)
other_last P (b ∷ c ∷ before) link other h = (h.0, other_last P (c ∷ before) link other h.1)

pub moment_at : (committed : List ℕ) (links : List (List Page)) (moment : Moment) (place : JoinPlace) → AreLinks committed links → IsPlaceIn links moment place →
    IsMomentOf (take place.boundary committed) moment
moment_at committed links moment place l at =
    let begin : List Page = moment.begin in
    let link : List Page = begin ++ (moment.passed ++ at.since) in
    let until : List Page = begin ++ moment.passed in
    let front : List ℕ = flat_map bytes_of_pages at.before in
    let same : until ++ at.since ≡ link = append_assoc begin moment.passed at.since in
    let are : AreLinks committed (at.before ++ link ∷ []) = subst (λ (x : List (List Page)). AreLinks committed x) at.split l in
    let pages = all_split (AllByRecursion IsPage) at.before (link ∷ []) are.pages in
    let each = all_split IsLink at.before (link ∷ []) are.each in
    let bytes : List ℕ = front ++ bytes_of_pages until in
    let own : flat_map bytes_of_pages (at.before ++ until ∷ []) ≡ bytes =
    flat_map-append bytes_of_pages at.before (until ∷ []) ∙ ap (λ x. front ++ x) (append-nil (bytes_of_pages until)) in
    let all : committed ≡ bytes ++ bytes_of_pages at.since =
    are.spelled ∙ flat_map-append bytes_of_pages at.before (link ∷ []) ∙ ap (λ x. front ++ x) (append-nil (bytes_of_pages link))
    ∙ ap (λ x. front ++ x) (ap bytes_of_pages (sym same) ∙ bytes_both until at.since) ∙ sym (append_assoc front (bytes_of_pages until) (bytes_of_pages at.since)) in
    let size : place.boundary ≡ length bytes =
    (let n = length-append front (bytes_of_pages until) in
    let m : length (bytes_of_pages until) ≡ length (bytes_of_pages begin) + length (bytes_of_pages moment.passed) =
    ap length (bytes_both begin moment.passed) ∙ length-append (bytes_of_pages begin) (bytes_of_pages moment.passed) in
    omega (arith, n, m, at.begin_is, at.begun_is, at.boundary_is)) in
    let is : take place.boundary committed ≡ bytes =
    ap (λ n. take n committed) size ∙ ap (take (length bytes)) all ∙ take-append_seam bytes (bytes_of_pages at.since) in
    let few : length (at.before ++ link ∷ []) ≤ 65536 = are.few in
    subst (λ b. IsMomentOf b moment) (sym is)
    (record {
      links = at.before ++ until ∷ [];
      are_links = record {
        spelled = sym own;
        pages = all_both (AllByRecursion IsPage) at.before (until ∷ []) pages.0 ((all_split IsPage until at.since (subst (AllByRecursion IsPage) (sym same) pages.1.0)).0, tt);
        few = omega (arith, few, length-append at.before (link ∷ []), length-append at.before (until ∷ []));
        each = all_both IsLink at.before (until ∷ []) each.0
            (front_is_link until at.since (joined_some begin moment.passed at.joined) (subst IsLink (sym same) each.1.0), tt);
        ended = other_last (λ x. all_ended x ≡ true) at.before link until are.ended;
      };
      place = at.moment_is ∙ size;
      last = inl (record { before = at.before; split = refl; joined = at.joined });
    })
