-- A listener that joins at a moment hears what it should.
use Rattle.std.proofs.Common.{◌≡◌, ◌≢◌, ℕ, suc, ◌+◌, ◌<◌, ◌^◌, Bool, true, false, cond, List, [], ◌∷◌, ◌++◌, length, take, drop, map, get_or, refl, sym, ◌∙◌, ap, subst, arith, length-append, inl, inr}
use Rattle.std.specs.Prelude.{nat_eq, nat_lt, not, ◌&&◌, ◌||◌}
use Rattle.std.specs.List.{AllByRecursion, filter, flat_map, list_any}
use Rattle.std.proofs.lemmas.Bool.{cases_eq, cases_Bool, cond-true, cond-false, ne_eqb, eqb-false, eq-eqb, lt-ltb, or_parts, false≢true}
use Rattle.std.proofs.lemmas.List.{append-nil, drop_at}
use Rattle.std.proofs.lemmas.List.Concat.{flat_map-append}
use Rattle.std.proofs.Math.Seq.{take-append_seam, take-suc}
use Rattle.ogg_page.specs.Page.{Page, IsPage, bytes_of_pages}
use Rattle.ogg_page.specs.LogicalStream.{number_behind}
use Rattle.ogg_page.specs.PageLaws.{bytes_both}
use Rattle.link_chain.specs.Links.{AreLinks, IsLink, pages_with, serials_of, has_stream, has_ended, all_ended}
use Rattle.link_chain.specs.Laws.Grow.{stream_same}
use Rattle.link_chain.specs.Laws.LastLink.{all_split}
use Rattle.link_chain.specs.Laws.TakenLinks.{without}
use Rattle.serve_live.specs.Names.{name_in, plain}
use Rattle.serve_live.specs.Heard.{gap, end_page, end_pages}
use Rattle.serve_live.specs.Hearing.{IsHearing}
use Rattle.serve_live.specs.Joined.{joined_stream, joined_streams, end_of, ends_of, ends_unheard, name_between, IsNew, IsNewAt}
use Rattle.serve_live.specs.Joining.{IsJoined}
use Rattle.serve_live.specs.Listening.{ListenerState, part_at}
use Rattle.serve_live.specs.Live.{Moment, IsMomentOf, begin_place}
use Rattle.serve_live.specs.declared.joined.JoinedStream.{JoinedStream}
use Rattle.serve_live.specs.declared.names.StreamName.{StreamName}
use Rattle.serve_live.proofs.OneLink.{goes_unheard, end_is_page, listed}

-- a page stands before a boundary
pub joined_some : (begin passed : List Page) → IsJoined begin passed → begin ++ passed ≢ []
joined_some begin passed j e = false≢true (sym j.goes_on ∙ ap all_ended e)

ends_from : (moment : Moment) (serials : List ℕ) → IsLink (moment.begin ++ moment.passed) → AllByRecursion IsPage (moment.begin ++ moment.passed) →
    AllByRecursion (λ s. has_stream moment.begin s ≡ true) serials →
    ends_of (map (joined_stream moment) serials) ≡ map (end_page moment.begin moment.passed) (filter (goes_unheard moment.begin moment.passed) serials)
ends_from moment [] l pages there = refl
ends_from moment (s ∷ serials) l pages there =
    let unheard : Bool = goes_unheard moment.begin moment.passed s in
    let page : Page = end_page moment.begin moment.passed s in
    let rest : List Page = ends_of (map (joined_stream moment) serials) in
    ap (λ b. cond b (page ∷ rest) rest)
    (has_number (has_ended (moment.begin ++ moment.passed) s) (has_ended moment.begin s) (nat_lt (number_behind (pages_with s moment.begin)) (2 ^ 32))
    (λ e. lt-ltb (number_behind (pages_with s moment.begin)) (2 ^ 32) (end_is_page moment.begin moment.passed [] s link all there.0 e).sequence))
    ∙ ap (λ l. cond unheard (page ∷ l) l) (ends_from moment serials l pages there.1)
    ∙ inside unheard (filter (goes_unheard moment.begin moment.passed) serials)
  where
    same : moment.begin ++ moment.passed ≡ moment.begin ++ (moment.passed ++ [])
    same = ap (λ x. moment.begin ++ x) (sym (append-nil moment.passed))

    link : IsLink (moment.begin ++ (moment.passed ++ []))
    link = subst IsLink same l

    all : AllByRecursion IsPage (moment.begin ++ (moment.passed ++ []))
    all = subst (AllByRecursion IsPage) same pages

    has_number : (a b c : Bool) → ((a && not b) ≡ true → c ≡ true) → (a && not b && c) ≡ (a && not b)
    has_number true true c h = refl
    has_number true false true h = refl
    has_number true false false h = h refl
    has_number false b c h = refl

    inside : (b : Bool) (l : List ℕ) → cond b (end_page moment.begin moment.passed s ∷ map (end_page moment.begin moment.passed) l) (map (end_page moment.begin moment.passed) l)
        ≡ map (end_page moment.begin moment.passed) (cond b (s ∷ l) l)
    inside true l = refl
    inside false l = refl

-- how the streams with these serials are heard
abbrev names_of : Moment → List ℕ → List StreamName
names_of moment serials = map name_between (map (joined_stream moment) serials)

name_at : (moment : Moment) (serial : ℕ) (serials : List ℕ) → list_any (nat_eq serial) serials ≡ true →
    name_in (names_of moment serials) serial ≡ plain (gap moment.begin moment.passed) serial
name_at moment serial [] there = cc
name_at moment serial (s ∷ serials) there =
    elim (cases_eq s serial) [
      | inl same ↦
          cond-true (nat_eq s serial) (plain (gap moment.begin moment.passed) s) (name_in (names_of moment serials) serial) (eq-eqb s serial same)
          ∙ ap (plain (gap moment.begin moment.passed)) same
      | inr other ↦
          cond-false (nat_eq s serial) (plain (gap moment.begin moment.passed) s) (name_in (names_of moment serials) serial) (ne_eqb s serial other)
          ∙ name_at moment serial serials (sym (ap (λ b. b || list_any (nat_eq serial) serials) (ne_eqb serial s (λ e. other (sym e)))) ∙ there)
    ]

name_not : (moment : Moment) (serial : ℕ) (serials : List ℕ) → list_any (nat_eq serial) serials ≡ false →
    name_in (names_of moment serials) serial ≡ plain (λ _. 0) serial
name_not moment serial [] none = refl
name_not moment serial (s ∷ serials) none =
    let parts : (nat_eq serial s ≡ false) × (list_any (nat_eq serial) serials ≡ false) = or_parts (nat_eq serial s) (list_any (nat_eq serial) serials) none in
    cond-false (nat_eq s serial) (plain (gap moment.begin moment.passed) s) (name_in (names_of moment serials) serial)
    (ne_eqb s serial (λ e. eqb-false serial s parts.0 (sym e)))
    ∙ name_not moment serial serials parts.1

abbrev with_gap : ℕ → ℕ → StreamName
with_gap serial n = record { serial = serial; name = serial; less = n; more = 0 }

-- a stream that the link hasn't has no gap
no_gap : (moment : Moment) (serial : ℕ) → IsLink (moment.begin ++ moment.passed) → IsJoined moment.begin moment.passed → has_stream moment.begin serial ≡ false →
    gap moment.begin moment.passed serial ≡ 0
no_gap moment serial l j none =
    let all : pages_with serial (moment.begin ++ moment.passed) ≡ [] =
    without (moment.begin ++ moment.passed) serial l (stream_same moment.begin moment.passed serial j.begun ∙ none) in
    let number : number_behind (pages_with serial (moment.begin ++ moment.passed)) ≡ 0 = ap number_behind all in
    omega (arith, number)

names_are : (moment : Moment) (serial : ℕ) → IsLink (moment.begin ++ moment.passed) → IsJoined moment.begin moment.passed →
    name_in (map name_between (joined_streams moment)) serial ≡ plain (gap moment.begin moment.passed) serial
names_are moment serial l j =
    elim (cases_Bool (has_stream moment.begin serial)) [
      | inl there ↦ name_at moment serial (serials_of moment.begin) there
      | inr none ↦ name_not moment serial (serials_of moment.begin) none ∙ ap (with_gap serial) (sym (no_gap moment serial l j none))
    ]

pub begins_hearing : (committed front tail : List ℕ) (moment : Moment) (listener : ListenerState) →
    IsLink (moment.begin ++ moment.passed) → AllByRecursion IsPage (moment.begin ++ moment.passed) → IsJoined moment.begin moment.passed →
    moment.place ≡ length committed → committed ≡ front ++ (bytes_of_pages moment.begin ++ tail) →
    IsNew (length front) (length (bytes_of_pages moment.begin)) (length committed) (joined_streams moment) listener → IsHearing moment committed listener []
begins_hearing committed front tail moment listener l pages j at split new =
    let begin : List ℕ = bytes_of_pages moment.begin in
    let ends : List ℕ = bytes_of_pages (end_pages moment.begin moment.passed) in
    let text : listener.text ≡ ends = new.text ∙ ap bytes_of_pages (ends_from moment (serials_of moment.begin) l pages (listed (serials_of moment.begin))) in
    let part : part_at listener.begin_place listener.begin_left committed ≡ begin =
    ap (λ n. part_at n listener.begin_left committed) new.begin_place ∙ ap (λ n. part_at (length front) n committed) new.begin_left
    ∙ ap (part_at (length front) (length begin)) split ∙ ap (take (length begin)) (drop_at front (begin ++ tail) (length front) refl)
    ∙ take-append_seam begin tail in
    let none : drop (length committed) committed ≡ [] =
    ap (λ l. drop (length committed) l) (sym (append-nil committed)) ∙ drop_at committed [] (length committed) refl in
    let size : length committed ≡ length front + (length begin + length tail) =
    ap length split ∙ length-append front (begin ++ tail) ∙ ap (λ n. length front + n) (length-append begin tail) in
    record {
      done = [];
      are_done = tt;
      between = ap (λ n. drop n committed) (at ∙ sym new.place);
      place = new.place ∙ sym at ∙ omega arith;
      names = λ s. ap (λ names. name_in names s) new.names ∙ names_are moment s l j;
      rest = begin ++ (listener.text ++ []);
      left = record {
        begins = omega (arith, new.begin_place, new.begin_left, size);
        pages = [];
        pages_left = record {
          front = committed;
          pages = [];
          split = sym (append-nil committed);
          place_is = sym new.place;
          are_pages = tt;
          inside = new.skip;
          rest_is = ap (λ n. drop n []) (sym new.skip);
        };
        joined = ap (λ x. x ++ (listener.text ++ [])) (sym part);
      };
      live = record {
        front = committed;
        after = [];
        split = sym (append-nil committed);
        place_is = sym at;
        are_pages = tt;
        bytes_are = ap (λ x. begin ++ (x ++ [])) text
            ∙ ap (λ x. begin ++ x) (sym (bytes_both (end_pages moment.begin moment.passed) []))
            ∙ sym (bytes_both moment.begin (end_pages moment.begin moment.passed ++ []));
      };
    }

-- ---- one stream after the other
one_more : (streams : List JoinedStream) (stream : JoinedStream) → ends_of (streams ++ stream ∷ []) ≡ ends_of streams ++ ends_of (stream ∷ [])
one_more [] stream = refl
one_more (s ∷ streams) stream =
    ap (λ l. cond (ends_unheard s) (end_of s ∷ l) l) (one_more streams stream) ∙ inside (ends_unheard s)
  where
    inside : (b : Bool) → cond b (end_of s ∷ (ends_of streams ++ ends_of (stream ∷ []))) (ends_of streams ++ ends_of (stream ∷ []))
        ≡ cond b (end_of s ∷ ends_of streams) (ends_of streams) ++ ends_of (stream ∷ [])
    inside true = refl
    inside false = refl

pub more_ends : (streams : List JoinedStream) (i : ℕ) (d : JoinedStream) → i < length streams →
    bytes_of_pages (ends_of (take (i + 1) streams)) ≡ bytes_of_pages (ends_of (take i streams)) ++ bytes_of_pages (ends_of (get_or streams i d ∷ []))
more_ends streams i d small =
    ap (λ n. bytes_of_pages (ends_of (take n streams))) (let e : i + 1 ≡ suc i = omega arith in e)
    ∙ ap (λ l. bytes_of_pages (ends_of l)) (take-suc streams i d small)
    ∙ ap bytes_of_pages (one_more (take i streams) (get_or streams i d))
    ∙ bytes_both (ends_of (take i streams)) (ends_of (get_or streams i d ∷ []))

pub more_text : (streams : List JoinedStream) (i : ℕ) (d stream : JoinedStream) (text new : List ℕ) → new ≡ text ++ bytes_of_pages (ends_of (stream ∷ [])) → stream ≡ get_or streams i d →
    text ≡ bytes_of_pages (ends_of (take i streams)) → i < length streams → new ≡ bytes_of_pages (ends_of (take (i + 1) streams))
more_text streams i d stream text new e is so_far small =
    e ∙ ap (λ l. l ++ bytes_of_pages (ends_of (stream ∷ []))) so_far
    ∙ ap (λ s. bytes_of_pages (ends_of (take i streams)) ++ bytes_of_pages (ends_of (s ∷ []))) is
    ∙ sym (more_ends streams i d small)

-- no link was open
pub waits_hearing : (committed : List ℕ) (listener : ListenerState) → IsNew (length committed) 0 (length committed) [] listener →
    IsHearing (record { place = length committed; begin = []; passed = [] }) committed listener []
waits_hearing committed listener new =
    let text : listener.text ≡ [] = new.text in
    record {
      done = [];
      are_done = tt;
      between = ap (λ n. drop n committed) (sym new.place);
      place = new.place ∙ omega arith;
      names = λ s. ap (λ names. name_in names s) new.names;
      rest = [];
      left = record {
        begins = omega (arith, new.begin_place, new.begin_left);
        pages = [];
        pages_left = record {
          front = committed;
          pages = [];
          split = sym (append-nil committed);
          place_is = sym new.place;
          are_pages = tt;
          inside = new.skip;
          rest_is = ap (λ n. drop n []) (sym new.skip);
        };
        joined = sym (ap (λ n. part_at listener.begin_place n committed ++ (listener.text ++ [])) new.begin_left ∙ ap (λ t. t ++ []) text);
      };
      live = record { front = committed; after = []; split = sym (append-nil committed); place_is = refl; are_pages = tt; bytes_are = refl };
    }

-- ---- at any moment
pub spelled_last : (before : List (List Page)) (link : List Page) → flat_map bytes_of_pages (before ++ link ∷ []) ≡ flat_map bytes_of_pages before ++ bytes_of_pages link
spelled_last before link =
    flat_map-append bytes_of_pages before (link ∷ []) ∙ ap (λ l. flat_map bytes_of_pages before ++ l) (append-nil (bytes_of_pages link))

abbrev moment_with : ℕ → List Page → List Page → Moment
moment_with place begin passed = record { place = place; begin = begin; passed = passed }

pub moment_hearing : (committed : List ℕ) (moment : Moment) (listener : ListenerState) → IsMomentOf committed moment → IsNewAt moment listener → IsHearing moment committed listener []
moment_hearing committed moment listener m new =
    elim m.last [
      | inl mid ↦
          (let link : List Page = moment.begin ++ moment.passed in
          let front : List ℕ = flat_map bytes_of_pages mid.before in
          let l : AreLinks committed (mid.before ++ link ∷ []) = subst (λ (x : List (List Page)). AreLinks committed x) mid.split m.are_links in
          let spelled : committed ≡ front ++ bytes_of_pages link = l.spelled ∙ spelled_last mid.before link in
          let split : committed ≡ front ++ (bytes_of_pages moment.begin ++ bytes_of_pages moment.passed) =
          spelled ∙ ap (λ x. front ++ x) (bytes_both moment.begin moment.passed) in
          let size : length committed ≡ length front + length (bytes_of_pages link) = ap length spelled ∙ length-append front (bytes_of_pages link) in
          let at : begin_place moment ≡ length front = omega (arith, m.place, size) in
          begins_hearing committed front (bytes_of_pages moment.passed) moment listener
          (all_split IsLink mid.before (link ∷ []) l.each).1.0 (all_split (AllByRecursion IsPage) mid.before (link ∷ []) l.pages).1.0 mid.joined m.place split
          (record { begin_place = new.begin_place ∙ at; begin_left = new.begin_left; text = new.text; names = new.names; place = new.place ∙ m.place; skip = new.skip }))
      | inr none ↦ between none.begin none.passed
    ]
  where
    between : moment.begin ≡ [] → moment.passed ≡ [] → IsHearing moment committed listener []
    between begin passed =
        let is : record { place = length committed; begin = []; passed = [] } ≡ moment =
        ap (λ n. moment_with n [] []) (sym m.place) ∙ ap (λ x. moment_with moment.place x []) (sym begin) ∙ ap (λ x. moment_with moment.place moment.begin x) (sym passed) in
        let none : bytes_of_pages (moment.begin ++ moment.passed) ≡ [] = ap (λ x. bytes_of_pages (x ++ moment.passed)) begin ∙ ap bytes_of_pages passed in
        let streams : joined_streams moment ≡ [] = ap (λ x. map (joined_stream moment) (serials_of x)) begin in
        let size : length (bytes_of_pages (moment.begin ++ moment.passed)) ≡ 0 = ap length none in
        subst (λ (x : Moment). IsHearing x committed listener []) is
        (waits_hearing committed listener (record {
          begin_place = new.begin_place ∙ omega (arith, m.place, size);
          begin_left = new.begin_left ∙ ap (λ x. length (bytes_of_pages x)) begin;
          text = new.text ∙ ap (λ x. bytes_of_pages (ends_of x)) streams;
          names = new.names ∙ ap (map name_between) streams;
          place = new.place ∙ m.place;
          skip = new.skip;
        }))
