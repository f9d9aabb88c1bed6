-- A listener goes on hearing what it should, while it pulls and while more is committed.
use Rattle.std.proofs.Common.{◌≡◌, ℕ, ◌+◌, ◌-◌, ◌≤◌, Bool, true, false, cond, List, [], ◌∷◌, ◌++◌, length, take, drop, refl, sym, ◌∙◌, ap, arith, append_assoc, length-append, take-append-drop, inl, inr}
use Rattle.std.specs.Prelude.{◌||◌}
use Rattle.std.specs.List.{AllByRecursion, list_any}
use Rattle.std.proofs.lemmas.Bool.{cases_Bool, cond-true, cond-false, cond_both}
use Rattle.std.proofs.lemmas.List.{drop-append-le, drop_at}
use Rattle.std.proofs.lemmas.List.Folds.{list_any-append}
use Rattle.ogg_page.specs.Page.{Page, IsPage, bytes_of_pages}
use Rattle.ogg_page.specs.LogicalStream.{is_first}
use Rattle.ogg_page.specs.PageLaws.{pages_both, bytes_both}
use Rattle.link_chain.specs.Laws.InTurn.{same_pages}
use Rattle.serve_live.specs.Following.{GoesOn, IsFollowing, name_since}
use Rattle.serve_live.specs.Heard.{end_pages, gap, heard_after, heard_bytes, named_after, named_page}
use Rattle.serve_live.specs.Hearing.{IsHearing, gap_since}
use Rattle.serve_live.specs.Listening.{Gives, IsWithin, ListenerState}
use Rattle.serve_live.specs.Live.{Moment}
use Rattle.serve_live.specs.Names.{name_in, plain}
use Rattle.serve_live.specs.Pulling.{HasMoved, names_from}
use Rattle.serve_live.specs.declared.names.StreamName.{StreamName}
use Rattle.serve_live.proofs.Chain.{after_grows}
use Rattle.serve_live.proofs.Live.{listener_grows_by}

-- ---- names
-- pages are heard alike if each stream is named the same
pub named_alike : (f g : ℕ → StreamName) → ((s : ℕ) → f s ≡ g s) → (pages : List Page) → named_after f pages ≡ named_after g pages
named_alike f g same [] = refl
named_alike f g same (page ∷ pages) =
    ap (λ (s : StreamName). cond (is_first page) (page ∷ pages) (record page { serial = s.name; sequence = s.more + (page.sequence - s.less) } ∷ named_after f pages)) (same page.serial)
    ∙ ap (λ l. cond (is_first page) (page ∷ pages) (named_page g page ∷ l)) (named_alike f g same pages)

abbrev with_gap : ℕ → ℕ → StreamName
with_gap serial n = record { serial = serial; name = serial; less = n; more = 0 }

pub heard_alike : (f g : ℕ → ℕ) → ((s : ℕ) → f s ≡ g s) → (pages : List Page) → heard_after f pages ≡ heard_after g pages
heard_alike f g same = named_alike (plain f) (plain g) (λ s. ap (with_gap s) (same s))

pub no_gaps : (pages : List Page) → heard_after (λ _. 0) pages ≡ pages
no_gaps [] = refl
no_gaps (page ∷ pages) =
    let same : 0 + (page.sequence - 0) ≡ page.sequence = omega arith in
    cond_both (is_first page) (page ∷ pages) (named_page (plain (λ _. 0)) page ∷ named_after (plain (λ _. 0)) pages) (λ l. l ≡ page ∷ pages)
    (λ _. refl)
    (λ _. ap (λ l. named_page (plain (λ _. 0)) page ∷ l) (no_gaps pages) ∙ ap (λ n. record page { sequence = n } ∷ pages) same)

-- after some pages the names go on to count, or not
split_after : (names : ℕ → StreamName) (done pages : List Page) → named_after names (done ++ pages) ≡ named_after names done ++ named_after (name_since names done) pages
split_after names [] pages = refl
split_after names (page ∷ done) pages =
    elim (cases_Bool (is_first page)) [
      | inl first ↦
          cond-true (is_first page) (page ∷ (done ++ pages)) (named_page names page ∷ named_after names (done ++ pages)) first
          ∙ ap (λ l. page ∷ (done ++ l))
          (sym (named_alike (name_since names (page ∷ done)) (plain (λ _. 0)) (λ s. ap (λ b. cond (b || list_any is_first done) (plain (λ _. 0) s) (names s)) first) pages ∙ no_gaps pages))
          ∙ ap (λ l. l ++ named_after (name_since names (page ∷ done)) pages) (sym (cond-true (is_first page) (page ∷ done) (named_page names page ∷ named_after names done) first))
      | inr later ↦
          cond-false (is_first page) (page ∷ (done ++ pages)) (named_page names page ∷ named_after names (done ++ pages)) later
          ∙ ap (λ l. named_page names page ∷ l) (split_after names done pages)
          ∙ ap (λ l. named_page names page ∷ (named_after names done ++ l))
          (named_alike (name_since names done) (name_since names (page ∷ done)) (λ s. ap (λ b. cond (b || list_any is_first done) (plain (λ _. 0) s) (names s)) (sym later)) pages)
          ∙ ap (λ l. l ++ named_after (name_since names (page ∷ done)) pages) (sym (cond-false (is_first page) (page ∷ done) (named_page names page ∷ named_after names done) later))
    ]

-- what is heard, in two parts
heard_in_two : (front : List ℕ) (names now : ℕ → StreamName) (done pages : List Page) → ((s : ℕ) → now s ≡ name_since names done s) →
    front ++ bytes_of_pages (named_after names (done ++ pages)) ≡ (front ++ bytes_of_pages (named_after names done)) ++ bytes_of_pages (named_after now pages)
heard_in_two front names now done pages same =
    ap (λ l. front ++ bytes_of_pages l) (split_after names done pages ∙ ap (λ l. named_after names done ++ l) (sym (named_alike now (name_since names done) same pages)))
    ∙ ap (λ l. front ++ l) (bytes_both (named_after names done) (named_after now pages))
    ∙ sym (append_assoc front (bytes_of_pages (named_after names done)) (bytes_of_pages (named_after now pages)))

-- ---- it begins
pub begins_following : (names : List StreamName) (place : ℕ) (before : List ℕ) (after : List Page) (listener : ListenerState) → length before ≡ place →
    AllByRecursion IsPage after → GoesOn place names listener → IsFollowing [] (name_in names) place (before ++ bytes_of_pages after) listener []
begins_following names place before after listener is are new =
    let committed : List ℕ = before ++ bytes_of_pages after in
    let heard : List ℕ = bytes_of_pages (named_after (name_in names) after) in
    record {
      done = [];
      are_done = tt;
      between = ap (λ n. drop n committed) (sym new.place_is);
      place_is = new.place_is ∙ omega arith;
      names_are = λ s. ap (λ l. name_in l s) new.names_are;
      rest = heard;
      left = record {
        begins = omega (arith, new.begin_left, new.begin_place, is, length-append before (bytes_of_pages after));
        pages = heard;
        pages_left = record {
          front = before;
          pages = after;
          split = refl;
          place_is = is ∙ sym new.place_is;
          are_pages = are;
          inside = none after;
          rest_is = ap (λ n. drop n heard) (sym new.skip) ∙ ap (λ l. drop listener.skip (bytes_of_pages (named_after (name_in l) after))) (sym new.names_are);
        };
        joined = ap (λ l. l ++ heard) (sym new.text) ∙ ap (λ n. take n (drop listener.begin_place committed) ++ (listener.text ++ heard)) (sym new.begin_left);
      };
      before = before;
      after = after;
      split = refl;
      before_is = is;
      are_pages = are;
      heard = refl;
    }
  where
    none : (pages : List Page) → IsWithin listener.skip pages
    none [] = new.skip
    none (p ∷ pages) = omega (arith, new.skip)

-- ---- more is committed
pub goes_on_following : (front : List ℕ) (names : ℕ → StreamName) (place : ℕ) (committed : List ℕ) (listener : ListenerState) (given : List ℕ) (more : List Page) →
    IsFollowing front names place committed listener given → AllByRecursion IsPage more →
    IsFollowing front names place (committed ++ bytes_of_pages more) listener given
goes_on_following front names place committed listener given more h are =
    let pages : List Page = h.left.pages_left.pages in
    let now : ℕ → StreamName = name_in listener.names in
    let added : List ℕ = bytes_of_pages more in
    let inside : listener.place ≤ length committed =
    omega (arith, h.left.pages_left.place_is, ap length h.left.pages_left.split, length-append h.left.pages_left.front (bytes_of_pages pages)) in
    let here : drop listener.place committed ≡ bytes_of_pages pages =
    ap (drop listener.place) h.left.pages_left.split ∙ drop_at h.left.pages_left.front (bytes_of_pages pages) listener.place h.left.pages_left.place_is in
    let there : drop place committed ≡ bytes_of_pages h.after =
    ap (drop place) h.split ∙ drop_at h.before (bytes_of_pages h.after) place h.before_is in
    let after_is : h.after ≡ h.done ++ pages =
    same_pages h.after (h.done ++ pages) h.are_pages (pages_both h.done pages h.are_done h.left.pages_left.are_pages)
    (sym there ∙ h.between ∙ ap (λ l. bytes_of_pages h.done ++ l) here ∙ sym (bytes_both h.done pages)) in
    let next = after_grows now pages more in
    let new : List ℕ = bytes_of_pages next.0 in
    let begun : List ℕ = front ++ bytes_of_pages (named_after names h.done) in
    let now_is : given ++ h.rest ≡ begun ++ bytes_of_pages (named_after now pages) =
    h.heard ∙ ap (λ l. front ++ bytes_of_pages (named_after names l)) after_is ∙ heard_in_two front names now h.done pages h.names_are in
    let then_is : front ++ bytes_of_pages (named_after names (h.done ++ (pages ++ more))) ≡ given ++ (h.rest ++ new) =
    heard_in_two front names now h.done (pages ++ more) h.names_are
    ∙ ap (λ l. begun ++ bytes_of_pages l) next.1
    ∙ ap (λ l. begun ++ l) (bytes_both (named_after now pages) next.0)
    ∙ sym (append_assoc begun (bytes_of_pages (named_after now pages)) new)
    ∙ ap (λ l. l ++ new) (sym now_is)
    ∙ append_assoc given h.rest new in
    let first : place ≤ length committed = omega (arith, inside, h.place_is) in
    record {
      done = h.done;
      are_done = h.are_done;
      between = drop-append-le place committed added first ∙ ap (λ l. l ++ added) h.between
          ∙ append_assoc (bytes_of_pages h.done) (drop listener.place committed) added
          ∙ ap (λ l. bytes_of_pages h.done ++ l) (sym (drop-append-le listener.place committed added inside));
      place_is = h.place_is;
      names_are = h.names_are;
      rest = h.rest ++ new;
      left = listener_grows_by committed listener h.rest more h.left are next.0 next.1;
      before = h.before;
      after = h.done ++ (pages ++ more);
      split = ap (λ l. l ++ added) h.split ∙ append_assoc h.before (bytes_of_pages h.after) added
          ∙ ap (λ l. h.before ++ l)
          (ap (λ l. bytes_of_pages l ++ added) after_is ∙ sym (bytes_both (h.done ++ pages) more) ∙ ap bytes_of_pages (append_assoc h.done pages more));
      before_is = h.before_is;
      are_pages = pages_both h.done (pages ++ more) h.are_done (pages_both pages more h.left.pages_left.are_pages are);
      heard = sym then_is;
    }

-- ---- a pull
name_of : (names : List StreamName) (name : StreamName) (serial : ℕ) (done passed : List Page) → name_in names serial ≡ cond (list_any is_first done) (plain (λ _. 0) serial) name →
    name_in (names_from names (list_any is_first passed)) serial ≡ cond (list_any is_first (done ++ passed)) (plain (λ _. 0) serial) name
name_of names name serial done passed e =
    by_case (list_any is_first done) (list_any is_first passed) e ∙ ap (λ b. cond b (plain (λ _. 0) serial) name) (sym (list_any-append is_first done passed))
  where
    by_case : (a b : Bool) → name_in names serial ≡ cond a (plain (λ _. 0) serial) name → name_in (names_from names b) serial ≡ cond (a || b) (plain (λ _. 0) serial) name
    by_case true true e = refl
    by_case true false e = e
    by_case false true e = refl
    by_case false false e = e

pub follows_by_pull : (front : List ℕ) (names : ℕ → StreamName) (place : ℕ) (committed : List ℕ) (old new : ListenerState) (given : List ℕ) (size count : ℕ) (buffer : List ℕ) →
    (h : IsFollowing front names place committed old given) → Gives committed h.rest size buffer count new → HasMoved committed old new →
    IsFollowing front names place committed new (given ++ take count buffer)
follows_by_pull front names place committed old new given size count buffer h g m = record {
  done = h.done ++ m.passed;
  are_done = pages_both h.done m.passed h.are_done m.are_pages;
  between = h.between ∙ ap (λ l. bytes_of_pages h.done ++ l) m.between
      ∙ sym (append_assoc (bytes_of_pages h.done) (bytes_of_pages m.passed) (drop new.place committed))
      ∙ ap (λ l. l ++ drop new.place committed) (sym (bytes_both h.done m.passed));
  place_is = m.place ∙ omega (arith, h.place_is, ap length (bytes_both h.done m.passed), length-append (bytes_of_pages h.done) (bytes_of_pages m.passed));
  names_are = λ s. ap (λ l. name_in l s) m.names ∙ name_of old.names (names s) s h.done m.passed (h.names_are s);
  rest = drop size h.rest;
  left = g.left;
  before = h.before;
  after = h.after;
  split = h.split;
  before_is = h.before_is;
  are_pages = h.are_pages;
  heard = ap (λ l. (given ++ l) ++ drop size h.rest) g.given
      ∙ append_assoc given (take size h.rest) (drop size h.rest)
      ∙ ap (λ l. given ++ l) (take-append-drop size h.rest)
      ∙ h.heard;
}

-- ---- a listener that joined follows its link
-- what it is given before the pages since the moment
abbrev begun : Moment → List Page
begun moment = moment.begin ++ end_pages moment.begin moment.passed

name_then : (moment : Moment) (done : List Page) (serial : ℕ) → plain (gap_since moment done) serial ≡ name_since (plain (gap moment.begin moment.passed)) done serial
name_then moment done serial = by_case (list_any is_first done)
  where
    by_case : (b : Bool) → with_gap serial (cond b 0 (gap moment.begin moment.passed serial)) ≡ cond b (with_gap serial 0) (with_gap serial (gap moment.begin moment.passed serial))
    by_case true = refl
    by_case false = refl

heard_is : (moment : Moment) (after : List Page) →
    heard_bytes moment.begin moment.passed after ≡ bytes_of_pages (begun moment) ++ bytes_of_pages (named_after (plain (gap moment.begin moment.passed)) after)
heard_is moment after =
    let rest : List Page = heard_after (gap moment.begin moment.passed) after in
    ap bytes_of_pages (sym (append_assoc moment.begin (end_pages moment.begin moment.passed) rest)) ∙ bytes_both (begun moment) rest

pub follows : (moment : Moment) (committed : List ℕ) (listener : ListenerState) (given : List ℕ) → IsHearing moment committed listener given →
    IsFollowing (bytes_of_pages (begun moment)) (plain (gap moment.begin moment.passed)) moment.place committed listener given
follows moment committed listener given h = record {
  done = h.done;
  are_done = h.are_done;
  between = h.between;
  place_is = h.place;
  names_are = λ s. h.names s ∙ name_then moment h.done s;
  rest = h.rest;
  left = h.left;
  before = h.live.front;
  after = h.live.after;
  split = h.live.split;
  before_is = h.live.place_is;
  are_pages = h.live.are_pages;
  heard = h.live.bytes_are ∙ heard_is moment h.live.after;
}

pub hears : (moment : Moment) (committed : List ℕ) (listener : ListenerState) (given : List ℕ) →
    IsFollowing (bytes_of_pages (begun moment)) (plain (gap moment.begin moment.passed)) moment.place committed listener given →
    IsHearing moment committed listener given
hears moment committed listener given h = record {
  done = h.done;
  are_done = h.are_done;
  between = h.between;
  place = h.place_is;
  names = λ s. h.names_are s ∙ sym (name_then moment h.done s);
  rest = h.rest;
  left = h.left;
  live = record {
    front = h.before;
    after = h.after;
    split = h.split;
    place_is = h.before_is;
    are_pages = h.are_pages;
    bytes_are = h.heard ∙ sym (heard_is moment h.after);
  };
}

pub goes_on_hearing : (moment : Moment) (committed : List ℕ) (listener : ListenerState) (given : List ℕ) (more : List Page) → IsHearing moment committed listener given →
    AllByRecursion IsPage more → IsHearing moment (committed ++ bytes_of_pages more) listener given
goes_on_hearing moment committed listener given more h are =
    hears moment (committed ++ bytes_of_pages more) listener given
    (goes_on_following (bytes_of_pages (begun moment)) (plain (gap moment.begin moment.passed)) moment.place committed listener given more (follows moment committed listener given h) are)

pub hears_by_pull : (moment : Moment) (committed : List ℕ) (old new : ListenerState) (given : List ℕ) (size count : ℕ) (buffer : List ℕ) →
    (h : IsHearing moment committed old given) → Gives committed h.rest size buffer count new → HasMoved committed old new →
    IsHearing moment committed new (given ++ take count buffer)
unfolding follows
hears_by_pull moment committed old new given size count buffer h g m =
    hears moment committed new (given ++ take count buffer)
    (follows_by_pull (bytes_of_pages (begun moment)) (plain (gap moment.begin moment.passed)) moment.place committed old new given size count buffer
    (follows moment committed old given h) g m)
