-- The joined link, as it is heard, is a link, and holds what it should.
use Rattle.std.proofs.Common.{◌≡◌, ◌≢◌, ℕ, ◌+◌, ◌<◌, ◌≤◌, ◌^◌, Bool, true, false, List, [], ◌∷◌, ◌++◌, length, drop, map, refl, sym, ◌∙◌, ap, subst, arith, append_assoc, eq-eqb, inl, inr}
use Rattle.std.specs.Prelude.{nat_eq, not, ◌||◌, ◌&&◌}
use Rattle.std.specs.List.{AllByRecursion, AllZip, IsDistinct, filter, list_any}
use Rattle.std.proofs.lemmas.List.{append-nil}
use Rattle.std.proofs.lemmas.List.Elements.{filter-append}
use Rattle.std.proofs.lemmas.List.Folds.{list_any-append}
use Rattle.std.proofs.lemmas.Bool.{ne_eqb, cases_eq, cases_Bool, cond-false, cond_both, or_left, or_right, false≢true}
use Rattle.ogg_page.specs.Page.{Page, IsPage}
use Rattle.ogg_page.specs.Lacing.{ends_open}
use Rattle.ogg_page.specs.LogicalStream.{HoldsPackets, FitsBehind, EachBehind, FlagsFit, joined_lacing, number_behind, is_first, is_last}
use Rattle.ogg_page.specs.StreamLaws.{behind_both, behind_front, behind_back, held_both, false_is_not_true}
use Rattle.link_chain.specs.ChainState.{last_position}
use Rattle.link_chain.specs.Links.{IsLink, pages_with, serials_of, has_stream, has_ended, all_ended}
use Rattle.link_chain.specs.Recording.{Stream, HoldsStream, HoldsLink}
use Rattle.link_chain.specs.Laws.Grow.{Unmarked, all_true, each_true, all_weaker, all_filter, ended_both, serials_same, stream_same, stream_some}
use Rattle.link_chain.specs.Laws.LastLink.{all_split, each_known, position_small}
use Rattle.link_chain.specs.Laws.Fronts.{goes_on, front_is_link, page_fits}
use Rattle.link_chain.specs.Laws.TakenLinks.{without}
use Rattle.serve_live.specs.Heard.{gap, heard_page, ended_unheard, end_page, end_pages, heard_link}
use Rattle.serve_live.specs.Joining.{AreLater, IsJoined, heard_stream, heard_streams}
use Rattle.serve_live.specs.Packets.{HoldsNothing, held_rest, none_held}
use Rattle.serve_live.proofs.OneStream.{numbers_rise, nothing_follows, with_heard, own_of, heard_last, heard_holds, go_on_heard, end_fits, none_of, not_of, one_of}
use Rattle.ogg_page.specs.Laws.PageBytes.{all_both}

-- ---- the beginning of the link
pub begin_some : (begin passed later : List Page) → IsLink (begin ++ (passed ++ later)) → IsJoined begin passed → begin ≢ []
begin_some [] [] later l j e = absurd (false≢true (sym j.goes_on))
begin_some [] (page ∷ passed) later l j e = false_is_not_true (is_first page) j.begun.0 ((page_fits [] page (passed ++ later) l).first.1 refl)
begin_some (page ∷ begin) passed later l j e = cc

pub begin_link : (begin passed later : List Page) → IsLink (begin ++ (passed ++ later)) → IsJoined begin passed → IsLink begin
begin_link begin passed later l j = front_is_link begin (passed ++ later) (begin_some begin passed later l j) l

-- which streams end unheard
abbrev pub goes_unheard : List Page → List Page → ℕ → Bool
goes_unheard begin passed serial = has_ended (begin ++ passed) serial && not (has_ended begin serial)

abbrev ends_of : List Page → List Page → ℕ → List Page
ends_of begin passed serial = pages_with serial (end_pages begin passed)

ends_own : (begin passed : List Page) (serial : ℕ) → (end_page begin passed serial).serial ≡ serial
ends_own begin passed serial = refl

-- the pages of a stream of the link, as it is heard
pub with_all : (begin passed later : List Page) (serial : ℕ) →
    pages_with serial (heard_link begin passed later)
    ≡ pages_with serial begin ++ (ends_of begin passed serial ++ map (heard_page (gap begin passed)) (pages_with serial later))
with_all begin passed later serial =
    let test : Page → Bool = λ (p : Page). nat_eq p.serial serial in
    let heard : List Page = map (heard_page (gap begin passed)) later in
    filter-append test begin (end_pages begin passed ++ heard)
    ∙ ap (λ l. pages_with serial begin ++ l)
    (filter-append test (end_pages begin passed) heard ∙ ap (λ l. ends_of begin passed serial ++ l) (with_heard (gap begin passed) serial later))

pub with_both : (begin passed : List Page) (serial : ℕ) → pages_with serial (begin ++ passed) ≡ pages_with serial begin ++ pages_with serial passed
with_both begin passed serial = filter-append (λ (p : Page). nat_eq p.serial serial) begin passed

pub with_three : (begin passed later : List Page) (serial : ℕ) →
    pages_with serial (begin ++ (passed ++ later)) ≡ pages_with serial begin ++ (pages_with serial passed ++ pages_with serial later)
with_three begin passed later serial =
    with_both begin (passed ++ later) serial ∙ ap (λ l. pages_with serial begin ++ l) (with_both passed later serial)

-- ---- a stream that the link hasn't
no_pages : (a b : List Page) → a ++ b ≡ [] → (a ≡ []) × (b ≡ [])
no_pages [] b e = (refl, e)
no_pages (x ∷ a) b e = cc

none_heard : (begin passed later : List Page) (serial : ℕ) → IsLink (begin ++ (passed ++ later)) → IsJoined begin passed → AreLater later →
    has_stream begin serial ≡ false → (pages_with serial (heard_link begin passed later) ≡ []) × (pages_with serial (begin ++ (passed ++ later)) ≡ [])
none_heard begin passed later serial l j unmarked none =
    let rest_later : Unmarked (passed ++ later) = all_both (λ (p : Page). is_first p ≡ false) passed later j.begun unmarked in
    let nowhere : has_stream (begin ++ (passed ++ later)) serial ≡ false = stream_same begin (passed ++ later) serial rest_later ∙ none in
    let all : pages_with serial (begin ++ (passed ++ later)) ≡ [] = without (begin ++ (passed ++ later)) serial l nowhere in
    let first : (pages_with serial begin ≡ []) × (pages_with serial passed ++ pages_with serial later ≡ []) =
    no_pages (pages_with serial begin) (pages_with serial passed ++ pages_with serial later) (sym (with_three begin passed later serial) ∙ all) in
    let second : (pages_with serial passed ≡ []) × (pages_with serial later ≡ []) = no_pages (pages_with serial passed) (pages_with serial later) first.1 in
    let ends : ends_of begin passed serial ≡ [] =
    none_of (end_page begin passed) (goes_unheard begin passed) serial (serials_of begin) (ends_own begin passed) none in (
      with_all begin passed later serial
          ∙ ap (λ x. x ++ (ends_of begin passed serial ++ map (heard_page (gap begin passed)) (pages_with serial later))) first.0
          ∙ ap (λ x. x ++ map (heard_page (gap begin passed)) (pages_with serial later)) ends
          ∙ ap (map (heard_page (gap begin passed))) second.1,
      all,
    )

-- ---- a stream of the link
and_parts : (a b : Bool) → (a && not b) ≡ true → (a ≡ true) × (b ≡ false)
and_parts true true e = cc
and_parts true false e = (refl, refl)
and_parts false b e = cc

-- what was said of a stream when the listener joined still holds of what it began with
last_alike : (b p : Bool) → ((b || p) && not b) ≡ false → b ≡ (b || p)
last_alike true p e = refl
last_alike false true e = cc
last_alike false false e = refl

stream_fits : (begin passed later : List Page) (serial : ℕ) → IsLink (begin ++ (passed ++ later)) → IsJoined begin passed →
    has_stream begin serial ≡ true → FlagsFit (pages_with serial (heard_link begin passed later))
stream_fits begin passed later serial l j there =
    let own : List Page = pages_with serial begin in
    let mid : List Page = pages_with serial passed in
    let back : List Page = pages_with serial later in
    let heard_back : List Page = map (heard_page (gap begin passed)) back in
    let some : own ≢ [] = stream_some begin serial there in
    let all : EachBehind FitsBehind [] (own ++ (mid ++ back)) = subst FlagsFit (with_three begin passed later serial) (l.streams serial) in
    let front_fits : EachBehind FitsBehind [] own = behind_front FitsBehind [] own (mid ++ back) all in
    let rest_fits : EachBehind FitsBehind own (mid ++ back) = behind_back FitsBehind [] own (mid ++ back) all in
    let back_fits : EachBehind FitsBehind (own ++ mid) back = behind_back FitsBehind own mid back rest_fits in
    let last_is : has_ended (begin ++ passed) serial ≡ (list_any is_last own || list_any is_last mid) = ended_both serial begin passed in
    subst FlagsFit (sym (with_all begin passed later serial))
    (elim (cases_Bool (goes_unheard begin passed serial)) [
      | inl e ↦
          (let parts : (has_ended (begin ++ passed) serial ≡ true) × (has_ended begin serial ≡ false) =
          and_parts (has_ended (begin ++ passed) serial) (has_ended begin serial) e in
          let ended : list_any is_last (own ++ mid) ≡ true = ap (list_any is_last) (sym (with_both begin passed serial)) ∙ parts.0 in
          let none : back ≡ [] = nothing_follows (own ++ mid) back back_fits ended in
          let end : Page = end_page begin passed serial in
          let ends : ends_of begin passed serial ≡ end ∷ [] =
          one_of (end_page begin passed) (goes_unheard begin passed) serial (serials_of begin) (ends_own begin passed)
          (begin_link begin passed later l j).distinct there e in
          subst (λ (x : List Page). FlagsFit (own ++ x))
          (sym (ap (λ x. ends_of begin passed serial ++ map (heard_page (gap begin passed)) x) none ∙ append-nil (ends_of begin passed serial) ∙ ends))
          (behind_both FitsBehind [] own (end ∷ []) front_fits (end_fits own end refl refl refl some (j.begin_whole serial) parts.1, tt)))
      | inr e ↦
          (let ends : ends_of begin passed serial ≡ [] =
          not_of (end_page begin passed) (goes_unheard begin passed) serial (serials_of begin) (ends_own begin passed) e in
          let some_both : own ++ mid ≢ [] = λ f. some (no_pages own mid f).0 in
          let whole : ends_open (joined_lacing own) ≡ ends_open (joined_lacing (own ++ mid)) =
          j.begin_whole serial ∙ sym (ap (λ x. ends_open (joined_lacing x)) (sym (with_both begin passed serial)) ∙ j.passed_whole serial) in
          let rise : number_behind own ≤ number_behind (own ++ mid) = numbers_rise own mid (behind_front FitsBehind own mid back rest_fits) some in
          let is : number_behind (pages_with serial (begin ++ passed)) ≡ number_behind (own ++ mid) = ap number_behind (with_both begin passed serial) in
          let number : number_behind (own ++ mid) ≡ number_behind own + gap begin passed serial = omega (arith, rise, is) in
          let last : list_any is_last own ≡ list_any is_last (own ++ mid) =
          last_alike (list_any is_last own) (list_any is_last mid) (sym (ap (λ b. b && not (has_ended begin serial)) last_is) ∙ e)
          ∙ sym (list_any-append is_last own mid) in
          subst (λ (x : List Page). FlagsFit (own ++ (x ++ heard_back))) (sym ends)
          (behind_both FitsBehind [] own heard_back front_fits
          (go_on_heard (gap begin passed) serial (own ++ mid) own back (own_of serial later) back_fits some_both some whole number last)))
    ])

-- ---- streams that have ended
-- one page ends each stream that ended unheard, and no other
ends_last : (begin passed later : List Page) (serial : ℕ) → IsLink (begin ++ (passed ++ later)) → IsJoined begin passed → has_stream begin serial ≡ true →
    list_any is_last (ends_of begin passed serial) ≡ goes_unheard begin passed serial
ends_last begin passed later serial l j there =
    elim (cases_Bool (goes_unheard begin passed serial)) [
      | inl e ↦
          ap (list_any is_last)
          (one_of (end_page begin passed) (goes_unheard begin passed) serial (serials_of begin) (ends_own begin passed)
          (begin_link begin passed later l j).distinct there e)
          ∙ sym e
      | inr e ↦
          ap (list_any is_last) (not_of (end_page begin passed) (goes_unheard begin passed) serial (serials_of begin) (ends_own begin passed) e) ∙ sym e
    ]

ended_agree : (b p l : Bool) → (b || (((b || p) && not b) || l)) ≡ (b || (p || l))
ended_agree true p l = refl
ended_agree false true l = refl
ended_agree false false l = refl

pub ended_alike : (begin passed later : List Page) (serial : ℕ) → IsLink (begin ++ (passed ++ later)) → IsJoined begin passed → AreLater later →
    has_ended (heard_link begin passed later) serial ≡ has_ended (begin ++ (passed ++ later)) serial
ended_alike begin passed later serial l j unmarked =
    elim (cases_Bool (has_stream begin serial)) [
      | inl there ↦
          (let own : Bool = list_any is_last (pages_with serial begin) in
          let mid : Bool = list_any is_last (pages_with serial passed) in
          let back : Bool = list_any is_last (pages_with serial later) in
          let heard : List Page = map (heard_page (gap begin passed)) (pages_with serial later) in
          ap (list_any is_last) (with_all begin passed later serial)
          ∙ list_any-append is_last (pages_with serial begin) (ends_of begin passed serial ++ heard)
          ∙ ap (λ b. own || b)
          (list_any-append is_last (ends_of begin passed serial) heard
          ∙ ap (λ b. b || list_any is_last heard) (ends_last begin passed later serial l j there ∙ ap (λ b. b && not own) (ended_both serial begin passed))
          ∙ ap (λ b. ((own || mid) && not own) || b) (heard_last (gap begin passed) (pages_with serial later)))
          ∙ ended_agree own mid back
          ∙ sym
          (ap (list_any is_last) (with_three begin passed later serial)
          ∙ list_any-append is_last (pages_with serial begin) (pages_with serial passed ++ pages_with serial later)
          ∙ ap (λ b. own || b) (list_any-append is_last (pages_with serial passed) (pages_with serial later))))
      | inr none ↦
          (let both = none_heard begin passed later serial l j unmarked none in
          ap (list_any is_last) both.0 ∙ sym (ap (list_any is_last) both.1))
    ]

-- ---- the pages behind the link's beginning
abbrev behind : List Page → List Page → List Page → List Page
behind begin passed later = end_pages begin passed ++ map (heard_page (gap begin passed)) later

-- what holds of each serial of a list holds of those that pass a test, and they pass it
passing : (P : ℕ → Type 0) (test : ℕ → Bool) (xs : List ℕ) → AllByRecursion P xs → AllByRecursion (λ x. P x × (test x ≡ true)) (filter test xs)
passing P test [] h = tt
passing P test (x ∷ xs) h =
    cond_both (test x) (x ∷ filter test xs) (filter test xs) (λ l. AllByRecursion (λ y. P y × (test y ≡ true)) l)
    (λ e. ((h.0, e), passing P test xs h.1)) (λ _. passing P test xs h.1)

pub listed : (serials : List ℕ) → AllByRecursion (λ s. list_any (nat_eq s) serials ≡ true) serials
listed [] = tt
listed (s ∷ serials) = (
  or_left (nat_eq s s) (list_any (nat_eq s) serials) (eq-eqb s s refl),
  all_weaker (λ t. list_any (nat_eq t) serials ≡ true) (λ t. list_any (nat_eq t) (s ∷ serials) ≡ true)
      (λ t e. or_right (nat_eq t s) (list_any (nat_eq t) serials) e) serials (listed serials),
)

all_map : {X Y : Type 0} (P : X → Type 0) (Q : Y → Type 0) (f : X → Y) → ((x : X) → P x → Q (f x)) → (xs : List X) → AllByRecursion P xs → AllByRecursion Q (map f xs)
all_map P Q f h [] a = tt
all_map P Q f h (x ∷ xs) a = (h x a.0, all_map P Q f h xs a.1)

-- the streams that ended unheard are the link's
unheard : (begin passed : List Page) → AllByRecursion (λ s. (has_stream begin s ≡ true) × (goes_unheard begin passed s ≡ true)) (ended_unheard begin passed)
unheard begin passed = passing (λ s. has_stream begin s ≡ true) (goes_unheard begin passed) (serials_of begin) (listed (serials_of begin))

-- what holds of the end of each such stream, and of each later page with its new number
each_behind : (P : Page → Type 0) (begin passed later : List Page) →
    ((s : ℕ) → has_stream begin s ≡ true → goes_unheard begin passed s ≡ true → P (end_page begin passed s)) →
    AllByRecursion (λ page. P (heard_page (gap begin passed) page)) later → AllByRecursion P (behind begin passed later)
each_behind P begin passed later ends back =
    all_both P (end_pages begin passed) (map (heard_page (gap begin passed)) later)
    (all_map (λ s. (has_stream begin s ≡ true) × (goes_unheard begin passed s ≡ true)) P (end_page begin passed) (λ s h. ends s h.0 h.1)
    (ended_unheard begin passed) (unheard begin passed))
    (all_map (λ page. P (heard_page (gap begin passed) page)) P (heard_page (gap begin passed)) (λ p h. h) later back)

behind_unmarked : (begin passed later : List Page) → AreLater later → Unmarked (behind begin passed later)
behind_unmarked begin passed later unmarked = each_behind (λ (p : Page). is_first p ≡ false) begin passed later (λ s there e. refl) unmarked

pub serials_alike : (begin passed later : List Page) → AreLater later → serials_of (heard_link begin passed later) ≡ serials_of begin
serials_alike begin passed later unmarked = serials_same begin (behind begin passed later) (behind_unmarked begin passed later unmarked)

-- ---- the link
pub is_link : (begin passed later : List Page) → IsLink (begin ++ (passed ++ later)) → IsJoined begin passed → AreLater later → IsLink (heard_link begin passed later)
is_link begin passed later l j unmarked =
    let first : IsLink begin = begin_link begin passed later l j in
    let back : List Page = behind begin passed later in
    let unmarked_back : Unmarked back = behind_unmarked begin passed later unmarked in
    let rest_later : Unmarked (passed ++ later) = all_both (λ (p : Page). is_first p ≡ false) passed later j.begun unmarked in
    let there : AllByRecursion (λ page. has_stream begin page.serial ≡ true) later =
    all_weaker (λ (p : Page). has_stream (begin ++ (passed ++ later)) p.serial ≡ true) (λ (p : Page). has_stream begin p.serial ≡ true)
    (λ p e. sym (stream_same begin (passed ++ later) p.serial rest_later) ∙ e) later
    (all_split (λ (p : Page). has_stream (begin ++ (passed ++ later)) p.serial ≡ true) passed later
    (all_split (λ (p : Page). has_stream (begin ++ (passed ++ later)) p.serial ≡ true) begin (passed ++ later) (each_known (begin ++ (passed ++ later)) l)).1).1 in
    let there_back : AllByRecursion (λ page. has_stream begin page.serial ≡ true) back =
    each_behind (λ (p : Page). has_stream begin p.serial ≡ true) begin passed later (λ s e _. e) there in
    let fits : (serial : ℕ) → FlagsFit (pages_with serial (heard_link begin passed later)) =
    λ serial.
    (elim (cases_Bool (has_stream begin serial)) [
      | inl has ↦ stream_fits begin passed later serial l j has
      | inr none ↦ subst FlagsFit (sym (none_heard begin passed later serial l j unmarked none).0) tt
    ]) in
    record {
      first_pages = first.first_pages;
      others = first.others ++ back;
      split = ap (λ x. x ++ back) first.split ∙ append_assoc first.first_pages first.others back;
      marked = first.marked;
      some = first.some;
      few = first.few;
      distinct = subst (λ (s : List ℕ). IsDistinct nat_eq s) (sym (serials_alike begin passed later unmarked)) first.distinct;
      unmarked = all_both (λ (p : Page). is_first p ≡ false) first.others back first.unmarked unmarked_back;
      known = all_weaker (λ (p : Page). has_stream begin p.serial ≡ true) (λ (p : Page). has_stream (heard_link begin passed later) p.serial ≡ true)
          (λ p e. stream_same begin back p.serial unmarked_back ∙ e) (first.others ++ back)
          (all_both (λ (p : Page). has_stream begin p.serial ≡ true) first.others back first.known there_back);
      streams = fits;
      one = behind_both (λ (before : List Page) (page : Page). before ≢ [] → all_ended before ≡ false) [] begin back first.one
          (goes_on begin back unmarked_back there_back fits);
    }

-- ---- pages
some_page : (pages : List Page) (serial : ℕ) → pages_with serial pages ≢ [] → AllByRecursion IsPage pages → serial < 2 ^ 32
some_page [] serial some h = absurd (some refl)
some_page (page ∷ pages) serial some h =
    elim (cases_eq page.serial serial) [
      | inl same ↦ (let small : page.serial < 2 ^ 32 = h.0.serial in omega (arith, small, same))
      | inr other ↦ some_page pages serial
          (λ e. some (cond-false (nat_eq page.serial serial) (page ∷ pages_with serial pages) (pages_with serial pages) (ne_eqb page.serial serial other) ∙ e)) h.1
    ]

-- a stream that ended after these pages has a page after them, which has the next number
next_number : (own mid : List Page) → EachBehind FitsBehind own mid → own ≢ [] → list_any is_last mid ≡ true → AllByRecursion IsPage mid → number_behind own < 2 ^ 32
next_number own [] fits some ended h = absurd (false≢true ended)
next_number own (page ∷ mid) fits some ended h =
    let small : page.sequence < 2 ^ 32 = h.0.sequence in
    omega (arith, small, fits.0.sequence some)

ended_mid : (b p : Bool) → ((b || p) && not b) ≡ true → p ≡ true
ended_mid true p e = cc
ended_mid false true e = refl
ended_mid false false e = cc

pub end_is_page : (begin passed later : List Page) (serial : ℕ) → IsLink (begin ++ (passed ++ later)) → AllByRecursion IsPage (begin ++ (passed ++ later)) →
    has_stream begin serial ≡ true → goes_unheard begin passed serial ≡ true → IsPage (end_page begin passed serial)
end_is_page begin passed later serial l pages there e =
    let some : pages_with serial begin ≢ [] = stream_some begin serial there in
    let parts : AllByRecursion IsPage begin × AllByRecursion IsPage (passed ++ later) = all_split IsPage begin (passed ++ later) pages in
    let mid : AllByRecursion IsPage passed = (all_split IsPage passed later parts.1).0 in
    let all : EachBehind FitsBehind [] (pages_with serial begin ++ (pages_with serial passed ++ pages_with serial later)) =
    subst FlagsFit (with_three begin passed later serial) (l.streams serial) in
    let mid_fits : EachBehind FitsBehind (pages_with serial begin) (pages_with serial passed) =
    behind_front FitsBehind (pages_with serial begin) (pages_with serial passed) (pages_with serial later)
    (behind_back FitsBehind [] (pages_with serial begin) (pages_with serial passed ++ pages_with serial later) all) in
    let ended : list_any is_last (pages_with serial passed) ≡ true =
    ended_mid (list_any is_last (pages_with serial begin)) (list_any is_last (pages_with serial passed))
    (sym (ap (λ b. b && not (has_ended begin serial)) (ended_both serial begin passed)) ∙ e) in
    let reached : last_position (pages_with serial (begin ++ passed)) < 2 ^ 63 = position_small (pages_with serial (begin ++ passed)) in
    record {
      flags = omega arith;
      position = omega (arith, reached);
      serial = some_page begin serial some parts.0;
      sequence = next_number (pages_with serial begin) (pages_with serial passed) mid_fits some ended
          (all_filter IsPage (λ (p : Page). nat_eq p.serial serial) passed mid);
      values = omega arith;
      lacing = tt;
      body = tt;
      whole = refl;
    }

heard_is_page : (gaps : ℕ → ℕ) (page : Page) → IsPage page → IsPage (heard_page gaps page)
heard_is_page gaps page p = record {
  flags = p.flags;
  position = p.position;
  serial = p.serial;
  sequence = (let small : page.sequence < 2 ^ 32 = p.sequence in omega (arith, small));
  values = p.values;
  lacing = p.lacing;
  body = p.body;
  whole = p.whole;
}

pub are_pages : (begin passed later : List Page) → IsLink (begin ++ (passed ++ later)) → AllByRecursion IsPage (begin ++ (passed ++ later)) →
    AllByRecursion IsPage (heard_link begin passed later)
are_pages begin passed later l pages =
    let parts : AllByRecursion IsPage begin × AllByRecursion IsPage (passed ++ later) = all_split IsPage begin (passed ++ later) pages in
    let back : AllByRecursion IsPage later = (all_split IsPage passed later parts.1).1 in
    all_both IsPage begin (behind begin passed later) parts.0
    (each_behind IsPage begin passed later (λ s there e. end_is_page begin passed later s l pages there e)
    (all_weaker IsPage (λ page. IsPage (heard_page (gap begin passed) page)) (heard_is_page (gap begin passed)) later back))

-- ---- all streams have ended
-- each stream of a link in which all have ended
stream_ended : (ended : ℕ → Bool) (pages : List Page) (serial : ℕ) → AllByRecursion (λ (p : Page). ended p.serial ≡ true) pages → pages_with serial pages ≢ [] → ended serial ≡ true
stream_ended ended [] serial h some = absurd (some refl)
stream_ended ended (page ∷ pages) serial h some =
    elim (cases_eq page.serial serial) [
      | inl same ↦ ap ended (sym same) ∙ h.0
      | inr other ↦ stream_ended ended pages serial h.1
          (λ e. some (cond-false (nat_eq page.serial serial) (page ∷ pages_with serial pages) (pages_with serial pages) (ne_eqb page.serial serial other) ∙ e))
    ]

pub still_ended : (begin passed later : List Page) → IsLink (begin ++ (passed ++ later)) → IsJoined begin passed → AreLater later →
    all_ended (begin ++ (passed ++ later)) ≡ true → all_ended (heard_link begin passed later) ≡ true
still_ended begin passed later l j unmarked e =
    let link : List Page = begin ++ (passed ++ later) in
    let heard : List Page = heard_link begin passed later in
    let rest_later : Unmarked (passed ++ later) = all_both (λ (p : Page). is_first p ≡ false) passed later j.begun unmarked in
    let all : AllByRecursion (λ (p : Page). has_ended link p.serial ≡ true) link = each_true (λ (p : Page). has_ended link p.serial) link e in
    all_true (λ (p : Page). has_ended heard p.serial) heard
    (all_weaker (λ (p : Page). has_stream heard p.serial ≡ true) (λ (p : Page). has_ended heard p.serial ≡ true)
    (λ p there.
    ended_alike begin passed later p.serial l j unmarked
    ∙ stream_ended (has_ended link) link p.serial all
    (stream_some link p.serial
    (ap (list_any (nat_eq p.serial)) (serials_same begin (passed ++ later) rest_later ∙ sym (serials_alike begin passed later unmarked)) ∙ there)))
    heard (each_known heard (is_link begin passed later l j unmarked)))

-- ---- what it holds
ends_hold : (begin passed : List Page) (serial : ℕ) → HoldsPackets (ends_of begin passed serial) [] 0 []
ends_hold begin passed serial =
    none_held (ends_of begin passed serial)
    (all_filter HoldsNothing (λ (p : Page). nat_eq p.serial serial) (end_pages begin passed)
    (all_map (λ s. (has_stream begin s ≡ true) × (goes_unheard begin passed s ≡ true)) HoldsNothing (end_page begin passed) (λ s h. (refl, refl))
    (ended_unheard begin passed) (unheard begin passed)))

pub held_stream : (begin passed later : List Page) (serial : ℕ) (begun joined now : Stream) → IsLink (begin ++ (passed ++ later)) → IsJoined begin passed → AreLater later →
    HoldsStream begin serial begun → HoldsStream (begin ++ passed) serial joined → HoldsStream (begin ++ (passed ++ later)) serial now →
    HoldsStream (heard_link begin passed later) serial (heard_stream begun joined now)
held_stream begin passed later serial begun joined now l j unmarked hb hj hn =
    let own : List Page = pages_with serial begin in
    let mid : List Page = pages_with serial passed in
    let back : List Page = pages_with serial later in
    let fresh : List (List ℕ) = drop (length joined.packets) now.packets in
    let at_join : HoldsPackets (own ++ mid) joined.packets 0 [] =
    subst (λ (x : List Page). HoldsPackets x joined.packets 0 []) (with_both begin passed serial) hj.packets in
    let at_last : HoldsPackets ((own ++ mid) ++ back) now.packets 0 [] =
    subst (λ (x : List Page). HoldsPackets x now.packets 0 []) (with_three begin passed later serial ∙ sym (append_assoc own mid back)) hn.packets in
    let since : HoldsPackets back fresh 0 [] = held_rest (own ++ mid) back joined.packets now.packets at_join at_last in
    let heard : List Page = map (heard_page (gap begin passed)) back in
    record {
      serial_is = hn.serial_is;
      packets = subst (λ (x : List Page). HoldsPackets x (begun.packets ++ fresh) 0 []) (sym (with_all begin passed later serial))
          (held_both own (ends_of begin passed serial ++ heard) begun.packets fresh hb.packets
          (held_both (ends_of begin passed serial) heard [] fresh (ends_hold begin passed serial) (heard_holds (gap begin passed) back fresh since)));
      ended = hn.ended ∙ sym (ended_alike begin passed later serial l j unmarked);
    }

zip_three : (R S T U : ℕ → Stream → Type 0) → ((x : ℕ) (a b c : Stream) → R x a → S x b → T x c → U x (heard_stream a b c)) →
    (xs : List ℕ) (us vs ws : List Stream) → AllZip R xs us → AllZip S xs vs → AllZip T xs ws → AllZip U xs (heard_streams us vs ws)
zip_three R S T U f [] [] [] [] r s t = tt
zip_three R S T U f [] [] [] (w ∷ ws) r s t = absurd t
zip_three R S T U f [] [] (v ∷ vs) ws r s t = absurd s
zip_three R S T U f [] (u ∷ us) vs ws r s t = absurd r
zip_three R S T U f (x ∷ xs) [] vs ws r s t = absurd r
zip_three R S T U f (x ∷ xs) (u ∷ us) [] ws r s t = absurd s
zip_three R S T U f (x ∷ xs) (u ∷ us) (v ∷ vs) [] r s t = absurd t
zip_three R S T U f (x ∷ xs) (u ∷ us) (v ∷ vs) (w ∷ ws) r s t = (f x u v w r.0 s.0 t.0, zip_three R S T U f xs us vs ws r.1 s.1 t.1)

pub held_link : (begin passed later : List Page) (begun joined now : List Stream) → IsLink (begin ++ (passed ++ later)) → IsJoined begin passed → AreLater later →
    HoldsLink begin begun → HoldsLink (begin ++ passed) joined → HoldsLink (begin ++ (passed ++ later)) now →
    HoldsLink (heard_link begin passed later) (heard_streams begun joined now)
held_link begin passed later begun joined now l j unmarked hb hj hn =
    let rest_later : Unmarked (passed ++ later) = all_both (λ (p : Page). is_first p ≡ false) passed later j.begun unmarked in
    subst (λ (s : List ℕ). AllZip (HoldsStream (heard_link begin passed later)) s (heard_streams begun joined now)) (sym (serials_alike begin passed later unmarked))
    (zip_three (HoldsStream begin) (HoldsStream (begin ++ passed)) (HoldsStream (begin ++ (passed ++ later))) (HoldsStream (heard_link begin passed later))
    (λ serial b k n hb hj hn. held_stream begin passed later serial b k n l j unmarked hb hj hn) (serials_of begin) begun joined now hb
    (subst (λ (s : List ℕ). AllZip (HoldsStream (begin ++ passed)) s joined) (serials_same begin passed j.begun) hj)
    (subst (λ (s : List ℕ). AllZip (HoldsStream (begin ++ (passed ++ later))) s now) (serials_same begin (passed ++ later) rest_later) hn))
