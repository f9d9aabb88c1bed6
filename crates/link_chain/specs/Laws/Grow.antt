-- A link with further pages of one stream.
use Rattle.std.proofs.Common.{◌≡◌, ◌≢◌, ℕ, Bool, true, false, List, [], ◌∷◌, ◌++◌, map, refl, sym, ◌∙◌, ap, subst, append_assoc, eq-eqb, inl, inr}
use Rattle.std.specs.Prelude.{nat_eq, ◌||◌, ◌&&◌}
use Rattle.std.specs.List.{AllByRecursion, AllZip, filter, list_any, list_all, IsDistinct}
use Rattle.std.proofs.lemmas.List.{append-nil}
use Rattle.std.proofs.lemmas.List.Elements.{filter-append}
use Rattle.std.proofs.lemmas.List.Folds.{list_any-append, list_all-append}
use Rattle.std.proofs.lemmas.Bool.{ne_eqb, eqb-false, or_from, and_left, cases_eq, cond-true, cond-false, cond_both}
use Rattle.ogg_page.specs.Page.{Page}
use Rattle.ogg_page.specs.Lacing.{ends_open}
use Rattle.ogg_page.specs.LogicalStream.{HoldsPackets, FitsBehind, EachBehind, FlagsFit, joined_lacing, is_first, is_last}
use Rattle.ogg_page.specs.StreamLaws.{behind_both, held_both, finished}
use Rattle.link_chain.specs.Links.{IsLink, pages_with, serials_of, has_stream, has_ended, all_ended}
use Rattle.link_chain.specs.Recording.{Stream, HoldsStream, HoldsLink}
use Rattle.std.proofs.Math.Bool.{or-false}
use Rattle.ogg_page.specs.Laws.PageBytes.{all_both}

-- ---- lists
pub all_weaker : {X : Type 0} (P Q : X → Type 0) → ((x : X) → P x → Q x) → (xs : List X) → AllByRecursion P xs → AllByRecursion Q xs
all_weaker P Q f [] a = tt
all_weaker P Q f (x ∷ xs) a = (f x a.0, all_weaker P Q f xs a.1)

pub filter_none : {X : Type 0} (test : X → Bool) (xs : List X) → AllByRecursion (λ x. test x ≡ false) xs → filter test xs ≡ []
filter_none test [] h = refl
filter_none test (x ∷ xs) h = cond-false (test x) (x ∷ filter test xs) (filter test xs) h.0 ∙ filter_none test xs h.1

pub filter_all : {X : Type 0} (test : X → Bool) (xs : List X) → AllByRecursion (λ x. test x ≡ true) xs → filter test xs ≡ xs
filter_all test [] h = refl
filter_all test (x ∷ xs) h = cond-true (test x) (x ∷ filter test xs) (filter test xs) h.0 ∙ ap (λ l. x ∷ l) (filter_all test xs h.1)

pub any_none : {X : Type 0} (test : X → Bool) (xs : List X) → AllByRecursion (λ x. test x ≡ false) xs → list_any test xs ≡ false
any_none test [] h = refl
any_none test (x ∷ xs) h = or_from (test x) (list_any test xs) h.0 (any_none test xs h.1)

pub all_true : {X : Type 0} (test : X → Bool) (xs : List X) → AllByRecursion (λ x. test x ≡ true) xs → list_all test xs ≡ true
all_true test [] h = refl
all_true test (x ∷ xs) h = ap (λ b. b && list_all test xs) h.0 ∙ all_true test xs h.1

pub each_true : {X : Type 0} (test : X → Bool) (xs : List X) → list_all test xs ≡ true → AllByRecursion (λ x. test x ≡ true) xs
each_true test [] e = tt
each_true test (x ∷ xs) e =
    let parts : (test x ≡ true) × (list_all test xs ≡ true) = both (test x) (list_all test xs) e in
    (parts.0, each_true test xs parts.1)
  where
    both : (a b : Bool) → (a && b) ≡ true → (a ≡ true) × (b ≡ true)
    both true b e = (refl, e)
    both false b e = cc

pub all_filter : {X : Type 0} (P : X → Type 0) (test : X → Bool) (xs : List X) → AllByRecursion P xs → AllByRecursion P (filter test xs)
all_filter P test [] h = tt
all_filter P test (x ∷ xs) h =
    cond_both (test x) (x ∷ filter test xs) (filter test xs) (λ l. AllByRecursion P l) (λ _. (h.0, all_filter P test xs h.1)) (λ _. all_filter P test xs h.1)

list_all-same : {X : Type 0} (f g : X → Bool) → ((x : X) → f x ≡ g x) → (xs : List X) → list_all f xs ≡ list_all g xs
list_all-same f g h [] = refl
list_all-same f g h (x ∷ xs) = ap (λ b. b && list_all f xs) (h x) ∙ ap (λ b. g x && b) (list_all-same f g h xs)

zip_changed : {A B : Type 0} (R S : A → B → Type 0) (f : B → B) → ((a : A) (b : B) → R a b → S a (f b)) → (xs : List A) (ys : List B) → AllZip R xs ys → AllZip S xs (map f ys)
zip_changed R S f h [] [] z = tt
zip_changed R S f h [] (y ∷ ys) z = absurd z
zip_changed R S f h (x ∷ xs) [] z = absurd z
zip_changed R S f h (x ∷ xs) (y ∷ ys) z = (h x y z.0, zip_changed R S f h xs ys z.1)

zip_at : {B : Type 0} (R : ℕ → B → Type 0) (serial : ℕ) (xs : List ℕ) (ys : List B) → AllZip R xs ys → list_any (nat_eq serial) xs ≡ true → (y : B) × R serial y
zip_at R serial [] ys z e = cc
zip_at R serial (x ∷ xs) [] z e = absurd z
zip_at R serial (x ∷ xs) (y ∷ ys) z e =
    elim (cases_eq serial x) [
      | inl same ↦ (y, subst (λ (s : ℕ). R s y) (sym same) z.0)
      | inr other ↦ zip_at R serial xs ys z.1 (sym (ap (λ b. b || list_any (nat_eq serial) xs) (ne_eqb serial x other)) ∙ e)
    ]

-- ---- pages of one serial
abbrev pub Own : ℕ → List Page → Type 0
Own serial pages = AllByRecursion (λ page. page.serial ≡ serial) pages

abbrev pub Unmarked : List Page → Type 0
Unmarked pages = AllByRecursion (λ page. is_first page ≡ false) pages

abbrev pub GoOn : List Page → Type 0
GoOn pages = AllByRecursion (λ page. is_last page ≡ false) pages

pub own_with : (serial : ℕ) (pages : List Page) → Own serial pages → pages_with serial pages ≡ pages
own_with serial pages h =
    filter_all (λ (p : Page). nat_eq p.serial serial) pages
    (all_weaker (λ (p : Page). p.serial ≡ serial) (λ (p : Page). nat_eq p.serial serial ≡ true) (λ p e. eq-eqb p.serial serial e) pages h)

pub other_with : (serial other : ℕ) (pages : List Page) → Own serial pages → (serial ≡ other → ⊥) → pages_with other pages ≡ []
other_with serial other pages h ne =
    filter_none (λ (p : Page). nat_eq p.serial other) pages
    (all_weaker (λ (p : Page). p.serial ≡ serial) (λ (p : Page). nat_eq p.serial other ≡ false) (λ p e. ne_eqb p.serial other (λ f. ne (sym e ∙ f))) pages h)

pub with_own : (serial : ℕ) (link pages : List Page) → Own serial pages → pages_with serial (link ++ pages) ≡ pages_with serial link ++ pages
with_own serial link pages h =
    filter-append (λ (p : Page). nat_eq p.serial serial) link pages ∙ ap (λ l. pages_with serial link ++ l) (own_with serial pages h)

pub with_other : (serial other : ℕ) (link pages : List Page) → Own serial pages → (serial ≡ other → ⊥) → pages_with other (link ++ pages) ≡ pages_with other link
with_other serial other link pages h ne =
    filter-append (λ (p : Page). nat_eq p.serial other) link pages ∙ ap (λ l. pages_with other link ++ l) (other_with serial other pages h ne)
    ∙ append-nil (pages_with other link)

pub serials_same : (link pages : List Page) → Unmarked pages → serials_of (link ++ pages) ≡ serials_of link
serials_same link pages h =
    ap (λ l. map (λ (p : Page). p.serial) l)
    (filter-append is_first link pages ∙ ap (λ l. filter is_first link ++ l) (filter_none is_first pages h) ∙ append-nil (filter is_first link))

pub stream_same : (link pages : List Page) (serial : ℕ) → Unmarked pages → has_stream (link ++ pages) serial ≡ has_stream link serial
stream_same link pages serial h = ap (list_any (nat_eq serial)) (serials_same link pages h)

-- ---- ended streams
pub ended_both : (serial : ℕ) (link pages : List Page) → has_ended (link ++ pages) serial ≡ (has_ended link serial || has_ended pages serial)
ended_both serial link pages =
    ap (list_any is_last) (filter-append (λ (p : Page). nat_eq p.serial serial) link pages)
    ∙ list_any-append is_last (pages_with serial link) (pages_with serial pages)

pub not_ended : (serial : ℕ) (pages : List Page) → GoOn pages → has_ended pages serial ≡ false
not_ended serial pages h =
    any_none is_last (pages_with serial pages) (all_filter (λ (p : Page). is_last p ≡ false) (λ (p : Page). nat_eq p.serial serial) pages h)

pub ended_same : (serial : ℕ) (link pages : List Page) → GoOn pages → has_ended (link ++ pages) serial ≡ has_ended link serial
ended_same serial link pages h = ended_both serial link pages ∙ ap (λ b. has_ended link serial || b) (not_ended serial pages h) ∙ or-false (has_ended link serial)

pub still_open : (link pages : List Page) → all_ended link ≡ false → GoOn pages → all_ended (link ++ pages) ≡ false
still_open link pages o h =
    let f : Page → Bool = λ page. has_ended (link ++ pages) page.serial in
    list_all-append f link pages
    ∙ and_left (list_all f link) (list_all f pages)
    (list_all-same f (λ (page : Page). has_ended link page.serial) (λ (page : Page). ended_same page.serial link pages h) link ∙ o)

abbrev pub OpenBehind : List Page → List Page → Type 0
OpenBehind link pages = EachBehind (λ before page. before ≢ [] → all_ended before ≡ false) link pages

pub open_behind : (link pages : List Page) → all_ended link ≡ false → GoOn pages → OpenBehind link pages
open_behind link [] o h = tt
open_behind link (page ∷ pages) o h =
    (λ _. o, open_behind (link ++ page ∷ []) pages (still_open link (page ∷ []) o (h.0, tt)) h.1)

-- ---- the link with these pages
fits_at : (link : List Page) (serial other : ℕ) (pages : List Page) → Own serial pages → EachBehind FitsBehind (pages_with serial link) pages →
    FlagsFit (pages_with other link) → FlagsFit (pages_with other (link ++ pages))
fits_at link serial other pages own fits before =
    elim (cases_eq serial other) [
      | inl same ↦
          subst FlagsFit (sym (with_own other link pages (subst (λ (s : ℕ). Own s pages) same own)))
          (behind_both FitsBehind [] (pages_with other link) pages before (subst (λ (s : ℕ). EachBehind FitsBehind (pages_with s link) pages) same fits))
      | inr differs ↦ subst FlagsFit (sym (with_other serial other link pages own differs)) before
    ]

pub grow_link : (link : List Page) (serial : ℕ) (pages : List Page) → IsLink link → has_stream link serial ≡ true → Own serial pages → Unmarked pages →
    EachBehind FitsBehind (pages_with serial link) pages → OpenBehind link pages → IsLink (link ++ pages)
grow_link link serial pages l there own unmarked fits one = record {
  first_pages = l.first_pages;
  others = l.others ++ pages;
  split = ap (λ x. x ++ pages) l.split ∙ append_assoc l.first_pages l.others pages;
  marked = l.marked;
  some = l.some;
  few = l.few;
  distinct = subst (λ (s : List ℕ). IsDistinct nat_eq s) (sym (serials_same link pages unmarked)) l.distinct;
  unmarked = all_both (λ (p : Page). is_first p ≡ false) l.others pages l.unmarked unmarked;
  known = all_both (λ (p : Page). has_stream (link ++ pages) p.serial ≡ true) l.others pages
      (all_weaker (λ (p : Page). has_stream link p.serial ≡ true) (λ (p : Page). has_stream (link ++ pages) p.serial ≡ true)
      (λ p e. stream_same link pages p.serial unmarked ∙ e) l.others l.known)
      (all_weaker (λ (p : Page). p.serial ≡ serial) (λ (p : Page). has_stream (link ++ pages) p.serial ≡ true)
      (λ p e. stream_same link pages p.serial unmarked ∙ ap (has_stream link) e ∙ there) pages own);
  streams = λ other. fits_at link serial other pages own fits (l.streams other);
  one = behind_both (λ (before : List Page) (page : Page). before ≢ [] → all_ended before ≡ false) [] link pages l.one one;
}

-- a stream with further packets, perhaps ended
abbrev pub grown : Stream → List (List ℕ) → Bool → Stream
grown stream packets ends = record { serial = stream.serial; packets = stream.packets ++ packets; ended = stream.ended || ends }

holds_own : (link : List Page) (serial : ℕ) (pages : List Page) (packets : List (List ℕ)) (stream : Stream) → Own serial pages →
    HoldsPackets pages packets 0 [] → HoldsStream link serial stream → HoldsStream (link ++ pages) serial (grown stream packets (has_ended pages serial))
holds_own link serial pages packets stream own held h = record {
  serial_is = h.serial_is;
  packets = subst (λ (l : List Page). HoldsPackets l (stream.packets ++ packets) 0 []) (sym (with_own serial link pages own))
      (held_both (pages_with serial link) pages stream.packets packets h.packets held);
  ended = ap (λ b. b || has_ended pages serial) h.ended ∙ sym (ended_both serial link pages);
}

holds_other : (link : List Page) (serial other : ℕ) (pages : List Page) (stream : Stream) → Own serial pages → (serial ≡ other → ⊥) →
    HoldsStream link other stream → HoldsStream (link ++ pages) other stream
holds_other link serial other pages stream own ne h = record {
  serial_is = h.serial_is;
  packets = subst (λ (l : List Page). HoldsPackets l stream.packets 0 []) (sym (with_other serial other link pages own ne)) h.packets;
  ended = h.ended ∙ ap (list_any is_last) (sym (with_other serial other link pages own ne));
}

pub grow_holds : (link : List Page) (serial : ℕ) (pages : List Page) (packets : List (List ℕ)) (streams : List Stream) (change : Stream → Stream) →
    Own serial pages → Unmarked pages → HoldsPackets pages packets 0 [] →
    ((stream : Stream) → stream.serial ≡ serial → change stream ≡ grown stream packets (has_ended pages serial)) →
    ((stream : Stream) → (stream.serial ≡ serial → ⊥) → change stream ≡ stream) →
    HoldsLink link streams → HoldsLink (link ++ pages) (map change streams)
grow_holds link serial pages packets streams change own unmarked held here elsewhere h =
    subst (λ (s : List ℕ). AllZip (HoldsStream (link ++ pages)) s (map change streams)) (sym (serials_same link pages unmarked))
    (zip_changed (HoldsStream link) (HoldsStream (link ++ pages)) change each (serials_of link) streams h)
  where
    each : (other : ℕ) (stream : Stream) → HoldsStream link other stream → HoldsStream (link ++ pages) other (change stream)
    each other stream hs =
        elim (cases_eq serial other) [
          | inl same ↦
              subst (λ (s : Stream). HoldsStream (link ++ pages) other s)
              (sym (here stream (hs.serial_is ∙ sym same) ∙ ap (λ (s : ℕ). grown stream packets (has_ended pages s)) same))
              (holds_own link other pages packets stream (subst (λ (s : ℕ). Own s pages) same own) held hs)
          | inr differs ↦
              subst (λ (s : Stream). HoldsStream (link ++ pages) other s) (sym (elsewhere stream (λ e. differs (sym e ∙ hs.serial_is))))
              (holds_other link serial other pages stream own differs hs)
        ]

-- ---- what a stream of the link is like
pub held_stream : (link : List Page) (streams : List Stream) (serial : ℕ) → HoldsLink link streams → has_stream link serial ≡ true →
    (stream : Stream) × HoldsStream link serial stream
held_stream link streams serial h there = zip_at (HoldsStream link) serial (serials_of link) streams h there

pub stream_finished : (link : List Page) (streams : List Stream) (serial : ℕ) → HoldsLink link streams → has_stream link serial ≡ true →
    ends_open (joined_lacing (pages_with serial link)) ≡ false
stream_finished link streams serial h there =
    let at : (stream : Stream) × HoldsStream link serial stream = held_stream link streams serial h there in
    finished (pages_with serial link) at.0.packets at.1.packets

nil_or_cons : (page : Page) (pages : List Page) → page ∷ pages ≡ [] → ⊥
nil_or_cons page pages e = cc

pub no_stream : (link : List Page) (serial : ℕ) → pages_with serial link ≡ [] → has_stream link serial ≡ false
no_stream [] serial e = refl
no_stream (page ∷ link) serial e =
    let rest : (nat_eq page.serial serial ≡ false) × (pages_with serial link ≡ []) =
    elim (cases_eq page.serial serial) [
      | inl same ↦ absurd (nil_or_cons page (pages_with serial link)
          (sym (cond-true (nat_eq page.serial serial) (page ∷ pages_with serial link) (pages_with serial link) (eq-eqb page.serial serial same)) ∙ e))
      | inr other ↦ (
        ne_eqb page.serial serial other,
        sym (cond-false (nat_eq page.serial serial) (page ∷ pages_with serial link) (pages_with serial link) (ne_eqb page.serial serial other)) ∙ e,
      )
    ] in
    let later : has_stream link serial ≡ false = no_stream link serial rest.1 in
    cond_both (is_first page) (page ∷ filter is_first link) (filter is_first link) (λ l. list_any (nat_eq serial) (map (λ (p : Page). p.serial) l) ≡ false)
    (λ _. or_from (nat_eq serial page.serial) (has_stream link serial) (ne_eqb serial page.serial (λ s. eqb-false page.serial serial rest.0 (sym s))) later)
    (λ _. later)

pub stream_some : (link : List Page) (serial : ℕ) → has_stream link serial ≡ true → pages_with serial link ≢ []
stream_some link serial there e = absurd (differ (has_stream link serial) (no_stream link serial e) there)
  where
    differ : (b : Bool) → b ≡ false → b ≡ true → ⊥
    differ b x y = cc
