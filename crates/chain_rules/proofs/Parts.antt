-- A new link by its parts: streams, each with its pages after the first. The Skeleton is one of them, until it ends.
use Rattle.std.proofs.Common.{◌≡◌, ◌≢◌, ℕ, ◌+◌, ◌<◌, ◌≤◌, true, false, List, [], ◌∷◌, ◌++◌, length, map, take, drop, refl, sym, ◌∙◌, ap, subst, arith, eq-eqb, inl, inr}
use Rattle.std.specs.Prelude.{nat_eq}
use Rattle.std.specs.List.{AllByRecursion, AllZip, IsDistinct, list_any, list_all, flat_map}
use Rattle.std.proofs.lemmas.List.{append-nil, take-append-drop, length-map}
use Rattle.std.proofs.lemmas.List.Elements.{filter-append}
use Rattle.std.proofs.lemmas.Bool.{eqb-false, cases_eq, or_left, or_right, and_left}
use Rattle.ogg_page.specs.Page.{Page}
use Rattle.ogg_page.specs.LogicalStream.{HoldsPackets, FitsBehind, EachBehind, FlagsFit, is_first, is_last}
use Rattle.ogg_page.specs.StreamLaws.{held_both}
use Rattle.ogg_command.specs.declared.command.NewStream.{NewStream}
use Rattle.link_chain.specs.Links.{IsLink, pages_with, serials_of, has_stream, has_ended, all_ended}
use Rattle.chain_rules.specs.Recording.{Stream, HoldsStream, HoldsLink, begun}
use Rattle.chain_rules.specs.Encoding.{first_pages, header_pages}
use Rattle.link_chain.specs.Laws.Grow.{all_weaker, Own, Unmarked, GoOn, OpenBehind, not_ended, own_with, other_with, filter_all, serials_same}
use Rattle.packetiser.specs.Run.{no_position}
use Rattle.std.specs.Prelude.{◌⊎◌}
use Rattle.ogg_page.specs.LogicalStream.{number_behind}
use Rattle.chain_rules.proofs.Beginning.{all_and, all_of_map, IsGood, first_page, is_first_page, serial_of, marked_first, not_last, first_fits, first_held, first_own}
use Rattle.ogg_page.specs.Laws.PageBytes.{all_both}

-- a stream of a new link, and its pages after the first
pub record Part : Type 0 where
  pub stream : NewStream
  pub later : List Page

abbrev pub page_of : Part → Page
page_of part = first_page part.stream

abbrev pub first_of : Part → List Page
first_of part = first_pages part.stream

abbrev pub later_of : Part → List Page
later_of part = part.later

abbrev pub begun_of : Part → Stream
begun_of part = begun part.stream

-- the page's position is 0, or says that no packet ends in the page: neither changes the stream's last position
abbrev pub IsStill : Page → Type 0
IsStill page = (page.position ≡ 0) ⊎ (page.position ≡ no_position)

-- these pages fit after the stream's first, and hold its other headers
pub record IsPart (part : Part) : Type 0 where
  pub good : IsGood part.stream
  pub own : Own part.stream.serial part.later
  pub unmarked : Unmarked part.later
  pub goes_on : GoOn part.later
  pub fits : EachBehind FitsBehind (page_of part ∷ []) part.later
  pub held : HoldsPackets part.later (drop 1 part.stream.headers) 0 []
  pub number : number_behind (page_of part ∷ part.later) ≡ 1 + length part.later
  pub still : AllByRecursion IsStill part.later

-- a stream that has only its headers
abbrev pub plain_part : NewStream → Part
plain_part stream = record { stream = stream; later = header_pages stream }

pub stream_held : (part : Part) → IsPart part → HoldsPackets (first_of part ++ later_of part) part.stream.headers 0 []
stream_held part h =
    subst (λ (ps : List (List ℕ)). HoldsPackets (first_of part ++ later_of part) ps 0 []) (take-append-drop 1 part.stream.headers)
    (held_both (first_of part) (later_of part) (take 1 part.stream.headers) (drop 1 part.stream.headers) (first_held part.stream) h.held)

stream_fits : (part : Part) → IsPart part → FlagsFit (first_of part ++ later_of part)
stream_fits part h =
    subst (λ (l : List Page). FlagsFit (l ++ later_of part)) (sym (is_first_page part.stream h.good).alone) (first_fits part.stream h.good, h.fits)

-- ---- pages of several parts
abbrev pub part_serials : List Part → List ℕ
part_serials parts = map (λ (s : Part). s.stream.serial) parts

-- these pages of each part are its own
abbrev EachOwn : (Part → List Page) → List Part → Type 0
EachOwn pages parts = AllByRecursion (λ (s : Part). Own s.stream.serial (pages s)) parts

with_none : (pages : Part → List Page) (serial : ℕ) (parts : List Part) → EachOwn pages parts → AllByRecursion (λ y. nat_eq serial y ≡ false) (part_serials parts) →
    pages_with serial (flat_map pages parts) ≡ []
with_none pages serial [] own h = refl
with_none pages serial (part ∷ parts) own h =
    filter-append (λ (p : Page). nat_eq p.serial serial) (pages part) (flat_map pages parts)
    ∙ ap (λ l. l ++ pages_with serial (flat_map pages parts)) (other_with part.stream.serial serial (pages part) own.0 (λ e. eqb-false serial part.stream.serial h.0 (sym e)))
    ∙ with_none pages serial parts own.1 h.1

with_first : (pages : Part → List Page) (part : Part) (parts : List Part) → EachOwn pages (part ∷ parts) → AllByRecursion (λ y. nat_eq part.stream.serial y ≡ false) (part_serials parts) →
    pages_with part.stream.serial (flat_map pages (part ∷ parts)) ≡ pages part
with_first pages part parts own h =
    filter-append (λ (p : Page). nat_eq p.serial part.stream.serial) (pages part) (flat_map pages parts)
    ∙ ap (λ l. l ++ pages_with part.stream.serial (flat_map pages parts)) (own_with part.stream.serial (pages part) own.0)
    ∙ ap (λ l. pages part ++ l) (with_none pages part.stream.serial parts own.1 h)
    ∙ append-nil (pages part)

with_later : (pages : Part → List Page) (part : Part) (parts : List Part) (serial : ℕ) → Own part.stream.serial (pages part) → (part.stream.serial ≡ serial → ⊥) →
    pages_with serial (flat_map pages (part ∷ parts)) ≡ pages_with serial (flat_map pages parts)
with_later pages part parts serial own ne =
    filter-append (λ (p : Page). nat_eq p.serial serial) (pages part) (flat_map pages parts)
    ∙ ap (λ l. l ++ pages_with serial (flat_map pages parts)) (other_with part.stream.serial serial (pages part) own ne)

-- each part's pages among the pages of all
each_alone : (pages : Part → List Page) (parts : List Part) → EachOwn pages parts → IsDistinct nat_eq (part_serials parts) →
    AllByRecursion (λ (s : Part). pages_with s.stream.serial (flat_map pages parts) ≡ pages s) parts
unfolding IsDistinct
each_alone pages [] own d = tt
each_alone pages (part ∷ parts) own d = (
  with_first pages part parts own d.0,
  all_and (λ (s : Part). nat_eq part.stream.serial s.stream.serial ≡ false) (λ (s : Part). pages_with s.stream.serial (flat_map pages parts) ≡ pages s)
      (λ (s : Part). pages_with s.stream.serial (flat_map pages (part ∷ parts)) ≡ pages s)
      (λ s ne e. with_later pages part parts s.stream.serial own.0 (eqb-false part.stream.serial s.stream.serial ne) ∙ e) parts
      (all_of_map (λ y. nat_eq part.stream.serial y ≡ false) (λ (s : Part). s.stream.serial) parts d.0) (each_alone pages parts own.1 d.1),
)

abbrev pub firsts : List Part → List Page
firsts parts = flat_map first_of parts

abbrev pub laters : List Part → List Page
laters parts = flat_map later_of parts

firsts_own : (parts : List Part) → AllByRecursion IsPart parts → EachOwn first_of parts
firsts_own parts good = all_weaker IsPart (λ (s : Part). Own s.stream.serial (first_of s)) (λ s h. first_own s.stream h.good) parts good

laters_own : (parts : List Part) → AllByRecursion IsPart parts → EachOwn later_of parts
laters_own parts good = all_weaker IsPart (λ (s : Part). Own s.stream.serial (later_of s)) (λ s h. h.own) parts good

all_fit : (parts : List Part) → AllByRecursion IsPart parts → IsDistinct nat_eq (part_serials parts) → (serial : ℕ) →
    FlagsFit (pages_with serial (firsts parts) ++ pages_with serial (laters parts))
unfolding IsDistinct
all_fit [] good d serial = tt
all_fit (part ∷ parts) good d serial =
    elim (cases_eq part.stream.serial serial) [
      | inl same ↦
          subst (λ (s : ℕ). FlagsFit (pages_with s (firsts (part ∷ parts)) ++ pages_with s (laters (part ∷ parts)))) same
          (subst FlagsFit
          (sym (ap (λ (l : List Page). l ++ pages_with part.stream.serial (laters (part ∷ parts))) (with_first first_of part parts (firsts_own (part ∷ parts) good) d.0)
          ∙ ap (λ (l : List Page). first_of part ++ l) (with_first later_of part parts (laters_own (part ∷ parts) good) d.0)))
          (stream_fits part good.0))
      | inr other ↦
          subst FlagsFit
          (sym (ap (λ (l : List Page). l ++ pages_with serial (laters (part ∷ parts))) (with_later first_of part parts serial (first_own part.stream good.0.good) other)
          ∙ ap (λ (l : List Page). pages_with serial (firsts parts) ++ l) (with_later later_of part parts serial good.0.own other)))
          (all_fit parts good.1 d.1 serial)
    ]

-- ---- the link
all_flat : (P : Page → Type 0) (pages : Part → List Page) (parts : List Part) → AllByRecursion (λ (s : Part). AllByRecursion P (pages s)) parts → AllByRecursion P (flat_map pages parts)
all_flat P pages [] h = tt
all_flat P pages (part ∷ parts) h = all_both P (pages part) (flat_map pages parts) h.0 (all_flat P pages parts h.1)

pub firsts_are : (parts : List Part) → AllByRecursion IsPart parts → firsts parts ≡ map page_of parts
firsts_are [] good = refl
firsts_are (part ∷ parts) good =
    ap (λ (l : List Page). l ++ firsts parts) (is_first_page part.stream good.0.good).alone ∙ ap (λ (l : List Page). page_of part ∷ l) (firsts_are parts good.1)

pub all_first : (P : Page → Type 0) → ((s : Part) → P (page_of s)) → (parts : List Part) → AllByRecursion IsPart parts → AllByRecursion P (firsts parts)
all_first P f parts good = subst (AllByRecursion P) (sym (firsts_are parts good)) (each parts)
  where
    each : (ss : List Part) → AllByRecursion P (map page_of ss)
    each [] = tt
    each (s ∷ ss) = (f s, each ss)

pub laters_unmarked : (parts : List Part) → AllByRecursion IsPart parts → Unmarked (laters parts)
laters_unmarked parts good = all_flat (λ (p : Page). is_first p ≡ false) later_of parts (all_weaker IsPart (λ (s : Part). Unmarked (later_of s)) (λ s h. h.unmarked) parts good)

laters_go_on : (parts : List Part) → AllByRecursion IsPart parts → GoOn (laters parts)
laters_go_on parts good = all_flat (λ (p : Page). is_last p ≡ false) later_of parts (all_weaker IsPart (λ (s : Part). GoOn (later_of s)) (λ s h. h.goes_on) parts good)

pub all_go_on : (parts : List Part) → AllByRecursion IsPart parts → GoOn (firsts parts ++ laters parts)
all_go_on parts good =
    all_both (λ (p : Page). is_last p ≡ false) (firsts parts) (laters parts) (all_first (λ (p : Page). is_last p ≡ false) (λ s. not_last s.stream) parts good) (laters_go_on parts good)

pub serials_are : (parts : List Part) → AllByRecursion IsPart parts → serials_of (firsts parts ++ laters parts) ≡ part_serials parts
serials_are parts good =
    serials_same (firsts parts) (laters parts) (laters_unmarked parts good)
    ∙ ap (map (λ (p : Page). p.serial)) (filter_all is_first (firsts parts) (all_first (λ (p : Page). is_first p ≡ true) (λ s. marked_first s.stream) parts good) ∙ firsts_are parts good)
    ∙ each parts
  where
    each : (ss : List Part) → map (λ (p : Page). p.serial) (map page_of ss) ≡ part_serials ss
    each [] = refl
    each (s ∷ ss) = ap (λ n. n ∷ map (λ (p : Page). p.serial) (map page_of ss)) (serial_of s.stream) ∙ ap (λ l. s.stream.serial ∷ l) (each ss)

pub none_ends : (pages : List Page) → pages ≢ [] → GoOn pages → all_ended pages ≡ false
none_ends [] ne h = absurd (ne refl)
none_ends (page ∷ pages) ne h =
    and_left (has_ended (page ∷ pages) page.serial) (list_all (λ (p : Page). has_ended (page ∷ pages) p.serial) pages) (not_ended page.serial (page ∷ pages) h)

all_open : (before pages : List Page) → GoOn before → GoOn pages → OpenBehind before pages
all_open before [] b h = tt
all_open before (page ∷ pages) b h =
    (λ ne. none_ends before ne b, all_open (before ++ page ∷ []) pages (all_both (λ (p : Page). is_last p ≡ false) before (page ∷ []) b (h.0, tt)) h.1)

its_own : (parts : List Part) → AllByRecursion (λ (s : Part). list_any (nat_eq s.stream.serial) (part_serials parts) ≡ true) parts
its_own [] = tt
its_own (part ∷ parts) = (
  or_left (nat_eq part.stream.serial part.stream.serial) (list_any (nat_eq part.stream.serial) (part_serials parts)) (eq-eqb part.stream.serial part.stream.serial refl),
  all_weaker (λ (s : Part). list_any (nat_eq s.stream.serial) (part_serials parts) ≡ true) (λ (s : Part). list_any (nat_eq s.stream.serial) (part_serials (part ∷ parts)) ≡ true)
      (λ s e. or_right (nat_eq s.stream.serial part.stream.serial) (list_any (nat_eq s.stream.serial) (part_serials parts)) e) parts (its_own parts),
)

pub new_link : (parts : List Part) → AllByRecursion IsPart parts → IsDistinct nat_eq (part_serials parts) → 0 < length parts → length parts ≤ 64 → IsLink (firsts parts ++ laters parts)
new_link parts good d some few =
    let link : List Page = firsts parts ++ laters parts in
    let count : length (firsts parts) ≡ length parts = ap length (firsts_are parts good) ∙ length-map parts page_of in
    let same : serials_of link ≡ part_serials parts = serials_are parts good in
    let go_on : GoOn link = all_go_on parts good in
    record {
      first_pages = firsts parts;
      others = laters parts;
      split = refl;
      marked = all_first (λ (p : Page). is_first p ≡ true) (λ s. marked_first s.stream) parts good;
      some = omega arith;
      few = omega arith;
      distinct = subst (λ (l : List ℕ). IsDistinct nat_eq l) (sym same) d;
      unmarked = laters_unmarked parts good;
      known = all_flat (λ (p : Page). has_stream link p.serial ≡ true) later_of parts
          (all_and (λ (s : Part). list_any (nat_eq s.stream.serial) (part_serials parts) ≡ true) IsPart (λ (s : Part). AllByRecursion (λ (p : Page). has_stream link p.serial ≡ true) (later_of s))
          (λ s e h. all_weaker (λ (p : Page). p.serial ≡ s.stream.serial) (λ (p : Page). has_stream link p.serial ≡ true)
          (λ p own. ap (λ (l : List ℕ). list_any (nat_eq p.serial) l) same ∙ ap (λ n. list_any (nat_eq n) (part_serials parts)) own ∙ e) (later_of s) h.own)
          parts (its_own parts) good);
      streams = λ serial. subst FlagsFit (sym (filter-append (λ (p : Page). nat_eq p.serial serial) (firsts parts) (laters parts))) (all_fit parts good d serial);
      one = all_open [] link tt go_on;
    }

-- a part's pages in the link
pub its_pages : (parts : List Part) → AllByRecursion IsPart parts → IsDistinct nat_eq (part_serials parts) →
    AllByRecursion (λ (s : Part). pages_with s.stream.serial (firsts parts ++ laters parts) ≡ first_of s ++ later_of s) parts
its_pages parts good d =
    all_and (λ (s : Part). pages_with s.stream.serial (firsts parts) ≡ first_of s) (λ (s : Part). pages_with s.stream.serial (laters parts) ≡ later_of s)
    (λ (s : Part). pages_with s.stream.serial (firsts parts ++ laters parts) ≡ first_of s ++ later_of s)
    (λ s f l. filter-append (λ (p : Page). nat_eq p.serial s.stream.serial) (firsts parts) (laters parts)
    ∙ ap (λ (x : List Page). x ++ pages_with s.stream.serial (laters parts)) f ∙ ap (λ (x : List Page). first_of s ++ x) l)
    parts (each_alone first_of parts (firsts_own parts good) d) (each_alone later_of parts (laters_own parts good) d)

zip_maps : {X A B : Type 0} (R : A → B → Type 0) (f : X → A) (g : X → B) (xs : List X) → AllByRecursion (λ x. R (f x) (g x)) xs → AllZip R (map f xs) (map g xs)
zip_maps R f g [] h = tt
zip_maps R f g (x ∷ xs) h = (h.0, zip_maps R f g xs h.1)

pub new_holds : (parts : List Part) → AllByRecursion IsPart parts → IsDistinct nat_eq (part_serials parts) → HoldsLink (firsts parts ++ laters parts) (map begun_of parts)
new_holds parts good d =
    let link : List Page = firsts parts ++ laters parts in
    let go_on : GoOn link = all_go_on parts good in
    let each : AllByRecursion (λ (s : Part). HoldsStream link s.stream.serial (begun_of s)) parts =
    all_and IsPart (λ (s : Part). pages_with s.stream.serial link ≡ first_of s ++ later_of s)
    (λ (s : Part). HoldsStream link s.stream.serial (begun_of s))
    (λ s h own. record {
      serial_is = refl;
      packets = subst (λ (l : List Page). HoldsPackets l s.stream.headers 0 []) (sym own) (stream_held s h);
      ended = sym (not_ended s.stream.serial link go_on);
    })
    parts good (its_pages parts good d) in
    subst (λ (l : List ℕ). AllZip (HoldsStream link) l (map begun_of parts)) (sym (serials_are parts good))
    (zip_maps (HoldsStream link) (λ (s : Part). s.stream.serial) begun_of parts each)
