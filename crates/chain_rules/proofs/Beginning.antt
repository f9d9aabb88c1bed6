-- The streams of a new link: the first page of each, and what the rules say of them.
use Rattle.std.proofs.Common.{◌≡◌, ℕ, ◌+◌, ◌/◌, ◌%◌, ◌<◌, ◌≤◌, ◌^◌, Bool, true, false, List, [], ◌∷◌, ◌++◌, length, map, take, drop, replicate, refl, sym, ◌∙◌, ap, subst, arith, length-append}
use Rattle.std.specs.Prelude.{nat_eq}
use Rattle.std.specs.List.{AllByRecursion, IsDistinct, list_any, flat_map}
use Rattle.std.proofs.lemmas.List.{append-nil, take_all, take-append-drop, length-replicate}
use Rattle.std.proofs.lemmas.Bool.{ne_eqb, eqb-false, or_parts, ltb-false}
use Rattle.ogg_page.specs.Page.{Page, IsPage, IsByte}
use Rattle.ogg_page.specs.Lacing.{lace, lacing_of}
use Rattle.ogg_page.specs.LogicalStream.{HoldsPackets, FitsBehind, joined_lacing, joined_bodies, is_first, is_last, is_continued}
use Rattle.packetiser.specs.Run.{Timed, IsTimed, flagged, counted, pages_of_run, page_of_run, pages_for, run_lacing, values_at, values_before}
use Rattle.packetiser.specs.Laws.Pieces.{run_is_held, run_pages}
use Rattle.packetiser.specs.Laws.Ranges.{run_is_pages}
use Rattle.ogg_command.specs.declared.command.NewStream.{NewStream}
use Rattle.link_chain.specs.ChainState.{ChainState}
use Rattle.chain_rules.specs.Encoding.{first_flag, header, first_pages, header_pages}
use Rattle.chain_rules.specs.Limits.{longest_first}
use Rattle.chain_rules.specs.Decision.{is_long, streams_rules}
use Rattle.ogg_command.specs.Command.{IsNewStream}
use Rattle.link_chain.specs.Laws.Grow.{all_weaker, Own}
use Rattle.chain_rules.proofs.Unbroken.{Unbroken}
use Rattle.link_chain.specs.Laws.LastLink.{all_split}
use Rattle.chain_rules.proofs.RunState.{run_own as plain_own}
use Rattle.ogg_page.specs.Laws.PageBytes.{all_both}
use Rattle.ogg_page.specs.StreamLaws.{false_is_not_true}

-- ---- the first page of a stream
-- a stream with headers, the first of which lies whole in one page
pub record IsGood (stream : NewStream) : Type 0 where
  pub some : nat_eq (length stream.headers) 0 ≡ false
  pub short : list_any (is_long longest_first) (take 1 stream.headers) ≡ false

abbrev pub first_run : NewStream → List Timed
first_run stream = map header (take 1 stream.headers)

abbrev pub first_page : NewStream → Page
first_page stream =
    record (page_of_run stream.serial 0 (first_run stream) 0) { flags = (page_of_run stream.serial 0 (first_run stream) 0).flags + first_flag }

short_lacing : (packet : List ℕ) → is_long longest_first packet ≡ false → (1 ≤ length (lace packet)) × (length (lace packet) ≤ 255)
unfolding lacing_of
short_lacing packet e =
    let size : length packet ≤ 65024 = ltb-false 65024 (length packet) e in
    let values : length (replicate (length packet / 255) 255 ++ length packet % 255 ∷ []) ≡ length packet / 255 + 1 =
    length-append (replicate (length packet / 255) 255) (length packet % 255 ∷ []) ∙ ap (λ n. n + 1) (length-replicate (length packet / 255) 255) in
    (omega arith, omega arith)

one_lacing : (packet : List ℕ) (position : ℕ) → run_lacing (record { position = position; packet = packet } ∷ []) ≡ lace packet
unfolding run_lacing
one_lacing packet position = append-nil (lace packet)

pub one_page : (serial first : ℕ) (run : List Timed) → pages_for (length (run_lacing run)) ≡ 1 → pages_of_run serial first run ≡ page_of_run serial first run 0 ∷ []
unfolding pages_of_run
one_page serial first run e = ap (λ n. map (page_of_run serial first run) (counted 0 n)) e

-- what the first page is like
pub record IsFirstPage (stream : NewStream) : Type 0 where
  pub alone : first_pages stream ≡ first_page stream ∷ []
  pub lacing : (packet : List ℕ) × ((first_page stream).lacing ≡ lace packet)

first_lacing : (serial first : ℕ) (run : List Timed) (values : List ℕ) → run_lacing run ≡ values → length values ≤ 255 → (page_of_run serial first run 0).lacing ≡ values
unfolding page_of_run values_at
first_lacing serial first run values e few = ap (λ l. take 255 l) e ∙ take_all 255 values few

pub is_first_page : (stream : NewStream) → IsGood stream → IsFirstPage stream
is_first_page stream good = at stream.headers refl good.some good.short
  where
    at : (headers : List (List ℕ)) → stream.headers ≡ headers → nat_eq (length headers) 0 ≡ false → list_any (is_long longest_first) (take 1 headers) ≡ false → IsFirstPage stream
    at [] e some short = cc
    at (packet ∷ headers) e some short =
        let run : List Timed = header packet ∷ [] in
        let same : first_run stream ≡ run = ap (λ (hs : List (List ℕ)). map header (take 1 hs)) e in
        let small : (1 ≤ length (lace packet)) × (length (lace packet) ≤ 255) =
        short_lacing packet (or_parts (is_long longest_first packet) false short).0 in
        let values : run_lacing (first_run stream) ≡ lace packet = ap run_lacing same ∙ one_lacing packet 0 in
        let count : pages_for (length (run_lacing (first_run stream))) ≡ 1 = ap (λ l. pages_for (length l)) values ∙ omega arith in
        record {
          alone = ap (flagged first_flag) (one_page stream.serial 0 (first_run stream) count);
          lacing = (packet, first_lacing stream.serial 0 (first_run stream) (lace packet) values small.1);
        }

flags_of : (stream : NewStream) → (first_page stream).flags ≡ 2
unfolding page_of_run values_before
flags_of stream = refl

pub serial_of : (stream : NewStream) → (first_page stream).serial ≡ stream.serial
unfolding page_of_run
serial_of stream = refl

pub number_of_first : (stream : NewStream) → (first_page stream).sequence ≡ 0
unfolding page_of_run
number_of_first stream = refl

pub marked_first : (stream : NewStream) → is_first (first_page stream) ≡ true
marked_first stream = ap (λ n. nat_eq (n / 2 % 2) 1) (flags_of stream)

pub not_last : (stream : NewStream) → is_last (first_page stream) ≡ false
not_last stream = ap (λ n. nat_eq (n / 4 % 2) 1) (flags_of stream)

not_continued : (stream : NewStream) → is_continued (first_page stream) ≡ false
not_continued stream = ap (λ n. nat_eq (n % 2) 1) (flags_of stream)

pub first_fits : (stream : NewStream) → IsGood stream → FitsBehind [] (first_page stream)
first_fits stream good = record {
  continued = not_continued stream;
  sequence = λ ne. absurd (ne refl);
  first = (λ _. refl, λ _. marked_first stream);
  first_packet = λ _. (is_first_page stream good).lacing;
  last = refl;
  last_packet = λ e. false_is_not_true (is_last (first_page stream)) (not_last stream) e;
}

-- the pages with further flags hold the same
flagged_lacing : (flags : ℕ) (pages : List Page) → joined_lacing (flagged flags pages) ≡ joined_lacing pages
flagged_lacing flags [] = refl
flagged_lacing flags (page ∷ pages) = refl

flagged_bodies : (flags : ℕ) (pages : List Page) → joined_bodies (flagged flags pages) ≡ joined_bodies pages
flagged_bodies flags [] = refl
flagged_bodies flags (page ∷ pages) = refl

packets_of_headers : (packets : List (List ℕ)) → map (λ (t : Timed). t.packet) (map header packets) ≡ packets
packets_of_headers [] = refl
packets_of_headers (packet ∷ packets) = ap (λ l. packet ∷ l) (packets_of_headers packets)

pub first_held : (stream : NewStream) → HoldsPackets (first_pages stream) (take 1 stream.headers) 0 []
first_held stream =
    let held : HoldsPackets (pages_of_run stream.serial 0 (first_run stream)) (map (λ (t : Timed). t.packet) (first_run stream)) 0 [] = run_is_held stream.serial 0 (first_run stream) in
    let flagged_held : HoldsPackets (first_pages stream) (map (λ (t : Timed). t.packet) (first_run stream)) 0 [] = record {
      lacing = flagged_lacing first_flag (pages_of_run stream.serial 0 (first_run stream)) ∙ held.lacing;
      bodies = flagged_bodies first_flag (pages_of_run stream.serial 0 (first_run stream)) ∙ held.bodies;
      rest_size = refl;
    } in
    subst (λ (ps : List (List ℕ)). HoldsPackets (first_pages stream) ps 0 []) (packets_of_headers (take 1 stream.headers)) flagged_held

pub headers_held : (stream : NewStream) → HoldsPackets (header_pages stream) (drop 1 stream.headers) 0 []
headers_held stream =
    subst (λ (ps : List (List ℕ)). HoldsPackets (header_pages stream) ps 0 []) (packets_of_headers (drop 1 stream.headers))
    (run_is_held stream.serial 1 (map header (drop 1 stream.headers)))

-- ---- pages of several streams
pub first_own : (stream : NewStream) → IsGood stream → Own stream.serial (first_pages stream)
first_own stream good = subst (λ (l : List Page). Own stream.serial l) (sym (is_first_page stream good).alone) (serial_of stream, tt)

pub headers_own : (stream : NewStream) → Own stream.serial (header_pages stream)
headers_own stream = plain_own stream.serial 1 (map header (drop 1 stream.headers))

pub all_and : {X : Type 0} (P Q R : X → Type 0) → ((x : X) → P x → Q x → R x) → (xs : List X) → AllByRecursion P xs → AllByRecursion Q xs → AllByRecursion R xs
all_and P Q R f [] a b = tt
all_and P Q R f (x ∷ xs) a b = (f x a.0 b.0, all_and P Q R f xs a.1 b.1)

pub all_of_map : {X Y : Type 0} (P : Y → Type 0) (f : X → Y) (xs : List X) → AllByRecursion P (map f xs) → AllByRecursion (λ x. P (f x)) xs
all_of_map P f [] h = tt
all_of_map P f (x ∷ xs) h = (h.0, all_of_map P f xs h.1)

pub all_to_map : {X Y : Type 0} (P : Y → Type 0) (f : X → Y) (xs : List X) → AllByRecursion (λ x. P (f x)) xs → AllByRecursion P (map f xs)
all_to_map P f [] h = tt
all_to_map P f (x ∷ xs) h = (h.0, all_to_map P f xs h.1)

abbrev pub serials : List NewStream → List ℕ
serials streams = map (λ (s : NewStream). s.serial) streams

-- ---- what the rules say
pub fresh : (chain : ChainState) (described : Bool) (earlier : List ℕ) (streams : List NewStream) → Unbroken (streams_rules chain described earlier streams) →
    AllByRecursion (λ (s : NewStream). list_any (nat_eq s.serial) earlier ≡ false) streams
fresh chain described earlier [] h = tt
fresh chain described earlier (stream ∷ streams) h = (
  (or_parts (list_any (nat_eq stream.serial) chain.serials) (list_any (nat_eq stream.serial) earlier) h.0).1,
  all_weaker (λ (s : NewStream). list_any (nat_eq s.serial) (stream.serial ∷ earlier) ≡ false) (λ (s : NewStream). list_any (nat_eq s.serial) earlier ≡ false)
      (λ s e. (or_parts (nat_eq s.serial stream.serial) (list_any (nat_eq s.serial) earlier) e).1) streams
      (fresh chain described (stream.serial ∷ earlier) streams h.1.1.1.1.1.1),
)

pub are_distinct : (chain : ChainState) (described : Bool) (earlier : List ℕ) (streams : List NewStream) → Unbroken (streams_rules chain described earlier streams) → IsDistinct nat_eq (serials streams)
unfolding IsDistinct
are_distinct chain described earlier [] h = tt
are_distinct chain described earlier (stream ∷ streams) h = (
  all_to_map (λ y. nat_eq stream.serial y ≡ false) (λ (s : NewStream). s.serial) streams
      (all_weaker (λ (s : NewStream). list_any (nat_eq s.serial) (stream.serial ∷ earlier) ≡ false) (λ (s : NewStream). nat_eq stream.serial s.serial ≡ false)
      (λ s e. ne_eqb stream.serial s.serial (λ f. eqb-false s.serial stream.serial (or_parts (nat_eq s.serial stream.serial) (list_any (nat_eq s.serial) earlier) e).0 (sym f)))
      streams (fresh chain described (stream.serial ∷ earlier) streams h.1.1.1.1.1.1)),
  are_distinct chain described (stream.serial ∷ earlier) streams h.1.1.1.1.1.1,
)

pub are_good : (chain : ChainState) (described : Bool) (earlier : List ℕ) (streams : List NewStream) → Unbroken (streams_rules chain described earlier streams) → AllByRecursion IsGood streams
are_good chain described earlier [] h = tt
are_good chain described earlier (stream ∷ streams) h =
    (record { some = h.1.0; short = h.1.1.0 }, are_good chain described (stream.serial ∷ earlier) streams h.1.1.1.1.1.1)

-- ---- the pages are pages
pub headers_timed : (packets : List (List ℕ)) → AllByRecursion (AllByRecursion IsByte) packets → AllByRecursion IsTimed (map header packets)
headers_timed [] h = tt
headers_timed (packet ∷ packets) h = (record { position = omega arith; packet = h.0 }, headers_timed packets h.1)

front_of : {X : Type 0} (P : X → Type 0) (n : ℕ) (xs : List X) → AllByRecursion P xs → AllByRecursion P (take n xs) × AllByRecursion P (drop n xs)
front_of P n xs h = all_split P (take n xs) (drop n xs) (subst (AllByRecursion P) (sym (take-append-drop n xs)) h)

pub first_is_page : (stream : NewStream) → IsGood stream → stream.serial < 2 ^ 32 → AllByRecursion (AllByRecursion IsByte) (take 1 stream.headers) → IsPage (first_page stream)
first_is_page stream good small bytes =
    let run : List Timed = first_run stream in
    let values : pages_of_run stream.serial 0 run ≡ page_of_run stream.serial 0 run 0 ∷ [] = one_page stream.serial 0 run (count (is_first_page stream good)) in
    let inner : AllByRecursion IsPage (page_of_run stream.serial 0 run 0 ∷ []) =
    subst (AllByRecursion IsPage) values
    (run_is_pages stream.serial 0 run small (headers_timed (take 1 stream.headers) bytes)
    (subst (AllByRecursion (λ (p : Page). p.sequence < 2 ^ 32)) (sym values) (subst (λ n. n < 2 ^ 32) (sym (number_of_first stream)) (omega arith), tt))) in
    record {
      flags = subst (λ n. n < 256) (sym (flags_of stream)) (omega arith);
      position = inner.0.position;
      serial = inner.0.serial;
      sequence = inner.0.sequence;
      values = inner.0.values;
      lacing = inner.0.lacing;
      body = inner.0.body;
      whole = inner.0.whole;
    }
  where
    flagged_length : (flags : ℕ) (pages : List Page) → length (flagged flags pages) ≡ length pages
    flagged_length flags [] = refl
    flagged_length flags (page ∷ pages) = refl

    count : IsFirstPage stream → pages_for (length (run_lacing (first_run stream))) ≡ 1
    count f = sym (run_pages stream.serial 0 (first_run stream)) ∙ sym (flagged_length first_flag (pages_of_run stream.serial 0 (first_run stream))) ∙ ap length f.alone

each_flat : (pages : NewStream → List Page) (streams : List NewStream) → AllByRecursion (λ (s : NewStream). AllByRecursion IsPage (pages s)) streams → AllByRecursion IsPage (flat_map pages streams)
each_flat pages [] h = tt
each_flat pages (stream ∷ streams) h = all_both IsPage (pages stream) (flat_map pages streams) h.0 (each_flat pages streams h.1)

pub firsts_pages : (streams : List NewStream) → AllByRecursion IsGood streams → AllByRecursion IsNewStream streams → AllByRecursion IsPage (flat_map first_pages streams)
firsts_pages streams good new =
    each_flat first_pages streams
    (all_and IsGood IsNewStream (λ (s : NewStream). AllByRecursion IsPage (first_pages s))
    (λ s g n. subst (AllByRecursion IsPage) (sym (is_first_page s g).alone) (first_is_page s g n.serial (front_of (AllByRecursion IsByte) 1 s.headers n.headers).0, tt)) streams good new)

pub laters_pages : (streams : List NewStream) → AllByRecursion IsNewStream streams → AllByRecursion (λ (p : Page). p.sequence < 2 ^ 32) (flat_map header_pages streams) → AllByRecursion IsPage (flat_map header_pages streams)
laters_pages [] new numbers = tt
laters_pages (stream ∷ streams) new numbers =
    let both : AllByRecursion (λ (p : Page). p.sequence < 2 ^ 32) (header_pages stream) × AllByRecursion (λ (p : Page). p.sequence < 2 ^ 32) (flat_map header_pages streams) =
    all_split (λ (p : Page). p.sequence < 2 ^ 32) (header_pages stream) (flat_map header_pages streams) numbers in
    all_both IsPage (header_pages stream) (flat_map header_pages streams)
    (run_is_pages stream.serial 1 (map header (drop 1 stream.headers)) new.0.serial
    (headers_timed (drop 1 stream.headers) (front_of (AllByRecursion IsByte) 1 stream.headers new.0.headers).1) both.0)
    (laters_pages streams new.1 both.1)
