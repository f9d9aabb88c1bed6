-- Links that leave no packet unfinished hold a recording.
use Rattle.std.proofs.Common.{◌≡◌, ◌≢◌, ℕ, zero, suc, ◌+◌, ◌*◌, ◌/◌, ◌%◌, ◌<◌, Bool, true, false, not, cond, List, [], ◌∷◌, ◌++◌, length, take, drop, map, sum, replicate, refl, sym, ◌∙◌, ap, subst, arith, append_assoc, length-append, take-append-drop, length-drop, Option, None, Some}
use Rattle.std.specs.Prelude.{nat_eq, ◌||◌}
use Rattle.std.specs.List.{AllByRecursion, AllZip, flat_map, concat, find, list_any}
use Rattle.std.specs.Option.{option_map}
use Rattle.std.proofs.lemmas.List.{append-nil, length-take-le}
use Rattle.std.proofs.lemmas.List.Sums.{sum_by-cons, sum_by-append}
use Rattle.std.proofs.lemmas.Bool.{eqb-true, eq-eqb, false≢true}
use Rattle.ogg_page.specs.Page.{Page, IsPage, IsByte}
use Rattle.ogg_page.specs.Lacing.{lace, lacing_of, ends_open}
use Rattle.ogg_page.specs.LogicalStream.{joined_lacing, joined_bodies, is_first}
use Rattle.ogg_page.specs.StreamLaws.{ends_open-at, ends_open-append, last_closes, ends_open-laces}
use Rattle.link_chain.specs.declared.stream_state.StreamState.{StreamState}
use Rattle.link_chain.specs.Links.{IsLink, AreLinks, AllButLast, pages_with, serials_of, has_ended, all_ended}
use Rattle.link_chain.specs.Recording.{Stream, Recording, HoldsStream, HoldsLink, HoldsLinks}
use Rattle.link_chain.specs.ChainState.{chain_state_of, state_of, last_link}
use Rattle.link_chain.specs.Taking.{unfinished_stream}
use Rattle.link_chain.specs.Laws.Grow.{all_filter}
use Rattle.link_chain.specs.Laws.LastLink.{some_open}

-- ---- lacing values as packets

-- these whole packets, and then whole segments of one that goes on
record Packets (values bytes : List ℕ) : Type 0 where
  pub packets : List (List ℕ)
  pub segments : ℕ
  pub rest : List ℕ
  pub lacing : values ≡ flat_map lace packets ++ replicate segments 255
  pub bodies : bytes ≡ concat packets ++ rest
  pub rest_size : length rest ≡ 255 * segments

pub one_more_full : (n : ℕ) (values : List ℕ) → replicate n 255 ++ 255 ∷ values ≡ replicate (suc n) 255 ++ values
one_more_full zero values = refl
one_more_full (suc n) values = ap (λ l. 255 ∷ l) (one_more_full n values)

pub lace_is : (packet : List ℕ) (segments value : ℕ) → value < 255 → length packet ≡ 255 * segments + value → lace packet ≡ replicate segments 255 ++ value ∷ []
unfolding lacing_of
lace_is packet segments value small e =
    let whole : length packet / 255 ≡ segments = omega arith in
    let last : length packet % 255 ≡ value = omega arith in
    ap (λ n. replicate n 255 ++ length packet % 255 ∷ []) whole ∙ ap (λ n. replicate segments 255 ++ n ∷ []) last

not_equal : (m n : ℕ) → nat_eq m n ≡ false → m ≢ n
not_equal m n e is = false≢true (sym e ∙ eq-eqb m n is)

one_packet : (segments value : ℕ) (values packet rest bytes : List ℕ) → lace packet ≡ replicate segments 255 ++ value ∷ [] → bytes ≡ packet ++ rest → Packets values rest →
    Packets (replicate segments 255 ++ value ∷ values) bytes
one_packet segments value values packet rest bytes laced split p = record {
  packets = packet ∷ p.packets;
  segments = p.segments;
  rest = p.rest;
  lacing =
      ap (λ l. replicate segments 255 ++ value ∷ l) p.lacing
      ∙ sym (append_assoc (replicate segments 255) (value ∷ []) (flat_map lace p.packets ++ replicate p.segments 255))
      ∙ ap (λ l. l ++ (flat_map lace p.packets ++ replicate p.segments 255)) (sym laced)
      ∙ sym (append_assoc (lace packet) (flat_map lace p.packets) (replicate p.segments 255));
  bodies = split ∙ ap (λ l. packet ++ l) p.bodies ∙ sym (append_assoc packet (concat p.packets) p.rest);
  rest_size = p.rest_size;
}

-- after this number of values of 255
packets_behind : (values : List ℕ) (segments : ℕ) (bytes : List ℕ) → AllByRecursion IsByte values → 255 * segments + sum values ≡ length bytes → Packets (replicate segments 255 ++ values) bytes
packets_behind [] segments bytes all e = record {
  packets = [];
  segments = segments;
  rest = bytes;
  lacing = append-nil (replicate segments 255);
  bodies = refl;
  rest_size = omega (arith, e);
}
packets_behind (value ∷ values) segments bytes all e = by_cases (nat_eq value 255) refl
    (λ full. packets_behind values (suc segments) bytes all.1 (omega (arith, e, sum_by-cons (λ x. x) value values, full)))
    (λ few. packets_behind values 0 (drop (255 * segments + value) bytes) all.1 (omega (arith, e, few, sum_by-cons (λ x. x) value values, length-drop (255 * segments + value) bytes)))
  where
    by_cases : (t : Bool) → nat_eq value 255 ≡ t → (value ≡ 255 → Packets (replicate (suc segments) 255 ++ values) bytes) →
        (value < 255 → Packets values (drop (255 * segments + value) bytes)) → Packets (replicate segments 255 ++ value ∷ values) bytes
    by_cases true t goes_on ends =
        let full : value ≡ 255 = eqb-true value 255 t in
        subst (λ (l : List ℕ). Packets l bytes) (sym (ap (λ v. replicate segments 255 ++ v ∷ values) full ∙ one_more_full segments values)) (goes_on full)
    by_cases false t goes_on ends =
        let small : value < 255 = omega (arith, all.0, not_equal value 255 t) in
        let packet : List ℕ = take (255 * segments + value) bytes in
        let size : length packet ≡ 255 * segments + value = length-take-le (255 * segments + value) bytes (omega (arith, e, sum_by-cons (λ x. x) value values)) in
        one_packet segments value values packet (drop (255 * segments + value) bytes) bytes (lace_is packet segments value small size)
        (sym (take-append-drop (255 * segments + value) bytes)) (ends small)

-- if the last value ends its packet, no segment is left
pub no_segment : (packets : List (List ℕ)) (segments : ℕ) → ends_open (flat_map lace packets ++ replicate segments 255) ≡ false → segments ≡ 0
no_segment packets zero closed = refl
no_segment packets (suc n) closed =
    let open_is : ends_open (flat_map lace packets ++ replicate (suc n) 255) ≡ true =
    ends_open-append (flat_map lace packets) (replicate (suc n) 255) (ends_open-laces packets)
    ∙ ap ends_open (sym (one_more_full n [] ∙ append-nil (replicate (suc n) 255)))
    ∙ ends_open-at (replicate n 255) 255 [] in
    absurd (false≢true (sym closed ∙ open_is))

-- ---- the pages of a stream

values_of_pages : (pages : List Page) → AllByRecursion IsPage pages → AllByRecursion IsByte (joined_lacing pages) × (sum (joined_lacing pages) ≡ length (joined_bodies pages))
values_of_pages [] all = (tt, refl)
values_of_pages (page ∷ pages) all =
    let rest : AllByRecursion IsByte (joined_lacing pages) × (sum (joined_lacing pages) ≡ length (joined_bodies pages)) = values_of_pages pages all.1 in (
      both page.lacing (joined_lacing pages) all.0.lacing rest.0,
      sum_by-append (λ x. x) page.lacing (joined_lacing pages) ∙ omega (arith, all.0.whole, rest.1, length-append page.body (joined_bodies pages)),
    )
  where
    both : (xs ys : List ℕ) → AllByRecursion IsByte xs → AllByRecursion IsByte ys → AllByRecursion IsByte (xs ++ ys)
    both [] ys a b = b
    both (x ∷ xs) ys a b = (a.0, both xs ys a.1 b)

abbrev pub IsClosed : List Page → ℕ → Type 0
IsClosed pages serial = ends_open (joined_lacing (pages_with serial pages)) ≡ false

held_stream : (pages : List Page) (serial : ℕ) → AllByRecursion IsPage pages → IsClosed pages serial → (stream : Stream) × HoldsStream pages serial stream
held_stream pages serial all closed =
    let own : List Page = pages_with serial pages in
    let numbers : AllByRecursion IsByte (joined_lacing own) × (sum (joined_lacing own) ≡ length (joined_bodies own)) =
    values_of_pages own (all_filter IsPage (λ (page : Page). nat_eq page.serial serial) pages all) in
    let p : Packets (joined_lacing own) (joined_bodies own) = packets_behind (joined_lacing own) 0 (joined_bodies own) numbers.0 (omega (arith, numbers.1)) in
    let none : p.segments ≡ 0 = no_segment p.packets p.segments (sym (ap ends_open p.lacing) ∙ closed) in
    let nothing : p.rest ≡ [] = empty p.rest (omega (arith, p.rest_size, none)) in (
      record { serial = serial; packets = p.packets; ended = has_ended pages serial },
      record {
        serial_is = refl;
        packets = record {
          lacing = p.lacing ∙ ap (λ n. flat_map lace p.packets ++ replicate n 255) none;
          bodies = p.bodies ∙ ap (λ l. concat p.packets ++ l) nothing;
          rest_size = refl;
        };
        ended = refl;
      },
    )
  where
    empty : (xs : List ℕ) → length xs ≡ 0 → xs ≡ []
    empty [] e = refl
    empty (x ∷ xs) e = absurd (omega (arith, e))

held_streams : (pages : List Page) (serials : List ℕ) → AllByRecursion IsPage pages → AllByRecursion (IsClosed pages) serials → (streams : List Stream) × AllZip (HoldsStream pages) serials streams
held_streams pages [] all closed = ([], tt)
held_streams pages (serial ∷ serials) all closed =
    let one : (stream : Stream) × HoldsStream pages serial stream = held_stream pages serial all closed.0 in
    let rest : (streams : List Stream) × AllZip (HoldsStream pages) serials streams = held_streams pages serials all closed.1 in
    (one.0 ∷ rest.0, (one.1, rest.1))

-- ---- a stream that has ended
-- each stream of a link in which all have ended is closed
pub closed_by_end : (pages : List Page) (serials : List ℕ) → IsLink pages → list_any (λ serial. not (has_ended pages serial)) serials ≡ false → AllByRecursion (IsClosed pages) serials
closed_by_end pages [] link e = tt
closed_by_end pages (serial ∷ serials) link e = by_cases (has_ended pages serial) refl (closed_by_end pages serials link)
  where
    by_cases : (t : Bool) → has_ended pages serial ≡ t → (list_any (λ s. not (has_ended pages s)) serials ≡ false → AllByRecursion (IsClosed pages) serials) →
        AllByRecursion (IsClosed pages) (serial ∷ serials)
    by_cases true t rest = (
      last_closes [] (pages_with serial pages) (link.streams serial) refl t,
      rest (sym (ap (λ b. not b || list_any (λ s. not (has_ended pages s)) serials) t) ∙ e),
    )
    by_cases false t rest = absurd (false≢true (sym e ∙ ap (λ b. not b || list_any (λ s. not (has_ended pages s)) serials) t))

pub none_open : (pages : List Page) → all_ended pages ≡ true → list_any (λ serial. not (has_ended pages serial)) (serials_of pages) ≡ false
none_open pages e = by_cases (list_any (λ serial. not (has_ended pages serial)) (serials_of pages)) refl
  where
    by_cases : (t : Bool) → list_any (λ serial. not (has_ended pages serial)) (serials_of pages) ≡ t → t ≡ false
    by_cases true t = absurd (false≢true (sym (some_open (has_ended pages) is_first pages t) ∙ e))
    by_cases false t = refl

-- ---- the last link

-- each of its streams is closed if none is unfinished
closed_by_state : (pages : List Page) (serials : List ℕ) → option_map (λ (stream : StreamState). stream.serial) (find (λ (stream : StreamState). not stream.finished) (map (state_of pages) serials)) ≡ None →
    AllByRecursion (IsClosed pages) serials
closed_by_state pages [] e = tt
closed_by_state pages (serial ∷ serials) e = by_cases (ends_open (joined_lacing (pages_with serial pages))) refl (closed_by_state pages serials)
  where
    found : Bool → Option StreamState
    found open_is = cond (not (not open_is)) (Some (state_of pages serial)) (find (λ (stream : StreamState). not stream.finished) (map (state_of pages) serials))

    by_cases : (t : Bool) → ends_open (joined_lacing (pages_with serial pages)) ≡ t →
        (option_map (λ (stream : StreamState). stream.serial) (find (λ (stream : StreamState). not stream.finished) (map (state_of pages) serials)) ≡ None → AllByRecursion (IsClosed pages) serials) →
        AllByRecursion (IsClosed pages) (serial ∷ serials)
    by_cases true t rest =
        let none : option_map (λ (stream : StreamState). stream.serial) (found true) ≡ None = sym (ap (λ b. option_map (λ (stream : StreamState). stream.serial) (found b)) t) ∙ e in
        absurd (cc)
    by_cases false t rest = (t, rest (sym (ap (λ b. option_map (λ (stream : StreamState). stream.serial) (found b)) t) ∙ e))

held_links : (links : List (List Page)) → AllByRecursion (AllByRecursion IsPage) links → AllByRecursion IsLink links → AllButLast (λ link. all_ended link ≡ true) links →
    AllByRecursion (IsClosed (last_link links)) (serials_of (last_link links)) → (recording : Recording) × HoldsLinks links recording
held_links [] pages each ended closed = ([], tt)
held_links (link ∷ []) pages each ended closed =
    let streams : (streams : List Stream) × HoldsLink link streams = held_streams link (serials_of link) pages.0 closed in
    (streams.0 ∷ [], (streams.1, tt))
held_links (link ∷ next ∷ links) pages each ended closed =
    let streams : (streams : List Stream) × HoldsLink link streams =
    held_streams link (serials_of link) pages.0 (closed_by_end link (serials_of link) each.0 (none_open link ended.0)) in
    let rest : (recording : Recording) × HoldsLinks (next ∷ links) recording = held_links (next ∷ links) pages.1 each.1 ended.1 closed in
    (streams.0 ∷ rest.0, (streams.1, rest.1))

pub left_whole : (bytes : List ℕ) (links : List (List Page)) → AreLinks bytes links → unfinished_stream (chain_state_of links) ≡ None → (recording : Recording) × HoldsLinks links recording
left_whole bytes links are none =
    held_links links are.pages are.each are.ended (closed_by_state (last_link links) (serials_of (last_link links)) none)
