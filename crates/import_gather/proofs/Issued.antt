-- What commands add to a recording whose last link has these streams.
use Rattle.std.proofs.Common.{◌≡◌, ℕ, Bool, true, false, cond, List, [], ◌∷◌, ◌++◌, map, refl, sym, ◌∙◌, ap, append_assoc, append-nil, inl, inr, fold}
use Rattle.std.specs.Prelude.{nat_eq, ◌||◌}
use Rattle.std.specs.List.{list_any}
use Rattle.std.proofs.lemmas.Bool.{cases_Bool, cond-true, cond-false}
use Rattle.std.proofs.lemmas.List.Sums.{fold-append}
use Rattle.ogg_page.specs.Page.{Page}
use Rattle.ogg_page.specs.LogicalStream.{is_last}
use Rattle.ogg_command.specs.declared.command.Command.TheVariants.{End as EndOf}
use Rattle.chain_rules.specs.Recording.{Stream, Recording, with_packet, with_end, add, after, begun}
use Rattle.import_commands.specs.Laws.{after_put}
use Rattle.import_commands.specs.Commands.{entry_of, put_of, end_of}
use Rattle.import_gather.specs.Kept.{KeptStream, KeptLink}
use Rattle.import_gather.specs.Giving.{new_stream, link_begin}
use Rattle.std.proofs.Math.Bool.{or-false, or_assoc}
use Rattle.link_chain.specs.Laws.StateBehind.{map-same, map-map}
use Rattle.link_chain.specs.Laws.LastLink.{last_changed}

abbrev pub stream_of : ℕ → List (List ℕ) → Bool → Stream
stream_of serial packets ended = record { serial = serial; packets = packets; ended = ended }

abbrev pub grown : List (List ℕ) → Bool → Stream → Stream
grown packets last stream = stream_of stream.serial (stream.packets ++ packets) (stream.ended || last)

-- the page's stream has these further packets, and ends or not
abbrev pub grows : Page → List (List ℕ) → Bool → Stream → Stream
grows page packets last stream = cond (nat_eq stream.serial page.serial) (grown packets last stream) stream

pub grows_own : (page : Page) (packets : List (List ℕ)) (last : Bool) (stream : Stream) → nat_eq stream.serial page.serial ≡ true → grows page packets last stream ≡ grown packets last stream
grows_own page packets last stream e = cond-true (nat_eq stream.serial page.serial) (grown packets last stream) stream e

pub grows_other : (page : Page) (packets : List (List ℕ)) (last : Bool) (stream : Stream) → nat_eq stream.serial page.serial ≡ false → grows page packets last stream ≡ stream
grows_other page packets last stream e = cond-false (nat_eq stream.serial page.serial) (grown packets last stream) stream e

grows_twice : (page : Page) (ps qs : List (List ℕ)) (a b : Bool) (stream : Stream) → grows page qs b (grows page ps a stream) ≡ grows page (ps ++ qs) (a || b) stream
grows_twice page ps qs a b stream =
    elim (cases_Bool (nat_eq stream.serial page.serial)) [
      | inl own ↦
          ap (grows page qs b) (grows_own page ps a stream own) ∙ grows_own page qs b (grown ps a stream) own
          ∙ ap (λ l. stream_of stream.serial l ((stream.ended || a) || b)) (append_assoc stream.packets ps qs)
          ∙ ap (stream_of stream.serial (stream.packets ++ (ps ++ qs))) (or_assoc stream.ended a b)
          ∙ sym (grows_own page (ps ++ qs) (a || b) stream own)
      | inr other ↦
          ap (grows page qs b) (grows_other page ps a stream other) ∙ grows_other page qs b stream other
          ∙ sym (grows_other page (ps ++ qs) (a || b) stream other)
    ]

grows_nothing : (page : Page) (stream : Stream) → stream ≡ grows page [] false stream
grows_nothing page stream = by_case (nat_eq stream.serial page.serial)
  where
    by_case : (b : Bool) → stream ≡ cond b (grown [] false stream) stream
    by_case true = ap (λ l. stream_of stream.serial l stream.ended) (sym (append-nil stream.packets)) ∙ ap (stream_of stream.serial (stream.packets ++ [])) (sym (or-false stream.ended))
    by_case false = refl

grows_packet : (page : Page) (packet : List ℕ) (stream : Stream) →
    cond (nat_eq stream.serial page.serial) (stream_of stream.serial (stream.packets ++ packet ∷ []) stream.ended) stream ≡ grows page (packet ∷ []) false stream
grows_packet page packet stream =
    ap (λ e. cond (nat_eq stream.serial page.serial) (stream_of stream.serial (stream.packets ++ packet ∷ []) e) stream) (sym (or-false stream.ended))

or_true : (a : Bool) → true ≡ (a || true)
or_true true = refl
or_true false = refl

grows_end : (page : Page) (stream : Stream) → cond (nat_eq stream.serial page.serial) (stream_of stream.serial stream.packets true) stream ≡ grows page [] true stream
grows_end page stream =
    ap (λ l. cond (nat_eq stream.serial page.serial) (stream_of stream.serial l true) stream) (sym (append-nil stream.packets))
    ∙ ap (λ e. cond (nat_eq stream.serial page.serial) (stream_of stream.serial (stream.packets ++ []) e) stream) (or_true stream.ended)

folded : (page : Page) (packets : List (List ℕ)) (streams : List Stream) → fold with_packet streams (map (entry_of page) packets) ≡ map (grows page packets false) streams
folded page [] streams = unchanged streams
  where
    unchanged : (streams : List Stream) → streams ≡ map (grows page [] false) streams
    unchanged [] = refl
    unchanged (s ∷ streams) = ap (λ x. x ∷ streams) (grows_nothing page s) ∙ ap (λ l. grows page [] false s ∷ l) (unchanged streams)
folded page (packet ∷ packets) streams =
    folded page packets (with_packet streams (entry_of page packet))
    ∙ ap (map (grows page packets false)) (map-same _ (grows page (packet ∷ []) false) (grows_packet page packet) streams)
    ∙ map-map (grows page packets false) (grows page (packet ∷ []) false) streams
    ∙ map-same (λ s. grows page packets false (grows page (packet ∷ []) false s)) (grows page (packet ∷ packets) false) (λ s. grows_twice page (packet ∷ []) packets false false s) streams

-- ---- the last link
after_end : (done : Recording) (streams : List Stream) (page : Page) (packets : List (List ℕ)) →
    after (done ++ map (grows page packets false) streams ∷ []) (end_of page) ≡ done ++ map (grows page packets (is_last page)) streams ∷ []
after_end done streams page packets = by_case (is_last page)
  where
    by_case : (b : Bool) → after (done ++ map (grows page packets false) streams ∷ []) (cond b (EndOf page.serial ∷ []) []) ≡ done ++ map (grows page packets b) streams ∷ []
    by_case true =
        last_changed (with_end page.serial) done (map (grows page packets false) streams)
        ∙ ap (λ l. done ++ l ∷ [])
        (map-same _ (grows page [] true) (grows_end page) (map (grows page packets false) streams)
        ∙ map-map (grows page [] true) (grows page packets false) streams
        ∙ map-same (λ s. grows page [] true (grows page packets false s)) (grows page packets true)
        (λ s. grows_twice page packets [] false true s ∙ ap (λ l. grows page l true s) (append-nil packets)) streams)
    by_case false = refl

pub after_page : (done : Recording) (streams : List Stream) (page : Page) (packets : List (List ℕ)) →
    after (done ++ streams ∷ []) (put_of (map (entry_of page) packets) ++ end_of page) ≡ done ++ map (grows page packets (is_last page)) streams ∷ []
after_page done streams page packets =
    fold-append add (done ++ streams ∷ []) (put_of (map (entry_of page) packets)) (end_of page)
    ∙ ap (λ r. after r (end_of page)) (after_put done streams (map (entry_of page) packets) ∙ ap (λ l. done ++ l ∷ []) (folded page packets streams))
    ∙ after_end done streams page packets

-- ---- a new link
abbrev pub ended_by : List ℕ → Stream → Stream
ended_by ends stream = stream_of stream.serial stream.packets (stream.ended || list_any (nat_eq stream.serial) ends)

abbrev pub begun_as : List ℕ → KeptStream → Stream
begun_as ends kept = stream_of kept.serial kept.headers (list_any (nat_eq kept.serial) ends)

one_end : (serial : ℕ) (ends : List ℕ) (stream : Stream) → ended_by ends (cond (nat_eq stream.serial serial) (stream_of stream.serial stream.packets true) stream) ≡ ended_by (serial ∷ ends) stream
one_end serial ends stream = by_case (nat_eq stream.serial serial)
  where
    by_case : (b : Bool) → ended_by ends (cond b (stream_of stream.serial stream.packets true) stream) ≡ stream_of stream.serial stream.packets (stream.ended || (b || list_any (nat_eq stream.serial) ends))
    by_case true = ap (stream_of stream.serial stream.packets) (or_true stream.ended)
    by_case false = refl

after_ends : (done : Recording) (streams : List Stream) (ends : List ℕ) → after (done ++ streams ∷ []) (map (λ serial. EndOf serial) ends) ≡ done ++ map (ended_by ends) streams ∷ []
after_ends done streams [] = ap (λ l. done ++ l ∷ []) (unchanged streams)
  where
    unchanged : (streams : List Stream) → streams ≡ map (ended_by []) streams
    unchanged [] = refl
    unchanged (s ∷ streams) = ap (λ e. stream_of s.serial s.packets e ∷ streams) (sym (or-false s.ended)) ∙ ap (λ l. ended_by [] s ∷ l) (unchanged streams)
after_ends done streams (serial ∷ ends) =
    ap (λ r. after r (map (λ serial. EndOf serial) ends)) (last_changed (with_end serial) done streams)
    ∙ after_ends done (with_end serial streams) ends
    ∙ ap (λ l. done ++ l ∷ []) (map-map (ended_by ends) _ streams ∙ map-same _ (ended_by (serial ∷ ends)) (one_end serial ends) streams)

pub after_begin : (done : Recording) (link : KeptLink) → after done (link_begin link) ≡ done ++ map (begun_as link.ends) link.streams ∷ []
after_begin done link =
    after_ends done (map begun (map new_stream link.streams)) link.ends
    ∙ ap (λ l. done ++ l ∷ [])
    (ap (map (ended_by link.ends)) (map-map begun new_stream link.streams)
    ∙ map-map (ended_by link.ends) (λ k. begun (new_stream k)) link.streams)
