-- A put that is kept adds its packets.
use Rattle.std.proofs.Common.{◌≡◌, ℕ, ◌+◌, ◌<◌, ◌^◌, Bool, true, false, cond, List, [], ◌∷◌, ◌++◌, length, map, refl, sym, ◌∙◌, ap, subst, append_assoc, eq-eqb, inl, inr, Option, Some, Ok}
use Rattle.std.specs.Prelude.{nat_eq, is_none, ◌||◌}
use Rattle.std.specs.List.{AllByRecursion, flat_map, fold}
use Rattle.std.specs.Option.{option_map_or}
use Rattle.std.proofs.lemmas.List.{append-nil}
use Rattle.std.proofs.lemmas.List.Sums.{fold-append}
use Rattle.std.proofs.lemmas.Bool.{cond-true, cond-false, cond_both, ne_eqb, eqb-true, cases_eq, not-false}
use Rattle.ogg_page.specs.Page.{Page, IsPage}
use Rattle.ogg_page.specs.LogicalStream.{number_behind}
use Rattle.packetiser.specs.Run.{Timed, IsTimed, pages_of_run}
use Rattle.packetiser.specs.Laws.Pieces.{run_is_held, run_pages}
use Rattle.packetiser.specs.Laws.Behind.{run_fits, number_behind_run}
use Rattle.packetiser.specs.Laws.Ranges.{run_is_pages}
use Rattle.ogg_command.specs.declared.command.Command.TheVariants.{Put as PutOf}
use Rattle.ogg_command.specs.declared.command.Put.{Put}
use Rattle.ogg_command.specs.declared.command.Entry.{Entry}
use Rattle.link_chain.specs.declared.stream_state.StreamState.{StreamState}
use Rattle.ogg_command.specs.Command.{IsEntry}
use Rattle.link_chain.specs.Links.{IsLink, AreLinks, pages_with, has_stream, has_ended, all_ended, serials_of}
use Rattle.chain_rules.specs.Recording.{Stream, Recording, HoldsLink, HoldsLinks, with_packet, add}
use Rattle.link_chain.specs.ChainState.{ChainState, chain_state_of, last_link, is_open}
use Rattle.link_chain.specs.Progress.{stream_in, next_in, change_at, advanced, moved_to, brought_to, with_position}
use Rattle.chain_rules.specs.Encoding.{timed, with_front, runs_of, run_position, pages_behind, with_run, pages_of_runs, pages_of_command, command_bytes, links_after}
use Rattle.chain_rules.specs.Decision.{decision, entries_rules, room_rules, rules_for}
use Rattle.link_chain.specs.Laws.Grow.{grow_link, grow_holds, stream_finished, stream_some, stream_same, ended_same, not_ended, still_open, open_behind, with_own, with_other, all_weaker, Own, Unmarked, GoOn}
use Rattle.chain_rules.proofs.Unbroken.{no_rule_broken, Unbroken, numbers_fit}
use Rattle.link_chain.specs.Laws.LastLink.{all_split, open_link, open_some, known_stream, found_at, next_is, not_ended_is, last_grows, Grows}
use Rattle.chain_rules.proofs.RunState.{run_own, run_unmarked, run_goes_on}
use Rattle.link_chain.specs.Laws.StateBehind.{map-map, map-same}
use Rattle.chain_rules.proofs.PutState.{looked_up}
use Rattle.std.proofs.Math.Bool.{or-false}
use Rattle.ogg_page.specs.Laws.PageBytes.{all_both}

-- ---- runs of entries
-- entries of one stream, at least one
abbrev pub OneSerial : List Entry → Type 0
OneSerial [] = ⊥
OneSerial (entry ∷ run) = AllByRecursion (λ (other : Entry). other.serial ≡ entry.serial) run

front_one : (entry : Entry) (runs : List (List Entry)) → AllByRecursion OneSerial runs → AllByRecursion OneSerial (with_front entry runs)
front_one entry [] h = (tt, tt)
front_one entry ([] ∷ runs) h = (tt, h.1)
front_one entry ((next ∷ run) ∷ runs) h =
    cond_both (nat_eq entry.serial next.serial) ((entry ∷ next ∷ run) ∷ runs) ((entry ∷ []) ∷ (next ∷ run) ∷ runs) (λ l. AllByRecursion OneSerial l)
    (λ e.
    let same : next.serial ≡ entry.serial = sym (eqb-true entry.serial next.serial e) in
    ((same, all_weaker (λ (x : Entry). x.serial ≡ next.serial) (λ (x : Entry). x.serial ≡ entry.serial) (λ x f. f ∙ same) run h.0), h.1))
    (λ _. (tt, h))

runs_one : (entries : List Entry) → AllByRecursion OneSerial (runs_of entries)
runs_one [] = tt
runs_one (entry ∷ entries) = front_one entry (runs_of entries) (runs_one entries)

front_all : (P : Entry → Type 0) (entry : Entry) (runs : List (List Entry)) → P entry → AllByRecursion (AllByRecursion P) runs → AllByRecursion (AllByRecursion P) (with_front entry runs)
front_all P entry [] p h = ((p, tt), tt)
front_all P entry ([] ∷ runs) p h = ((p, tt), h.1)
front_all P entry ((next ∷ run) ∷ runs) p h =
    cond_both (nat_eq entry.serial next.serial) ((entry ∷ next ∷ run) ∷ runs) ((entry ∷ []) ∷ (next ∷ run) ∷ runs) (λ l. AllByRecursion (AllByRecursion P) l)
    (λ e. ((p, h.0), h.1)) (λ _. ((p, tt), h))

runs_all : (P : Entry → Type 0) (entries : List Entry) → AllByRecursion P entries → AllByRecursion (AllByRecursion P) (runs_of entries)
runs_all P [] h = tt
runs_all P (entry ∷ entries) h = front_all P entry (runs_of entries) h.0 (runs_all P entries h.1)

front_joined : (entry : Entry) (runs : List (List Entry)) → flat_map (λ (run : List Entry). run) (with_front entry runs) ≡ entry ∷ flat_map (λ (run : List Entry). run) runs
front_joined entry [] = refl
front_joined entry ([] ∷ runs) = refl
front_joined entry ((next ∷ run) ∷ runs) =
    cond_both (nat_eq entry.serial next.serial) ((entry ∷ next ∷ run) ∷ runs) ((entry ∷ []) ∷ (next ∷ run) ∷ runs)
    (λ l. flat_map (λ (r : List Entry). r) l ≡ entry ∷ flat_map (λ (r : List Entry). r) ((next ∷ run) ∷ runs)) (λ _. refl) (λ _. refl)

runs_joined : (entries : List Entry) → flat_map (λ (run : List Entry). run) (runs_of entries) ≡ entries
runs_joined [] = refl
runs_joined (entry ∷ entries) = front_joined entry (runs_of entries) ∙ ap (λ l. entry ∷ l) (runs_joined entries)

-- the streams with a run's packets
abbrev with_packets_of : List Stream → List Entry → List Stream
with_packets_of streams run = fold with_packet streams run

by_runs : (streams : List Stream) (runs : List (List Entry)) → fold with_packet streams (flat_map (λ (run : List Entry). run) runs) ≡ fold with_packets_of streams runs
by_runs streams [] = refl
by_runs streams (run ∷ runs) =
    fold-append with_packet streams run (flat_map (λ (r : List Entry). r) runs) ∙ by_runs (fold with_packet streams run) runs

-- ---- what a run does to the streams
abbrev with_packets : Stream → List (List ℕ) → Stream
with_packets stream packets = record stream { packets = stream.packets ++ packets }

abbrev packets_of : List Entry → List (List ℕ)
packets_of run = map (λ (e : Entry). e.packet) run

abbrev change_run : ℕ → List Entry → Stream → Stream
change_run serial run stream = cond (nat_eq stream.serial serial) (with_packets stream (packets_of run)) stream

run_here : (serial : ℕ) (run : List Entry) (stream : Stream) → stream.serial ≡ serial → change_run serial run stream ≡ with_packets stream (packets_of run)
run_here serial run stream e = cond-true (nat_eq stream.serial serial) (with_packets stream (packets_of run)) stream (eq-eqb stream.serial serial e)

run_elsewhere : (serial : ℕ) (run : List Entry) (stream : Stream) → (stream.serial ≡ serial → ⊥) → change_run serial run stream ≡ stream
run_elsewhere serial run stream ne = cond-false (nat_eq stream.serial serial) (with_packets stream (packets_of run)) stream (ne_eqb stream.serial serial ne)

no_run : (serial : ℕ) (stream : Stream) → change_run serial [] stream ≡ stream
no_run serial stream =
    cond_both (nat_eq stream.serial serial) (with_packets stream []) stream (λ s. s ≡ stream)
    (λ _. ap (λ (ps : List (List ℕ)). record stream { packets = ps }) (append-nil stream.packets)) (λ _. refl)

one_more : (serial : ℕ) (entry : Entry) (run : List Entry) (stream : Stream) → entry.serial ≡ serial →
    change_run serial run (cond (nat_eq stream.serial entry.serial) (record stream { packets = stream.packets ++ entry.packet ∷ [] }) stream) ≡ change_run serial (entry ∷ run) stream
one_more serial entry run stream own =
    elim (cases_eq stream.serial serial) [
      | inl same ↦
          ap (change_run serial run) (cond-true (nat_eq stream.serial entry.serial) (with_packets stream (entry.packet ∷ [])) stream (eq-eqb stream.serial entry.serial (same ∙ sym own)))
          ∙ run_here serial run (with_packets stream (entry.packet ∷ [])) same
          ∙ ap (λ (ps : List (List ℕ)). record stream { packets = ps }) (append_assoc stream.packets (entry.packet ∷ []) (packets_of run))
          ∙ sym (run_here serial (entry ∷ run) stream same)
      | inr other ↦
          ap (change_run serial run) (cond-false (nat_eq stream.serial entry.serial) (with_packets stream (entry.packet ∷ [])) stream (ne_eqb stream.serial entry.serial (λ e. other (e ∙ own))))
          ∙ run_elsewhere serial run stream other
          ∙ sym (run_elsewhere serial (entry ∷ run) stream other)
    ]

map_fixed : {X : Type 0} (f : X → X) → ((x : X) → f x ≡ x) → (xs : List X) → map f xs ≡ xs
map_fixed f h [] = refl
map_fixed f h (x ∷ xs) = ap (λ y. y ∷ map f xs) (h x) ∙ ap (λ l. x ∷ l) (map_fixed f h xs)

run_change : (serial : ℕ) (run : List Entry) → AllByRecursion (λ (e : Entry). e.serial ≡ serial) run → (streams : List Stream) →
    with_packets_of streams run ≡ map (change_run serial run) streams
run_change serial [] h streams = sym (map_fixed (change_run serial []) (no_run serial) streams)
run_change serial (entry ∷ run) h streams =
    run_change serial run h.1 (with_packet streams entry)
    ∙ map-map (change_run serial run) (λ (s : Stream). cond (nat_eq s.serial entry.serial) (record s { packets = s.packets ++ entry.packet ∷ [] }) s) streams
    ∙ map-same (λ (s : Stream). change_run serial run (cond (nat_eq s.serial entry.serial) (record s { packets = s.packets ++ entry.packet ∷ [] }) s))
    (change_run serial (entry ∷ run)) (λ s. one_more serial entry run s h.0) streams

-- ---- the numbers after a run
-- the stream that was brought on has its new number, and the others keep theirs
next_here : (serial sequence position : ℕ) (states : List StreamState) → is_none (stream_in states serial) ≡ false → next_in (brought_to serial sequence position states) serial ≡ sequence
next_here serial sequence position [] known = cc
next_here serial sequence position (state ∷ states) known =
    elim (cases_eq state.serial serial) [
      | inl same ↦
          let brought : change_at serial (advanced sequence position) state ≡ advanced sequence position state =
          cond-true (nat_eq state.serial serial) (advanced sequence position state) state (eq-eqb state.serial serial same) in
          ap (λ (s : StreamState). option_map_or (λ (x : StreamState). x.next_sequence) (cond (nat_eq s.serial serial) (Some s) (stream_in (brought_to serial sequence position states) serial)) 0) brought
          ∙ ap (λ o. option_map_or (λ (x : StreamState). x.next_sequence) o 0)
          (cond-true (nat_eq state.serial serial) (Some (advanced sequence position state)) (stream_in (brought_to serial sequence position states) serial) (eq-eqb state.serial serial same))
      | inr other ↦
          let kept : change_at serial (advanced sequence position) state ≡ state =
          cond-false (nat_eq state.serial serial) (advanced sequence position state) state (ne_eqb state.serial serial other) in
          ap (λ (s : StreamState). option_map_or (λ (x : StreamState). x.next_sequence) (cond (nat_eq s.serial serial) (Some s) (stream_in (brought_to serial sequence position states) serial)) 0) kept
          ∙ ap (λ o. option_map_or (λ (x : StreamState). x.next_sequence) o 0)
          (cond-false (nat_eq state.serial serial) (Some state) (stream_in (brought_to serial sequence position states) serial) (ne_eqb state.serial serial other))
          ∙ next_here serial sequence position states
          (sym (ap is_none (cond-false (nat_eq state.serial serial) (Some state) (stream_in states serial) (ne_eqb state.serial serial other))) ∙ known)
    ]

next_elsewhere : (serial sequence position : ℕ) (states : List StreamState) (other : ℕ) → (other ≡ serial → ⊥) → next_in (brought_to serial sequence position states) other ≡ next_in states other
next_elsewhere serial sequence position [] other ne = refl
next_elsewhere serial sequence position (state ∷ states) other ne =
    let brought : List StreamState = brought_to serial sequence position states in
    let next : StreamState → ℕ = λ (x : StreamState). x.next_sequence in
    elim (cases_eq state.serial serial) [
      | inl same ↦
          let skipped : nat_eq state.serial other ≡ false = ne_eqb state.serial other (λ e. ne (sym e ∙ same)) in
          ap (λ (s : StreamState). option_map_or next (cond (nat_eq s.serial other) (Some s) (stream_in brought other)) 0)
          (cond-true (nat_eq state.serial serial) (advanced sequence position state) state (eq-eqb state.serial serial same))
          ∙ ap (λ o. option_map_or next o 0) (cond-false (nat_eq state.serial other) (Some (advanced sequence position state)) (stream_in brought other) skipped)
          ∙ next_elsewhere serial sequence position states other ne
          ∙ ap (λ o. option_map_or next o 0) (sym (cond-false (nat_eq state.serial other) (Some state) (stream_in states other) skipped))
      | inr differs ↦
          ap (λ (s : StreamState). option_map_or next (cond (nat_eq s.serial other) (Some s) (stream_in brought other)) 0)
          (cond-false (nat_eq state.serial serial) (advanced sequence position state) state (ne_eqb state.serial serial differs))
          ∙ either (nat_eq state.serial other) (stream_in brought other) (stream_in states other) (next_elsewhere serial sequence position states other ne)
    ]
  where
    either : (b : Bool) (o p : Option StreamState) → option_map_or (λ (x : StreamState). x.next_sequence) o 0 ≡ option_map_or (λ (x : StreamState). x.next_sequence) p 0 →
        option_map_or (λ (x : StreamState). x.next_sequence) (cond b (Some state) o) 0 ≡ option_map_or (λ (x : StreamState). x.next_sequence) (cond b (Some state) p) 0
    either true o p e = refl
    either false o p e = e

-- ---- another run
-- the stream's next number is that of its state
pub record IsNumbered (link : List Page) (states : List StreamState) (serial : ℕ) : Type 0 where
  pub known : is_none (stream_in states serial) ≡ false
  pub number : number_behind (pages_with serial link) ≡ next_in states serial

abbrev pub Numbered : List Page → List StreamState → Type 0
Numbered link states = (serial : ℕ) → has_stream link serial ≡ true → IsNumbered link states serial

-- the entry's stream is there and hasn't ended
record TakesPackets (link : List Page) (entry : Entry) : Type 0 where
  there : has_stream link entry.serial ≡ true
  unended : has_ended link entry.serial ≡ false

pub record Grown (link : List Page) (pages : List Page) (streams : List Stream) : Type 0 where
  pub link_is : IsLink (link ++ pages)
  pub holds : HoldsLink (link ++ pages) streams

packets_timed : (run : List Entry) → map (λ (t : Timed). t.packet) (map timed run) ≡ packets_of run
packets_timed [] = refl
packets_timed (entry ∷ run) = ap (λ l. entry.packet ∷ l) (packets_timed run)

-- further packets of one stream
run_grows : (link : List Page) (serial first : ℕ) (run : List Timed) (streams : List Stream) (change : Stream → Stream) →
    IsLink link → HoldsLink link streams → all_ended link ≡ false → has_stream link serial ≡ true → has_ended link serial ≡ false →
    number_behind (pages_with serial link) ≡ first →
    ((stream : Stream) → stream.serial ≡ serial → change stream ≡ with_packets stream (map (λ (t : Timed). t.packet) run)) →
    ((stream : Stream) → (stream.serial ≡ serial → ⊥) → change stream ≡ stream) →
    Grown link (pages_of_run serial first run) (map change streams)
run_grows link serial first run streams change l h opened there unended number here elsewhere =
    let pages : List Page = pages_of_run serial first run in
    let own : Own serial pages = run_own serial first run in
    let unmarked : Unmarked pages = run_unmarked serial first run in
    let go_on : GoOn pages = run_goes_on serial first run in
    record {
      link_is = grow_link link serial pages l there own unmarked
          (run_fits serial first run (pages_with serial link) (stream_some link serial there) (stream_finished link streams serial h there) unended number)
          (open_behind link pages opened go_on);
      holds = grow_holds link serial pages (map (λ (t : Timed). t.packet) run) streams change own unmarked (run_is_held serial first run)
          (λ stream e. here stream e ∙ ap (λ (b : Bool). record stream { packets = stream.packets ++ map (λ (t : Timed). t.packet) run; ended = b })
          (sym (or-false stream.ended) ∙ ap (λ b. stream.ended || b) (sym (not_ended serial pages go_on))))
          elsewhere h;
    }

run_numbers : (link : List Page) (serial position : ℕ) (states : List StreamState) (run : List Timed) → Numbered link states →
    Numbered (link ++ pages_of_run serial (next_in states serial) run)
    (brought_to serial (next_in states serial + length (pages_of_run serial (next_in states serial) run)) position states)
run_numbers link serial position states run numbered other there =
    let next : ℕ = next_in states serial in
    let pages : List Page = pages_of_run serial next run in
    let own : Own serial pages = run_own serial next run in
    let before : has_stream link other ≡ true = sym (stream_same link pages other (run_unmarked serial next run)) ∙ there in
    let at : IsNumbered link states other = numbered other before in
    let brought : List StreamState = brought_to serial (next + length pages) position states in
    record {
      known = looked_up serial (advanced (next + length pages) position) (λ s. refl) states other ∙ at.known;
      number = elim (cases_eq other serial) [
        | inl same ↦
            let known : is_none (stream_in states serial) ≡ false = subst (λ s. is_none (stream_in states s) ≡ false) same at.known in
            let number : number_behind (pages_with serial link) ≡ next = subst (λ s. number_behind (pages_with s link) ≡ next_in states s) same at.number in
            subst (λ s. number_behind (pages_with s (link ++ pages)) ≡ next_in brought s) (sym same)
            (ap number_behind (with_own serial link pages own)
            ∙ number_behind_run serial next run (pages_with serial link) number
            ∙ ap (λ n. next + n) (sym (run_pages serial next run))
            ∙ sym (next_here serial (next + length pages) position states known))
        | inr differs ↦
            ap number_behind (with_other serial other link pages own (λ e. differs (sym e)))
            ∙ at.number
            ∙ sym (next_elsewhere serial (next + length pages) position states other differs)
      ];
    }

ready_later : (link pages : List Page) → Unmarked pages → GoOn pages → (runs : List (List Entry)) →
    AllByRecursion (AllByRecursion (TakesPackets link)) runs → AllByRecursion (AllByRecursion (TakesPackets (link ++ pages))) runs
ready_later link pages unmarked go_on runs h =
    all_weaker (AllByRecursion (TakesPackets link)) (AllByRecursion (TakesPackets (link ++ pages)))
    (λ run g. all_weaker (TakesPackets link) (TakesPackets (link ++ pages))
    (λ entry r. record { there = stream_same link pages entry.serial unmarked ∙ r.there; unended = ended_same entry.serial link pages go_on ∙ r.unended }) run g)
    runs h

-- ---- all runs
runs_grow : (runs : List (List Entry)) (link : List Page) (states : List StreamState) (streams : List Stream) →
    IsLink link → HoldsLink link streams → all_ended link ≡ false → Numbered link states →
    AllByRecursion OneSerial runs → AllByRecursion (AllByRecursion (TakesPackets link)) runs →
    Grown link (pages_of_runs states runs) (fold with_packets_of streams runs)
runs_grow [] link states streams l h opened numbered ones ready =
    record { link_is = subst IsLink (sym (append-nil link)) l; holds = subst (λ (x : List Page). HoldsLink x streams) (sym (append-nil link)) h }
runs_grow ([] ∷ runs) link states streams l h opened numbered ones ready = absurd ones.0
runs_grow ((entry ∷ run) ∷ runs) link states streams l h opened numbered ones ready =
    let serial : ℕ = entry.serial in
    let next : ℕ = next_in states serial in
    let items : List Timed = map timed (entry ∷ run) in
    let pages : List Page = pages_of_run serial next items in
    let later : List Page = pages_of_runs (with_run states (entry ∷ run)) runs in
    let change : Stream → Stream = change_run serial (entry ∷ run) in
    let first : TakesPackets link entry = ready.0.0 in
    let step : Grown link pages (map change streams) =
    run_grows link serial next items streams change l h opened first.there first.unended (numbered serial first.there).number
    (λ stream e. run_here serial (entry ∷ run) stream e ∙ ap (with_packets stream) (sym (packets_timed (entry ∷ run))))
    (run_elsewhere serial (entry ∷ run)) in
    let all : with_packets_of streams (entry ∷ run) ≡ map change streams = run_change serial (entry ∷ run) (refl, ones.0) streams in
    let unmarked : Unmarked pages = run_unmarked serial next items in
    let go_on : GoOn pages = run_goes_on serial next items in
    let rest : Grown (link ++ pages) later (fold with_packets_of (with_packets_of streams (entry ∷ run)) runs) =
    runs_grow runs (link ++ pages) (with_run states (entry ∷ run)) (with_packets_of streams (entry ∷ run)) step.link_is
    (subst (λ (s : List Stream). HoldsLink (link ++ pages) s) (sym all) step.holds)
    (still_open link pages opened go_on) (run_numbers link serial (run_position (entry ∷ run)) states items numbered) ones.1
    (ready_later link pages unmarked go_on runs ready.1) in
    record {
      link_is = subst IsLink (append_assoc link pages later) rest.link_is;
      holds = subst (λ (x : List Page). HoldsLink x (fold with_packets_of (with_packets_of streams (entry ∷ run)) runs)) (append_assoc link pages later) rest.holds;
    }

-- ---- the pages are pages
timed_is : (entry : Entry) → IsEntry entry → IsTimed (timed entry)
timed_is entry h = record { position = h.position; packet = h.packet }

all_timed : (run : List Entry) → AllByRecursion IsEntry run → AllByRecursion IsTimed (map timed run)
all_timed [] h = tt
all_timed (entry ∷ run) h = (timed_is entry h.0, all_timed run h.1)

runs_are_pages : (runs : List (List Entry)) (states : List StreamState) → AllByRecursion OneSerial runs → AllByRecursion (AllByRecursion IsEntry) runs →
    AllByRecursion (λ page. page.sequence < 2 ^ 32) (pages_of_runs states runs) → AllByRecursion IsPage (pages_of_runs states runs)
runs_are_pages [] states ones h numbers = tt
runs_are_pages ([] ∷ runs) states ones h numbers = absurd ones.0
runs_are_pages ((entry ∷ run) ∷ runs) states ones h numbers =
    let pages : List Page = pages_behind states (entry ∷ run) in
    let later : List Page = pages_of_runs (with_run states (entry ∷ run)) runs in
    let both : AllByRecursion (λ (p : Page). p.sequence < 2 ^ 32) pages × AllByRecursion (λ (p : Page). p.sequence < 2 ^ 32) later =
    all_split (λ (p : Page). p.sequence < 2 ^ 32) pages later numbers in
    all_both IsPage pages later
    (run_is_pages entry.serial (next_in states entry.serial) (map timed (entry ∷ run)) h.0.0.serial (all_timed (entry ∷ run) h.0) both.0)
    (runs_are_pages runs (with_run states (entry ∷ run)) ones.1 h.1 both.1)

-- ---- the entries of a kept put
abbrev ended_in : List StreamState → ℕ → Bool
ended_in states serial = option_map_or (λ (stream : StreamState). stream.ended) (stream_in states serial) false

-- a stream that reaches a position isn't ended by it
still_ended : (serial position : ℕ) (states : List StreamState) (other : ℕ) → ended_in (with_position serial position states) other ≡ ended_in states other
still_ended serial position [] other = refl
still_ended serial position (state ∷ states) other =
    moved (nat_eq state.serial serial) (stream_in (with_position serial position states) other)
    ∙ either (nat_eq state.serial other) (stream_in (with_position serial position states) other) (stream_in states other) (still_ended serial position states other)
  where
    moved : (b : Bool) (o : Option StreamState) →
        option_map_or (λ (s : StreamState). s.ended) (cond (nat_eq (cond b (moved_to position state) state).serial other) (Some (cond b (moved_to position state) state)) o) false
        ≡ option_map_or (λ (s : StreamState). s.ended) (cond (nat_eq state.serial other) (Some state) o) false
    moved false o = refl
    moved true o = under (nat_eq state.serial other) o
      where
        under : (b : Bool) (o : Option StreamState) →
            option_map_or (λ (s : StreamState). s.ended) (cond b (Some (moved_to position state)) o) false ≡ option_map_or (λ (s : StreamState). s.ended) (cond b (Some state) o) false
        under true o = refl
        under false o = refl

    either : (b : Bool) (o p : Option StreamState) → option_map_or (λ (s : StreamState). s.ended) o false ≡ option_map_or (λ (s : StreamState). s.ended) p false →
        option_map_or (λ (s : StreamState). s.ended) (cond b (Some state) o) false ≡ option_map_or (λ (s : StreamState). s.ended) (cond b (Some state) p) false
    either true o p e = refl
    either false o p e = e

ready_entries : (links : List (List Page)) (now : List StreamState) (entries : List Entry) →
    ((serial : ℕ) → is_none (stream_in now serial) ≡ is_none (stream_in (chain_state_of links).streams serial)) →
    ((serial : ℕ) → ended_in now serial ≡ ended_in (chain_state_of links).streams serial) →
    Unbroken (entries_rules now entries) → AllByRecursion (TakesPackets (last_link links)) entries
ready_entries links now [] known ended h = tt
ready_entries links now (entry ∷ entries) known ended h =
    let there : has_stream (last_link links) entry.serial ≡ true = (known_stream links entry.serial (sym (known entry.serial) ∙ h.1.0)).0 in (
      record { there = there; unended = sym (not_ended_is links entry.serial there) ∙ sym (ended entry.serial) ∙ h.1.1.0 },
      ready_entries links (with_position entry.serial entry.position now) entries
          (λ serial. looked_up entry.serial (moved_to entry.position) (λ s. refl) now serial ∙ known serial)
          (λ serial. still_ended entry.serial entry.position now serial ∙ ended serial)
          h.1.1.1.1.1,
    )

numbered_by : (links : List (List Page)) → Numbered (last_link links) (chain_state_of links).streams
numbered_by links serial there = record {
  known = ap is_none (found_at (last_link links) serial (serials_of (last_link links)) there);
  number = sym (next_is links serial there);
}

pub put_is_held : (bytes : List ℕ) (links : List (List Page)) (recording : Recording) (put : Put) (size : ℕ) → AllByRecursion IsEntry put.entries →
    AreLinks bytes links → HoldsLinks links recording → decision (chain_state_of links) (PutOf put) ≡ Ok size →
    AreLinks (bytes ++ command_bytes (chain_state_of links) (PutOf put)) (links_after links (PutOf put)) × HoldsLinks (links_after links (PutOf put)) (add recording (PutOf put))
unfolding pages_of_command
put_is_held bytes links recording put size small l h e =
    let chain : ChainState = chain_state_of links in
    let runs : List (List Entry) = runs_of put.entries in
    let pages : List Page = pages_of_runs chain.streams runs in
    let kept : Unbroken (rules_for chain (PutOf put)) = no_rule_broken chain (PutOf put) size e in
    let opened : is_open chain ≡ true = not-false (is_open chain) kept.0 in
    let rest : Unbroken (entries_rules chain.streams put.entries) × Unbroken (room_rules chain (PutOf put)) =
    all_split (λ rule. rule.0 ≡ false) (entries_rules chain.streams put.entries) (room_rules chain (PutOf put)) kept.1.1.1 in
    let ready : AllByRecursion (TakesPackets (last_link links)) put.entries =
    ready_entries links chain.streams put.entries (λ serial. refl) (λ serial. refl) rest.0 in
    let numbers : AllByRecursion (λ (page : Page). page.sequence < 2 ^ 32) pages = numbers_fit pages rest.1.1.0 in
    let grows : Grows (last_link links) pages (λ link. fold with_packet link put.entries) =
    λ streams is holds.
    (let new : Grown (last_link links) pages (fold with_packets_of streams runs) =
    runs_grow runs (last_link links) chain.streams streams is holds (open_link links opened) (numbered_by links)
    (runs_one put.entries) (runs_all (TakesPackets (last_link links)) put.entries ready) in (
      new.link_is,
      subst (λ (s : List Stream). HoldsLink (last_link links ++ pages) s)
          (sym (by_runs streams runs) ∙ ap (λ (es : List Entry). fold with_packet streams es) (runs_joined put.entries)) new.holds,
    )) in
    last_grows bytes links recording pages (λ link. fold with_packet link put.entries) (open_some links opened)
    (runs_are_pages runs chain.streams (runs_one put.entries) (runs_all IsEntry put.entries small) numbers) grows l h
