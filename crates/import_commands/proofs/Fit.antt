-- If an input is within the limits of one command, no command is refused for itself.
use Rattle.std.proofs.Common.{◌≡◌, ℕ, zero, suc, ◌+◌, ◌-◌, ◌^◌, ◌<◌, ◌≤◌, Bool, true, false, cond, List, [], ◌∷◌, ◌++◌, length, map, take, drop, refl, sym, ◌∙◌, ap, arith, None, Some, Err}
use Rattle.std.specs.Prelude.{nat_eq, nat_lt, nat_le, ◌&&◌, ◌||◌}
use Rattle.std.specs.Option.{option_map_or}
use Rattle.std.specs.List.{AllByRecursion, list_any}
use Rattle.std.proofs.lemmas.Bool.{ltb-true, leb-true, ne_eqb, or_from, cond_both}
use Rattle.std.proofs.lemmas.List.Sums.{sum_by-cons}
use Rattle.ogg_page.specs.Page.{Page, IsPage}
use Rattle.ogg_page.specs.LogicalStream.{is_first, is_last}
use Rattle.packetiser.specs.Run.{packets_ended}
use Rattle.chain_rules.specs.Limits.{longest_first, longest_packet, most_entries, most_headers, most_streams}
use Rattle.link_chain.specs.Links.{IsLink, AreLinks, serials_of}
use Rattle.chain_rules.specs.Recording.{Stream, Recording, HoldsLink, HoldsLinks}
use Rattle.link_chain.specs.ChainState.{ChainState, chain_state_of}
use Rattle.chain_rules.specs.Encoding.{links_after}
use Rattle.link_chain.specs.Progress.{with_position}
use Rattle.link_chain.specs.Rules.{Rule, first_broken}
use Rattle.chain_rules.specs.Decision.{decision, rules_for, size_of, begin_rules, streams_rules, put_rules, entries_rules, end_rules, room_rules, is_long, has_many_parts, has_many_headers, has_many_fields}
use Rattle.link_chain.specs.declared.stream_state.StreamState.{StreamState}
use Rattle.ogg_command.specs.declared.command.Command.{Command}
use Rattle.ogg_command.specs.declared.command.Command.TheVariants.{Begin as BeginOf, Put as PutOf, End as EndOf}
use Rattle.ogg_command.specs.declared.command.NewStream.{NewStream}
use Rattle.ogg_command.specs.declared.command.Entry.{Entry}
use Rattle.ogg_command.specs.declared.refusal.Refusal.{Refusal}
use Rattle.link_chain.specs.Laws.Grow.{serials_same, filter_all}
use Rattle.import_commands.specs.Commands.{packets_of, ended_in, page_packets, entry_of, put_of, end_of, page_commands, pages_commands, new_stream, link_commands, commands_of, of_input, not_for_itself, of_the_whole, RefusedBy, RefusedByInput, IsFeedable, HasPosition, CanBeFed, AddsItsPackets}
use Rattle.import_commands.proofs.AddUp.{serials_held}
use Rattle.import_commands.proofs.AreCommands.{all_taken, all_dropped, all_mapped}
use Rattle.import_commands.proofs.ByInput.{by_input, broken_is, unbroken}
use Rattle.ogg_page.specs.Laws.PageBytes.{all_both}

-- ---- rules
abbrev Fine : Rule Refusal → Type 0
Fine rule = rule.0 ≡ true → not_for_itself rule.1 ≡ true

abbrev AreFine : List (Rule Refusal) → Type 0
AreFine rules = AllByRecursion Fine rules

first_is : (rules : List (Rule Refusal)) → AreFine rules → (refusal : Refusal) → first_broken rules ≡ Some refusal → not_for_itself refusal ≡ true
first_is [] fine refusal e = cc
first_is (rule ∷ rules) fine refusal e = by_case rule.0 refl (λ f. first_is rules fine.1 refusal f) e
  where
    by_case : (b : Bool) → rule.0 ≡ b → (first_broken rules ≡ Some refusal → not_for_itself refusal ≡ true) → cond b (Some rule.1) (first_broken rules) ≡ Some refusal →
        not_for_itself refusal ≡ true
    by_case true f rest e = sym (ap (λ o. option_map_or not_for_itself o true) e) ∙ fine.0 f
    by_case false f rest e = rest e

refused_is : (chain : ChainState) (command : Command) (refusal : Refusal) → AreFine (rules_for chain command) → decision chain command ≡ Err refusal → not_for_itself refusal ≡ true
unfolding decision
refused_is chain command refusal fine e =
    first_is (rules_for chain command) fine refusal (broken_is (first_broken (rules_for chain command)) (size_of chain command) refusal e)

-- ---- commands within their limits
record FitStream (stream : NewStream) : Type 0 where
  pub some : nat_eq (length stream.headers) 0 ≡ false
  pub first : list_any (is_long longest_first) (take 1 stream.headers) ≡ false
  pub rest : list_any (is_long longest_packet) (drop 1 stream.headers) ≡ false

record FitEntry (entry : Entry) : Type 0 where
  pub packet : is_long longest_packet entry.packet ≡ false
  pub position : nat_le (2 ^ 63) entry.position ≡ false

room_fine : (chain : ChainState) (command : Command) → AreFine (room_rules chain command)
room_fine chain command = (λ _. refl, (λ _. refl, (λ _. refl, (λ _. refl, tt))))

streams_fine : (chain : ChainState) (earlier : List ℕ) (streams : List NewStream) → AllByRecursion FitStream streams → AreFine (streams_rules chain false earlier streams)
streams_fine chain earlier [] fit = tt
streams_fine chain earlier (s ∷ streams) fit = (
  λ _. refl,
  (
    λ b. unbroken fit.0.some b,
    (
      λ b. unbroken fit.0.first b,
      (
        λ b. unbroken fit.0.rest b,
        (
          λ _. refl,
          (
            λ _. refl,
            streams_fine chain (s.serial ∷ earlier) streams fit.1,
          ),
        ),
      ),
    ),
  ),
)

entries_fine : (states : List StreamState) (entries : List Entry) → AllByRecursion FitEntry entries → AreFine (entries_rules states entries)
entries_fine states [] fit = tt
entries_fine states (entry ∷ entries) fit = (
  λ b. unbroken fit.0.packet b,
  (
    λ _. refl,
    (
      λ _. refl,
      (
        λ b. unbroken fit.0.position b,
        (
          λ _. refl,
          entries_fine (with_position entry.serial entry.position states) entries fit.1,
        ),
      ),
    ),
  ),
)

begin_fine : (chain : ChainState) (streams : List NewStream) → has_many_parts (record { skeleton = None; streams = streams }) ≡ false → AllByRecursion FitStream streams →
    AreFine (rules_for chain (BeginOf (record { skeleton = None; streams = streams })))
begin_fine chain streams few fit =
    all_both Fine (begin_rules chain (record { skeleton = None; streams = streams }) ++ streams_rules chain false [] streams)
    (room_rules chain (BeginOf (record { skeleton = None; streams = streams })))
    (all_both Fine (begin_rules chain (record { skeleton = None; streams = streams })) (streams_rules chain false [] streams)
    (λ _. refl, (λ _. refl, (λ b. unbroken few b, tt))) (streams_fine chain [] streams fit))
    (room_fine chain (BeginOf (record { skeleton = None; streams = streams })))

put_fine : (chain : ChainState) (entries : List Entry) → nat_lt most_entries (length entries) ≡ false → AllByRecursion FitEntry entries →
    AreFine (rules_for chain (PutOf (record { entries = entries })))
put_fine chain entries few fit =
    all_both Fine (put_rules chain entries ++ entries_rules chain.streams entries) (room_rules chain (PutOf (record { entries = entries })))
    (all_both Fine (put_rules chain entries) (entries_rules chain.streams entries)
    (λ _. refl, (λ _. refl, (λ b. unbroken few b, tt))) (entries_fine chain.streams entries fit))
    (room_fine chain (PutOf (record { entries = entries })))

end_fine : (chain : ChainState) (serial : ℕ) → AreFine (rules_for chain (EndOf serial))
end_fine chain serial =
    all_both Fine (end_rules chain serial) (room_rules chain (EndOf serial)) (λ _. refl, (λ _. refl, (λ _. refl, tt))) (room_fine chain (EndOf serial))

-- no chain has the command refused for itself
abbrev NeverForItself : Command → Type 0
NeverForItself command = (chain : ChainState) → AreFine (rules_for chain command)

both_kinds : (links : List (List Page)) (commands : List Command) → AllByRecursion NeverForItself commands → RefusedByInput links commands → RefusedBy of_the_whole links commands
both_kinds links [] fine r = tt
both_kinds links (command ∷ commands) fine r = (
  λ refusal e. both (of_input refusal) (not_for_itself refusal) (r.0 refusal e) (refused_is (chain_state_of links) command refusal (fine.0 (chain_state_of links)) e),
  λ size e. both_kinds (links_after links command) commands fine.1 (r.1 size e),
)
  where
    both : (a b : Bool) → a ≡ true → b ≡ true → (a && b) ≡ true
    both true b e f = f
    both false b e f = cc

-- ---- these commands
not_less : (a b : ℕ) → b ≤ a → nat_lt a b ≡ false
not_less a b le = by_case (nat_lt a b) refl
  where
    by_case : (t : Bool) → nat_lt a b ≡ t → t ≡ false
    by_case true e = absurd (omega (arith, ltb-true a b e, le))
    by_case false e = refl

not_most : (a b : ℕ) → b < a → nat_le a b ≡ false
not_most a b lt = by_case (nat_le a b) refl
  where
    by_case : (t : Bool) → nat_le a b ≡ t → t ≡ false
    by_case true e = absurd (omega (arith, leb-true a b e, lt))
    by_case false e = refl

none_long : (most : ℕ) (packets : List (List ℕ)) → AllByRecursion (λ packet. length packet ≤ most) packets → list_any (is_long most) packets ≡ false
none_long most [] h = refl
none_long most (packet ∷ packets) h = or_from (is_long most packet) (list_any (is_long most) packets) (not_less most (length packet) h.0) (none_long most packets h.1)

taken_few : {A : Type 0} (n : ℕ) (xs : List A) → length (take n xs) ≤ n
taken_few zero xs = omega arith
taken_few (suc n) [] = omega arith
taken_few (suc n) (x ∷ xs) = omega (arith, taken_few n xs)

dropped_few : {A : Type 0} (n : ℕ) (xs : List A) → length (drop n xs) ≤ length xs
dropped_few zero xs = omega arith
dropped_few (suc n) [] = omega arith
dropped_few (suc n) (x ∷ xs) = omega (arith, dropped_few n xs)

ended_few : (values : List ℕ) → packets_ended values ≤ length values
ended_few [] = omega arith
ended_few (value ∷ values) =
    omega (arith, sum_by-cons (λ v. cond (nat_lt v 255) 1 0) value values, small (nat_lt value 255), ended_few values)
  where
    small : (b : Bool) → (let n : ℕ = cond b 1 0 in n) ≤ 1
    small true = omega arith
    small false = omega arith

fit_stream : (headers : ℕ → ℕ) (stream : Stream) → IsFeedable headers stream → FitStream (new_stream headers stream)
fit_stream headers stream f = record {
  some = by_count (headers stream.serial) stream.packets f.some f.packets;
  first = none_long longest_first (take 1 (take (headers stream.serial) stream.packets)) (firsts (headers stream.serial) stream.packets f.some f.first);
  rest = none_long longest_packet (drop 1 (take (headers stream.serial) stream.packets))
      (all_dropped (λ packet. length packet ≤ longest_packet) 1 (take (headers stream.serial) stream.packets)
      (all_taken (λ packet. length packet ≤ longest_packet) (headers stream.serial) stream.packets f.each));
}
  where
    by_count : (n : ℕ) (packets : List (List ℕ)) → 0 < n → 0 < length packets → nat_eq (length (take n packets)) 0 ≡ false
    by_count zero packets some many = absurd (omega (arith, some))
    by_count (suc n) [] some many = absurd (omega (arith, many))
    by_count (suc n) (p ∷ packets) some many = ne_eqb (suc (length (take n packets))) 0 (λ e. omega (arith, e))

    firsts : (n : ℕ) (packets : List (List ℕ)) → 0 < n → AllByRecursion (λ packet. length packet ≤ longest_first) (take 1 packets) →
        AllByRecursion (λ packet. length packet ≤ longest_first) (take 1 (take n packets))
    firsts zero packets some h = absurd (omega (arith, some))
    firsts (suc n) [] some h = tt
    firsts (suc n) (p ∷ packets) some h = (h.0, tt)

few_headers : (headers : ℕ → ℕ) (streams : List Stream) → AllByRecursion (IsFeedable headers) streams → list_any has_many_headers (map (new_stream headers) streams) ≡ false
few_headers headers [] f = refl
few_headers headers (s ∷ streams) f =
    or_from (has_many_headers (new_stream headers s)) (list_any has_many_headers (map (new_stream headers) streams))
    (not_less most_headers (length (take (headers s.serial) s.packets)) (omega (arith, taken_few (headers s.serial) s.packets, f.0.few)))
    (few_headers headers streams f.1)

mapped_length : {A B : Type 0} (f : A → B) (xs : List A) → length (map f xs) ≡ length xs
mapped_length f [] = refl
mapped_length f (x ∷ xs) = ap suc (mapped_length f xs)

stream_number : (link : List Page) (streams : List Stream) → IsLink link → HoldsLink link streams → length streams ≤ 64
stream_number link streams l h =
    let serials : List ℕ = map (λ (p : Page). p.serial) l.first_pages in
    let are : serials_of link ≡ serials =
    ap serials_of l.split ∙ serials_same l.first_pages l.others l.unmarked
    ∙ ap (λ x. map (λ (p : Page). p.serial) x) (filter_all is_first l.first_pages l.marked) in
    omega (
      arith,
      l.few,
      mapped_length (λ (s : Stream). s.serial) streams,
      mapped_length (λ (p : Page). p.serial) l.first_pages,
      ap length (serials_held link (serials_of link) streams h),
      ap length are,
    )

page_fine : (headers : ℕ → ℕ) (streams : List Stream) (before : List Page) (page : Page) → AllByRecursion (IsFeedable headers) streams → IsPage page → HasPosition page →
    AllByRecursion NeverForItself (page_commands headers streams before page)
page_fine headers streams before page feed p position =
    all_both NeverForItself (put_of (map (entry_of page) (page_packets headers streams before page))) (end_of page)
    (by_packets (page_packets headers streams before page) count lengths)
    (cond_both (is_last page) (EndOf page.serial ∷ []) [] (λ l. AllByRecursion NeverForItself l) (λ _. (λ chain. end_fine chain page.serial, tt)) (λ _. tt))
  where
    count : length (page_packets headers streams before page) ≤ packets_ended page.lacing
    count =
        let rest : List (List ℕ) = drop (ended_in before page.serial) (packets_of streams page.serial) in
        omega (arith, taken_few (packets_ended page.lacing) rest, dropped_few (headers page.serial - ended_in before page.serial) (take (packets_ended page.lacing) rest))

    own : (streams : List Stream) → AllByRecursion (IsFeedable headers) streams → AllByRecursion (λ packet. length packet ≤ longest_packet) (packets_of streams page.serial)
    own [] f = tt
    own (s ∷ streams) f =
        cond_both (nat_eq s.serial page.serial) s.packets (packets_of streams page.serial) (λ l. AllByRecursion (λ packet. length packet ≤ longest_packet) l)
        (λ _. f.0.each) (λ _. own streams f.1)

    lengths : AllByRecursion (λ packet. length packet ≤ longest_packet) (page_packets headers streams before page)
    lengths =
        let short : List ℕ → Type 0 = λ packet. length packet ≤ longest_packet in
        let rest : List (List ℕ) = drop (ended_in before page.serial) (packets_of streams page.serial) in
        all_dropped short (headers page.serial - ended_in before page.serial) (take (packets_ended page.lacing) rest)
        (all_taken short (packets_ended page.lacing) rest (all_dropped short (ended_in before page.serial) (packets_of streams page.serial) (own streams feed)))

    by_packets : (packets : List (List ℕ)) → length packets ≤ packets_ended page.lacing → AllByRecursion (λ packet. length packet ≤ longest_packet) packets →
        AllByRecursion NeverForItself (put_of (map (entry_of page) packets))
    by_packets [] n h = tt
    by_packets (packet ∷ packets) n h =
        let small : page.position < 2 ^ 63 = position (omega (arith, n)) in
        let few : length (map (entry_of page) (packet ∷ packets)) ≤ most_entries =
        omega (arith, mapped_length (entry_of page) (packet ∷ packets), n, ended_few page.lacing, p.values) in (
          λ chain. put_fine chain (map (entry_of page) (packet ∷ packets)) (not_less most_entries (length (map (entry_of page) (packet ∷ packets))) few)
              (all_mapped FitEntry (λ packet. length packet ≤ longest_packet) (entry_of page)
              (λ q short. record { packet = not_less longest_packet (length q) short; position = not_most (2 ^ 63) page.position small }) (packet ∷ packets) h),
          tt,
        )

pages_fine : (headers : ℕ → ℕ) (streams : List Stream) (before pages : List Page) → AllByRecursion (IsFeedable headers) streams → AllByRecursion IsPage pages →
    AllByRecursion HasPosition pages → AllByRecursion NeverForItself (pages_commands headers streams before pages)
pages_fine headers streams before [] feed all positions = tt
pages_fine headers streams before (page ∷ pages) feed all positions =
    all_both NeverForItself (page_commands headers streams before page) (pages_commands headers streams (before ++ page ∷ []) pages)
    (page_fine headers streams before page feed all.0 positions.0) (pages_fine headers streams (before ++ page ∷ []) pages feed all.1 positions.1)

no_fields : (headers : ℕ → ℕ) (streams : List Stream) → list_any has_many_fields (map (new_stream headers) streams) ≡ false
no_fields headers [] = refl
no_fields headers (s ∷ streams) = no_fields headers streams

links_fine : (headers : List Stream → ℕ → ℕ) (links : List (List Page)) (recording : Recording) → AllByRecursion (AllByRecursion IsPage) links → AllByRecursion IsLink links →
    HoldsLinks links recording → CanBeFed headers links recording → AllByRecursion NeverForItself (commands_of headers links recording)
links_fine headers [] recording all each h can = tt
links_fine headers (link ∷ links) [] all each h can = tt
links_fine headers (link ∷ links) (streams ∷ recording) all each h can =
    let count : nat_lt most_streams (length (map (new_stream (headers streams)) streams) + 0) ≡ false =
    not_less most_streams (length (map (new_stream (headers streams)) streams) + 0)
    (omega (arith, mapped_length (new_stream (headers streams)) streams, stream_number link streams each.0 h.0)) in
    all_both NeverForItself (link_commands (headers streams) link streams) (commands_of headers links recording) (
      λ chain. begin_fine chain (map (new_stream (headers streams)) streams)
          (or_from (nat_lt most_streams (length (map (new_stream (headers streams)) streams) + 0) || list_any has_many_headers (map (new_stream (headers streams)) streams))
          (list_any has_many_fields (map (new_stream (headers streams)) streams))
          (or_from (nat_lt most_streams (length (map (new_stream (headers streams)) streams) + 0)) (list_any has_many_headers (map (new_stream (headers streams)) streams)) count
          (few_headers (headers streams) streams can.1.0))
          (no_fields (headers streams) streams))
          (all_mapped FitStream (IsFeedable (headers streams)) (new_stream (headers streams)) (fit_stream (headers streams)) streams can.1.0),
      pages_fine (headers streams) streams [] link can.1.0 all.0 can.0.0,
    )
    (links_fine headers links recording all.1 each.1 h.1 (can.0.1, can.1.1))

pub by_whole : AddsItsPackets → (headers : List Stream → ℕ → ℕ) (bytes : List ℕ) (links : List (List Page)) (recording : Recording) → AreLinks bytes links → HoldsLinks links recording →
    CanBeFed headers links recording → RefusedBy of_the_whole [] (commands_of headers links recording)
by_whole law headers bytes links recording are h can =
    both_kinds [] (commands_of headers links recording) (links_fine headers links recording are.pages are.each h can) (by_input law headers bytes links recording are h)
