-- None of these commands is refused for its place among the others.
use Rattle.std.proofs.Common.{◌≡◌, ℕ, suc, ◌^◌, ◌<◌, Bool, true, false, not, cond, List, [], ◌∷◌, ◌++◌, length, map, refl, sym, ◌∙◌, ap, subst, arith, append_assoc, append-nil, eq-eqb, inl, inr, Option, None, Some, Ok, Err, fold}
use Rattle.std.specs.Prelude.{nat_eq, ◌||◌, is_none, option_map}
use Rattle.std.specs.Option.{option_map_or}
use Rattle.std.specs.List.{AllByRecursion, AllZip, IsDistinct, list_any}
use Rattle.std.proofs.lemmas.List.Elements.{filter-append}
use Rattle.std.proofs.lemmas.Bool.{eqb-true, ne_eqb, cases_Bool, cases_eq, cond-true, false≢true, or_parts, or_from, not_from_true, not-false}
use Rattle.ogg_page.specs.Page.{Page, IsPage}
use Rattle.ogg_page.specs.LogicalStream.{FitsBehind, is_last}
use Rattle.link_chain.specs.declared.stream_state.StreamState.{StreamState}
use Rattle.ogg_command.specs.declared.command.Command.{Command}
use Rattle.ogg_command.specs.declared.command.Command.TheVariants.{Begin as BeginOf, Put as PutOf, End as EndOf}
use Rattle.ogg_command.specs.declared.command.Begin.{Begin}
use Rattle.ogg_command.specs.declared.command.NewStream.{NewStream}
use Rattle.ogg_command.specs.declared.command.Entry.{Entry}
use Rattle.ogg_command.specs.declared.refusal.Refusal.{Refusal}
use Rattle.ogg_command.specs.Command.{IsCommand}
use Rattle.link_chain.specs.Links.{IsLink, AreLinks, AllButLast, pages_with, serials_of, has_stream, has_ended, all_ended}
use Rattle.chain_rules.specs.Recording.{Stream, Recording, HoldsStream, HoldsLink, HoldsLinks, with_packet, with_end, add}
use Rattle.link_chain.specs.ChainState.{ChainState, chain_state_of, state_of, last_link, is_open}
use Rattle.chain_rules.specs.Encoding.{links_after}
use Rattle.link_chain.specs.Progress.{stream_in, moved_to, with_position}
use Rattle.link_chain.specs.Rules.{Rule, first_broken}
use Rattle.chain_rules.specs.Decision.{decision, rules_for, size_of, begin_rules, streams_rules, put_rules, entries_rules, end_rules, room_rules}
use Rattle.link_chain.specs.Laws.LastLink.{all_split, any_map, found_at, some_not, last_changed}
use Rattle.link_chain.specs.Laws.Fronts.{behind_at}
use Rattle.link_chain.specs.Laws.TakenLinks.{without}
use Rattle.import_commands.specs.Commands.{page_packets, entry_of, put_of, end_of, page_commands, pages_commands, new_stream, link_commands, commands_of, of_input, RefusedByInput, AddsItsPackets}
use Rattle.import_commands.proofs.AddUp.{map_alike, map_self, folded, grow, end_by, behind, IsFound, one_page, serials_held, all_found, begun_as, held_whole}
use Rattle.import_commands.proofs.AreCommands.{page_is, link_is, IsStream, are_streams, small_serials}
use Rattle.ogg_page.specs.Laws.PageBytes.{all_both}
use Rattle.link_chain.specs.Laws.LeftWhole.{none_open}
use Rattle.link_chain.specs.Laws.StateBehind.{map-map}
use Rattle.link_chain.specs.Laws.Grow.{all_weaker}

-- ---- rules
abbrev Sound : Rule Refusal → Type 0
Sound rule = rule.0 ≡ true → of_input rule.1 ≡ true

abbrev AreSound : List (Rule Refusal) → Type 0
AreSound rules = AllByRecursion Sound rules

pub unbroken : {r : Bool} {b : Bool} → b ≡ false → b ≡ true → r ≡ true
unbroken e f = absurd (false≢true (sym e ∙ f))

first_is : (rules : List (Rule Refusal)) → AreSound rules → (refusal : Refusal) → first_broken rules ≡ Some refusal → of_input refusal ≡ true
first_is [] sound refusal e = cc
first_is (rule ∷ rules) sound refusal e = by_case rule.0 refl (λ f. first_is rules sound.1 refusal f) e
  where
    by_case : (b : Bool) → rule.0 ≡ b → (first_broken rules ≡ Some refusal → of_input refusal ≡ true) → cond b (Some rule.1) (first_broken rules) ≡ Some refusal → of_input refusal ≡ true
    by_case true f rest e = sym (ap (λ o. option_map_or of_input o true) e) ∙ sound.0 f
    by_case false f rest e = rest e

pub broken_is : (o : Option Refusal) (size : ℕ) (refusal : Refusal) → option_map_or (λ r. Err r) o (Ok size) ≡ Err refusal → o ≡ Some refusal
broken_is None size refusal e = cc
broken_is (Some r) size refusal e = cc

refused_is : (chain : ChainState) (command : Command) (refusal : Refusal) → AreSound (rules_for chain command) → decision chain command ≡ Err refusal → of_input refusal ≡ true
unfolding decision
refused_is chain command refusal sound e =
    first_is (rules_for chain command) sound refusal (broken_is (first_broken (rules_for chain command)) (size_of chain command) refusal e)

room_sound : (chain : ChainState) (command : Command) → AreSound (room_rules chain command)
room_sound chain command = (λ _. refl, (λ _. refl, (λ _. refl, (λ _. refl, tt))))

streams_sound : (chain : ChainState) (earlier : List ℕ) (streams : List NewStream) → AreSound (streams_rules chain false earlier streams)
streams_sound chain earlier [] = tt
streams_sound chain earlier (s ∷ streams) =
    (λ _. refl, (λ _. refl, (λ _. refl, (λ _. refl, (λ b. unbroken refl b, (λ b. unbroken refl b, streams_sound chain (s.serial ∷ earlier) streams))))))

-- ---- the stream is in the last link, and has not ended
abbrev Here : List StreamState → ℕ → Type 0
Here states serial = option_map (λ (s : StreamState). s.ended) (stream_in states serial) ≡ Some false

there : (o : Option StreamState) → option_map (λ (s : StreamState). s.ended) o ≡ Some false → (is_none o ≡ false) × (option_map_or (λ (s : StreamState). s.ended) o false ≡ false)
there None e = cc
there (Some s) e = (refl, cc)

pick : (c : Bool) (s t : StreamState) (o p : Option StreamState) → t.ended ≡ s.ended →
    option_map (λ (s : StreamState). s.ended) p ≡ option_map (λ (s : StreamState). s.ended) o →
    option_map (λ (s : StreamState). s.ended) (cond c (Some t) p) ≡ option_map (λ (s : StreamState). s.ended) (cond c (Some s) o)
pick true s t o p e f = ap Some e
pick false s t o p e f = f

here_moves : (moved position : ℕ) (states : List StreamState) (serial : ℕ) →
    option_map (λ (s : StreamState). s.ended) (stream_in (with_position moved position states) serial) ≡ option_map (λ (s : StreamState). s.ended) (stream_in states serial)
here_moves moved position [] serial = refl
here_moves moved position (s ∷ states) serial = by_case (nat_eq s.serial moved) (here_moves moved position states serial)
  where
    by_case : (b : Bool) →
        option_map (λ (s : StreamState). s.ended) (stream_in (with_position moved position states) serial) ≡ option_map (λ (s : StreamState). s.ended) (stream_in states serial) →
        option_map (λ (s : StreamState). s.ended) (stream_in (cond b (moved_to position s) s ∷ with_position moved position states) serial)
        ≡ option_map (λ (s : StreamState). s.ended) (stream_in (s ∷ states) serial)
    by_case true rest = pick (nat_eq s.serial serial) s (moved_to position s) (stream_in states serial) (stream_in (with_position moved position states) serial) refl rest
    by_case false rest = pick (nat_eq s.serial serial) s s (stream_in states serial) (stream_in (with_position moved position states) serial) refl rest

entries_sound : (serial : ℕ) (entries : List Entry) (states : List StreamState) → AllByRecursion (λ (e : Entry). e.serial ≡ serial) entries → Here states serial →
    AreSound (entries_rules states entries)
entries_sound serial [] states own here = tt
entries_sound serial (entry ∷ entries) states own here =
    let at : Here states entry.serial = subst (Here states) (sym own.0) here in
    let is : (is_none (stream_in states entry.serial) ≡ false) × (option_map_or (λ (s : StreamState). s.ended) (stream_in states entry.serial) false ≡ false) =
    there (stream_in states entry.serial) at in (
      λ _. refl,
      (
        λ b. unbroken is.0 b,
        (
          λ b. unbroken is.1 b,
          (
            λ _. refl,
            (
              λ _. refl,
              entries_sound serial entries (with_position entry.serial entry.position states) own.1 (here_moves entry.serial entry.position states serial ∙ here),
            ),
          ),
        ),
      ),
    )

-- ---- links that hold a recording; the last link's stream is open
record State (links : List (List Page)) (recording : Recording) : Type 0 where
  pub bytes : List ℕ
  pub are : AreLinks bytes links
  pub holds : HoldsLinks links recording
  law : AddsItsPackets

held_last : (links : List (List Page)) (recording : Recording) (streams : List Stream) → HoldsLinks links (recording ++ streams ∷ []) → HoldsLink (last_link links) streams
held_last [] [] streams h = absurd h
held_last [] (r ∷ recording) streams h = absurd h
held_last (link ∷ []) [] streams h = h.0
held_last (link ∷ next ∷ links) [] streams h = absurd h.1
held_last (link ∷ []) (r ∷ []) streams h = absurd h.1
held_last (link ∷ []) (r ∷ s ∷ recording) streams h = absurd h.1
held_last (link ∷ next ∷ links) (r ∷ recording) streams h = held_last (next ∷ links) recording streams h.1

record Open (streams : List Stream) (serial : ℕ) : Type 0 where
  pub known : list_any (nat_eq serial) (map (λ (s : Stream). s.serial) streams) ≡ true
  pub going : AllByRecursion (λ (s : Stream). s.serial ≡ serial → s.ended ≡ false) streams

ended_at : (link : List Page) (serial : ℕ) (serials : List ℕ) (streams : List Stream) → AllZip (HoldsStream link) serials streams →
    list_any (nat_eq serial) serials ≡ true → AllByRecursion (λ (s : Stream). s.serial ≡ serial → s.ended ≡ false) streams → has_ended link serial ≡ false
ended_at link serial [] streams h known going = cc
ended_at link serial (n ∷ serials) [] h known going = absurd h
ended_at link serial (n ∷ serials) (s ∷ streams) h known going =
    elim (cases_eq serial n) [
      | inl same ↦ ap (has_ended link) same ∙ sym h.0.ended ∙ going.0 (h.0.serial_is ∙ sym same)
      | inr other ↦
          ended_at link serial serials streams h.1 (sym (ap (λ b. b || list_any (nat_eq serial) serials) (ne_eqb serial n other)) ∙ known) going.1
    ]

record Going (links : List (List Page)) (serial : ℕ) : Type 0 where
  pub here : Here (chain_state_of links).streams serial
  pub open_is : is_open (chain_state_of links) ≡ true

going_on : (links : List (List Page)) (recording : Recording) (streams : List Stream) (serial : ℕ) → HoldsLinks links (recording ++ streams ∷ []) → Open streams serial →
    Going links serial
going_on links recording streams serial h o =
    let link : List Page = last_link links in
    let held : HoldsLink link streams = held_last links recording streams h in
    let known : list_any (nat_eq serial) (serials_of link) ≡ true =
    ap (list_any (nat_eq serial)) (sym (serials_held link (serials_of link) streams held)) ∙ o.known in
    let not_yet : has_ended link serial ≡ false = ended_at link serial (serials_of link) streams held known o.going in
    record {
      here = ap (option_map (λ (s : StreamState). s.ended)) (found_at link serial (serials_of link) known) ∙ ap Some not_yet;
      open_is = any_map (λ (s : StreamState). not s.ended) (state_of link) (serials_of link) ∙ some_not (has_ended link) serial (serials_of link) known not_yet;
    }

open_packet : (serial : ℕ) (streams : List Stream) (entry : Entry) → Open streams serial → Open (with_packet streams entry) serial
open_packet serial streams entry o =
    record {
      known = ap (list_any (nat_eq serial)) (same_serials streams) ∙ o.known;
      going = all_mapped streams o.going;
    }
  where
    serial_same : (s : Stream) (b : Bool) → (cond b (record s { packets = s.packets ++ entry.packet ∷ [] }) s).serial ≡ s.serial
    serial_same s true = refl
    serial_same s false = refl

    ended_same : (s : Stream) (b : Bool) → (cond b (record s { packets = s.packets ++ entry.packet ∷ [] }) s).ended ≡ s.ended
    ended_same s true = refl
    ended_same s false = refl

    same_serials : (streams : List Stream) → map (λ (s : Stream). s.serial) (with_packet streams entry) ≡ map (λ (s : Stream). s.serial) streams
    same_serials [] = refl
    same_serials (s ∷ streams) =
        ap (λ n. n ∷ map (λ (s : Stream). s.serial) (with_packet streams entry)) (serial_same s (nat_eq s.serial entry.serial)) ∙ ap (λ l. s.serial ∷ l) (same_serials streams)

    all_mapped : (streams : List Stream) → AllByRecursion (λ (s : Stream). s.serial ≡ serial → s.ended ≡ false) streams →
        AllByRecursion (λ (s : Stream). s.serial ≡ serial → s.ended ≡ false) (with_packet streams entry)
    all_mapped [] h = tt
    all_mapped (s ∷ streams) h =
        (λ e. ended_same s (nat_eq s.serial entry.serial) ∙ h.0 (sym (serial_same s (nat_eq s.serial entry.serial)) ∙ e), all_mapped streams h.1)

open_packets : (serial : ℕ) (entries : List Entry) (streams : List Stream) → Open streams serial → Open (fold with_packet streams entries) serial
open_packets serial [] streams o = o
open_packets serial (entry ∷ entries) streams o = open_packets serial entries (with_packet streams entry) (open_packet serial streams entry o)

-- ---- one command
one : (links : List (List Page)) (recording : Recording) (command : Command) (rest : List Command) → State links recording → IsCommand command →
    AreSound (rules_for (chain_state_of links) command) → ((new : List (List Page)) → State new (add recording command) → RefusedByInput new rest) →
    RefusedByInput links (command ∷ rest)
one links recording command rest s is sound go = (
  λ refusal e. refused_is (chain_state_of links) command refusal sound e,
  λ size e.
      let held = s.law s.bytes links recording command size is s.are s.holds e in
      go (links_after links command) (record { bytes = _; are = held.0; holds = held.1; law = s.law }),
)

put_step : (links : List (List Page)) (recording : Recording) (streams : List Stream) (serial : ℕ) (entries : List Entry) (rest : List Command) →
    State links (recording ++ streams ∷ []) → AllByRecursion IsCommand (put_of entries) → AllByRecursion (λ (e : Entry). e.serial ≡ serial) entries → Open streams serial →
    ((new : List (List Page)) → State new (recording ++ fold with_packet streams entries ∷ []) → RefusedByInput new rest) → RefusedByInput links (put_of entries ++ rest)
put_step links recording streams serial [] rest s is own o go = go links s
put_step links recording streams serial (entry ∷ entries) rest s is own o go =
    let chain : ChainState = chain_state_of links in
    let going : Going links serial = going_on links recording streams serial s.holds o in
    let first : AreSound (put_rules chain (entry ∷ entries)) =
    (λ b. unbroken (not_from_true (is_open chain) going.open_is) b, (λ b. absurd (omega (arith, eqb-true (suc (length entries)) 0 b)), (λ _. refl, tt))) in
    one links (recording ++ streams ∷ []) (PutOf (record { entries = entry ∷ entries })) rest s is.0
    (all_both Sound (put_rules chain (entry ∷ entries) ++ entries_rules chain.streams (entry ∷ entries)) (room_rules chain (PutOf (record { entries = entry ∷ entries })))
    (all_both Sound (put_rules chain (entry ∷ entries)) (entries_rules chain.streams (entry ∷ entries)) first (entries_sound serial (entry ∷ entries) chain.streams own going.here))
    (room_sound chain (PutOf (record { entries = entry ∷ entries }))))
    (λ new t. go new (subst (State new) (last_changed (λ link. fold with_packet link (entry ∷ entries)) recording streams) t))

end_step : (links : List (List Page)) (recording : Recording) (streams : List Stream) (page : Page) (rest : List Command) →
    State links (recording ++ streams ∷ []) → page.serial < 2 ^ 32 → Open streams page.serial →
    ((new : List (List Page)) → State new (recording ++ cond (is_last page) (with_end page.serial streams) streams ∷ []) → RefusedByInput new rest) →
    RefusedByInput links (end_of page ++ rest)
end_step links recording streams page rest s small o go = by_case (is_last page) go
  where
    chain : ChainState
    chain = chain_state_of links

    going : Going links page.serial
    going = going_on links recording streams page.serial s.holds o

    by_case : (b : Bool) → ((new : List (List Page)) → State new (recording ++ cond b (with_end page.serial streams) streams ∷ []) → RefusedByInput new rest) →
        RefusedByInput links (cond b (EndOf page.serial ∷ []) [] ++ rest)
    by_case true go =
        let is : (is_none (stream_in (chain_state_of links).streams page.serial) ≡ false)
        × (option_map_or (λ (s : StreamState). s.ended) (stream_in (chain_state_of links).streams page.serial) false ≡ false) =
        there (stream_in (chain_state_of links).streams page.serial) going.here in
        one links (recording ++ streams ∷ []) (EndOf page.serial) rest s small
        (all_both Sound (end_rules (chain_state_of links) page.serial) (room_rules (chain_state_of links) (EndOf page.serial))
        (λ b. unbroken (not_from_true (is_open (chain_state_of links)) going.open_is) b, (λ b. unbroken is.0 b, (λ b. unbroken is.1 b, tt)))
        (room_sound (chain_state_of links) (EndOf page.serial)))
        (λ new t. go new (subst (State new) (last_changed (with_end page.serial) recording streams) t))
    by_case false go = go links s

-- ---- one page
entries_own : (page : Page) (packets : List (List ℕ)) → AllByRecursion (λ (e : Entry). e.serial ≡ page.serial) (map (entry_of page) packets)
entries_own page [] = tt
entries_own page (packet ∷ packets) = (refl, entries_own page packets)

own_split : (before : List Page) (page : Page) (pages : List Page) →
    pages_with page.serial (before ++ page ∷ pages) ≡ pages_with page.serial before ++ page ∷ pages_with page.serial pages
own_split before page pages =
    filter-append (λ (p : Page). nat_eq p.serial page.serial) before (page ∷ pages)
    ∙ ap (λ l. pages_with page.serial before ++ l)
    (cond-true (nat_eq page.serial page.serial) (page ∷ pages_with page.serial pages) (pages_with page.serial pages) (eq-eqb page.serial page.serial refl))

not_empty : (before : List Page) (page : Page) (pages : List Page) → before ++ page ∷ pages ≡ [] → ⊥
not_empty [] page pages e = cc
not_empty (b ∷ before) page pages e = cc

known_in : (link before : List Page) (page : Page) (pages : List Page) → IsLink link → link ≡ before ++ page ∷ pages → has_stream link page.serial ≡ true
known_in link before page pages l split =
    elim (cases_Bool (has_stream link page.serial)) [
      | inl yes_so ↦ yes_so
      | inr not_so ↦ absurd (not_empty (pages_with page.serial before) page (pages_with page.serial pages)
          (sym (ap (pages_with page.serial) split ∙ own_split before page pages) ∙ without link page.serial l not_so))
    ]

not_yet_ended : (link before : List Page) (page : Page) (pages : List Page) → IsLink link → link ≡ before ++ page ∷ pages → has_ended before page.serial ≡ false
not_yet_ended link before page pages l split =
    let fits : FitsBehind (pages_with page.serial before) page =
    behind_at FitsBehind [] (pages_with page.serial link) (l.streams page.serial) (pages_with page.serial before) (pages_with page.serial pages) page
    (ap (pages_with page.serial) split ∙ own_split before page pages) in
    fits.last

open_now : (headers : ℕ → ℕ) (streams : List Stream) (link before : List Page) (serial : ℕ) → map (λ (s : Stream). s.serial) streams ≡ serials_of link →
    has_stream link serial ≡ true → has_ended before serial ≡ false → Open (map (behind headers before) streams) serial
open_now headers streams link before serial serials known going =
    record {
      known = ap (list_any (nat_eq serial)) (map-map (λ (s : Stream). s.serial) (behind headers before) streams ∙ serials) ∙ known;
      going = each streams;
    }
  where
    each : (streams : List Stream) → AllByRecursion (λ (s : Stream). s.serial ≡ serial → s.ended ≡ false) (map (behind headers before) streams)
    each [] = tt
    each (s ∷ streams) = (λ e. ap (has_ended before) e ∙ going, each streams)

ends_mapped : (page : Page) (f : Stream → Stream) (streams : List Stream) →
    cond (is_last page) (with_end page.serial (map f streams)) (map f streams) ≡ map (λ s. end_by page (f s)) streams
ends_mapped page f streams = by_case (is_last page)
  where
    by_case : (b : Bool) → cond b (with_end page.serial (map f streams)) (map f streams)
        ≡ map (λ (s : Stream). cond b (cond (nat_eq (f s).serial page.serial) (record (f s) { ended = true }) (f s)) (f s)) streams
    by_case true = map-map (λ (s : Stream). cond (nat_eq s.serial page.serial) (record s { ended = true }) s) f streams
    by_case false = refl

page_step : (headers : ℕ → ℕ) (links : List (List Page)) (recording : Recording) (streams : List Stream) (link before : List Page) (page : Page) (pages : List Page)
    (rest : List Command) → IsLink link → IsPage page → AllByRecursion IsStream streams → link ≡ before ++ page ∷ pages →
    map (λ (s : Stream). s.serial) streams ≡ serials_of link → AllByRecursion (IsFound streams) streams →
    State links (recording ++ map (behind headers before) streams ∷ []) →
    ((new : List (List Page)) → State new (recording ++ map (behind headers (before ++ page ∷ [])) streams ∷ []) → RefusedByInput new rest) →
    RefusedByInput links (page_commands headers streams before page ++ rest)
page_step headers links recording streams link before page pages rest l p are split serials found s go =
    let now : List Stream = map (behind headers before) streams in
    let packets : List (List ℕ) = page_packets headers streams before page in
    let entries : List Entry = map (entry_of page) packets in
    let behind_put : List Stream = fold with_packet now entries in
    let is : AllByRecursion IsCommand (put_of entries) × AllByRecursion IsCommand (end_of page) =
    all_split IsCommand (put_of entries) (end_of page) (page_is headers streams before page are p) in
    let o : Open now page.serial =
    open_now headers streams link before page.serial serials (known_in link before page pages l split) (not_yet_ended link before page pages l split) in
    let same : cond (is_last page) (with_end page.serial behind_put) behind_put ≡ map (behind headers (before ++ page ∷ [])) streams =
    ap (λ y. cond (is_last page) (with_end page.serial y) y) (folded (behind headers before) entries streams)
    ∙ ends_mapped page (λ stream. fold grow (behind headers before stream) entries) streams
    ∙ map_alike (λ s. end_by page (fold grow (behind headers before s) entries)) (behind headers (before ++ page ∷ [])) streams
    (all_weaker (IsFound streams) (λ s. end_by page (fold grow (behind headers before s) entries) ≡ behind headers (before ++ page ∷ []) s)
    (λ s f. one_page headers streams before page s f) streams found) in
    subst (λ (c : List Command). RefusedByInput links c) (sym (append_assoc (put_of entries) (end_of page) rest))
    (put_step links recording now page.serial entries (end_of page ++ rest) s is.0 (entries_own page packets) o
    (λ new t. end_step new recording behind_put page rest t p.serial (open_packets page.serial entries now o)
    (λ last u. go last (subst (λ (x : List Stream). State last (recording ++ x ∷ [])) same u))))

pages_step : (headers : ℕ → ℕ) (links : List (List Page)) (recording : Recording) (streams : List Stream) (link before pages : List Page)
    (rest : List Command) → IsLink link → AllByRecursion IsPage pages → AllByRecursion IsStream streams → link ≡ before ++ pages →
    map (λ (s : Stream). s.serial) streams ≡ serials_of link → AllByRecursion (IsFound streams) streams →
    State links (recording ++ map (behind headers before) streams ∷ []) →
    ((new : List (List Page)) → State new (recording ++ map (behind headers link) streams ∷ []) → RefusedByInput new rest) →
    RefusedByInput links (pages_commands headers streams before pages ++ rest)
pages_step headers links recording streams link before [] rest l all are split serials found s go =
    go links (subst (λ (x : List Page). State links (recording ++ map (behind headers x) streams ∷ [])) (sym (split ∙ append-nil before)) s)
pages_step headers links recording streams link before (page ∷ pages) rest l all are split serials found s go =
    subst (λ (c : List Command). RefusedByInput links c)
    (sym (append_assoc (page_commands headers streams before page) (pages_commands headers streams (before ++ page ∷ []) pages) rest))
    (page_step headers links recording streams link before page pages (pages_commands headers streams (before ++ page ∷ []) pages ++ rest) l all.0 are split serials found s
    (λ new t. pages_step headers new recording streams link (before ++ page ∷ []) pages rest l all.1 are (split ∙ sym (append_assoc before (page ∷ []) pages)) serials found t go))

-- ---- one link
some_serials : (link : List Page) → IsLink link → serials_of link ≡ [] → ⊥
some_serials link l e = by_case l.first_pages refl
  where
    by_case : (firsts : List Page) → l.first_pages ≡ firsts → ⊥
    by_case [] f = omega (arith, l.some, ap length f)
    by_case (page ∷ firsts) f =
        false≢true (sym (ap (list_any (nat_eq page.serial)) e) ∙ known_in link [] page (firsts ++ l.others) l (l.split ∙ ap (λ x. x ++ l.others) f))

some_begun : (headers : ℕ → ℕ) (streams : List Stream) → (map (λ (s : Stream). s.serial) streams ≡ [] → ⊥) → nat_eq (length (map (new_stream headers) streams)) 0 ≡ false
some_begun headers [] ne = absurd (ne refl)
some_begun headers (s ∷ streams) ne = ne_eqb (suc (length (map (new_stream headers) streams))) 0 (λ e. omega (arith, e))

link_step : (headers : ℕ → ℕ) (links : List (List Page)) (recording : Recording) (link : List Page) (streams : List Stream) (rest : List Command) →
    IsLink link → AllByRecursion IsPage link → HoldsLink link streams → State links recording → is_open (chain_state_of links) ≡ false →
    ((new : List (List Page)) → State new (recording ++ streams ∷ []) → RefusedByInput new rest) → RefusedByInput links (link_commands headers link streams ++ rest)
link_step headers links recording link streams rest l all h s closed go =
    let chain : ChainState = chain_state_of links in
    let begin : Begin = record { skeleton = None; streams = map (new_stream headers) streams } in
    let serials : map (λ (s : Stream). s.serial) streams ≡ serials_of link = serials_held link (serials_of link) streams h in
    let found : AllByRecursion (IsFound streams) streams = all_found streams (subst (λ (n : List ℕ). IsDistinct nat_eq n) (sym serials) l.distinct) in
    let are : AllByRecursion IsStream streams = are_streams link (serials_of link) streams all (small_serials link all) h in
    let some : nat_eq (length begin.streams) 0 ≡ false = some_begun headers streams (λ e. some_serials link l (sym serials ∙ e)) in
    one links recording (BeginOf begin) (pages_commands headers streams [] link ++ rest) s (link_is headers link streams all h).0
    (all_both Sound (begin_rules chain begin ++ streams_rules chain false [] begin.streams) (room_rules chain (BeginOf begin))
    (all_both Sound (begin_rules chain begin) (streams_rules chain false [] begin.streams)
    (λ b. unbroken closed b, (λ b. unbroken some b, (λ _. refl, tt))) (streams_sound chain [] begin.streams))
    (room_sound chain (BeginOf begin)))
    (λ new t. pages_step headers new recording streams link [] link rest l all are refl serials found
    (subst (λ (x : List Stream). State new (recording ++ x ∷ [])) (begun_as headers streams) t)
    (λ last u. go last (subst (λ (x : List Stream). State last (recording ++ x ∷ [])) (map_self (behind headers link) streams (held_whole headers link (serials_of link) streams h)) u)))

-- ---- links
streams_ended : (link : List Page) (serials : List ℕ) (streams : List Stream) → AllZip (HoldsStream link) serials streams →
    list_any (λ serial. not (has_ended link serial)) serials ≡ false → AllByRecursion (λ (s : Stream). s.ended ≡ true) streams
streams_ended link [] [] h e = tt
streams_ended link [] (s ∷ streams) h e = absurd h
streams_ended link (n ∷ serials) [] h e = tt
streams_ended link (n ∷ serials) (s ∷ streams) h e =
    let parts : (not (has_ended link n) ≡ false) × (list_any (λ serial. not (has_ended link serial)) serials ≡ false) =
    or_parts (not (has_ended link n)) (list_any (λ serial. not (has_ended link serial)) serials) e in
    (h.0.ended ∙ not-false (has_ended link n) parts.0, streams_ended link serials streams h.1 parts.1)

ended_streams : (link : List Page) (serials : List ℕ) (streams : List Stream) → AllZip (HoldsStream link) serials streams →
    AllByRecursion (λ (s : Stream). s.ended ≡ true) streams → list_any (λ serial. not (has_ended link serial)) serials ≡ false
ended_streams link [] streams h e = refl
ended_streams link (n ∷ serials) [] h e = absurd h
ended_streams link (n ∷ serials) (s ∷ streams) h e =
    or_from (not (has_ended link n)) (list_any (λ serial. not (has_ended link serial)) serials) (ap not (sym h.0.ended ∙ e.0)) (ended_streams link serials streams h.1 e.1)

closed_behind : (links : List (List Page)) (recording : Recording) (link : List Page) (streams : List Stream) → State links (recording ++ streams ∷ []) →
    HoldsLink link streams → all_ended link ≡ true → is_open (chain_state_of links) ≡ false
closed_behind links recording link streams s h e =
    let last : List Page = last_link links in
    any_map (λ (s : StreamState). not s.ended) (state_of last) (serials_of last)
    ∙ ended_streams last (serials_of last) streams (held_last links recording streams s.holds) (streams_ended link (serials_of link) streams h (none_open link e))

links_step : (headers : List Stream → ℕ → ℕ) (done : List (List Page)) (before : Recording) (links : List (List Page)) (recording : Recording) →
    AllByRecursion (AllByRecursion IsPage) links → AllByRecursion IsLink links → AllButLast (λ link. all_ended link ≡ true) links → HoldsLinks links recording →
    State done before → is_open (chain_state_of done) ≡ false → RefusedByInput done (commands_of headers links recording)
links_step headers done before [] recording all each ended h s closed = tt
links_step headers done before (link ∷ links) [] all each ended h s closed = tt
links_step headers done before (link ∷ []) (r ∷ recording) all each ended h s closed =
    link_step (headers r) done before link r [] each.0 all.0 h.0 s closed (λ new t. tt)
links_step headers done before (link ∷ next ∷ links) (r ∷ recording) all each ended h s closed =
    link_step (headers r) done before link r (commands_of headers (next ∷ links) recording) each.0 all.0 h.0 s closed
    (λ new t. links_step headers new (before ++ r ∷ []) (next ∷ links) recording all.1 each.1 ended.1 h.1 t (closed_behind new before link r t h.0 ended.0))

pub by_input : AddsItsPackets → (headers : List Stream → ℕ → ℕ) (bytes : List ℕ) (links : List (List Page)) (recording : Recording) → AreLinks bytes links → HoldsLinks links recording →
    RefusedByInput [] (commands_of headers links recording)
by_input law headers bytes links recording are h =
    let none : State [] [] = record { bytes = []; are = record { spelled = refl; pages = tt; few = omega arith; each = tt; ended = tt }; holds = tt; law = law } in
    links_step headers [] [] links recording are.pages are.each are.ended h none refl
