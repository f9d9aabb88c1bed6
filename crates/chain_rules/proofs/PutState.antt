-- The chain state after a put and after the end of a stream.
use Rattle.std.proofs.Common.{◌≡◌, ◌≢◌, ℕ, ◌+◌, ◌<◌, ◌^◌, Bool, true, false, cond, List, [], ◌∷◌, ◌++◌, length, map, refl, sym, ◌∙◌, ap, subst, arith, append_assoc, Option, Some, Ok}
use Rattle.std.specs.Prelude.{nat_eq, is_none}
use Rattle.std.specs.List.{AllByRecursion, fold}
use Rattle.std.proofs.lemmas.Bool.{leb-false, not-false}
use Rattle.std.proofs.lemmas.List.{append-nil, length-map}
use Rattle.std.proofs.lemmas.List.Sums.{sum_by-append}
use Rattle.ogg_page.specs.Page.{Page, page_size}
use Rattle.ogg_page.specs.LogicalStream.{number_behind}
use Rattle.packetiser.specs.Run.{Timed, pages_of_run}
use Rattle.packetiser.specs.Laws.Pieces.{run_pages}
use Rattle.ogg_command.specs.declared.command.Command.TheVariants.{Put as PutOf}
use Rattle.ogg_command.specs.declared.command.Entry.{Entry}
use Rattle.ogg_command.specs.declared.command.Put.{Put}
use Rattle.link_chain.specs.declared.stream_state.StreamState.{StreamState}
use Rattle.link_chain.specs.Links.{pages_with}
use Rattle.link_chain.specs.ChainState.{ChainState, chain_state_of, state_of, last_link, is_open}
use Rattle.link_chain.specs.Progress.{change_at, advanced, moved_to, next_in, stream_in, brought_to, with_position}
use Rattle.chain_rules.specs.Decision.{decision, rules_for, entries_rules, room_rules}
use Rattle.chain_rules.specs.Encoding.{timed, with_pages, run_serial, run_position, pages_behind, with_run, with_front, runs_of, pages_of_runs, pages_of_command, links_after}
use Rattle.link_chain.specs.Size.{size_of_pages}
use Rattle.link_chain.specs.Laws.LastLink.{known_stream, next_is, open_some, all_split}
use Rattle.chain_rules.proofs.Unbroken.{no_rule_broken, Unbroken}
use Rattle.chain_rules.proofs.LastPage.{end_position}
use Rattle.command_pages.specs.Laws.Runs.{some_values}
use Rattle.link_chain.specs.Laws.StateBehind.{state_behind}
use Rattle.chain_rules.proofs.RunState.{run_own, run_unmarked, run_state}
use Rattle.link_chain.specs.Followed.{moved_on, moved_by}

-- ---- streams that are looked up after a change
pub looked_up : (serial : ℕ) (change : StreamState → StreamState) → ((s : StreamState) → (change s).serial ≡ s.serial) → (streams : List StreamState) (other : ℕ) →
    is_none (stream_in (map (change_at serial change) streams) other) ≡ is_none (stream_in streams other)
looked_up serial change same [] other = refl
looked_up serial change same (stream ∷ streams) other =
    ap (λ n. is_none (cond (nat_eq n other) (Some (change_at serial change stream)) (stream_in (map (change_at serial change) streams) other))) (kept stream)
    ∙ either (nat_eq stream.serial other) (change_at serial change stream) stream (stream_in (map (change_at serial change) streams) other) (stream_in streams other)
    (looked_up serial change same streams other)
  where
    keeps : (b : Bool) (s : StreamState) → (cond b (change s) s).serial ≡ s.serial
    keeps true s = same s
    keeps false s = refl

    kept : (s : StreamState) → (change_at serial change s).serial ≡ s.serial
    kept s = keeps (nat_eq s.serial serial) s

    either : (b : Bool) (x y : StreamState) (o p : Option StreamState) → is_none o ≡ is_none p → is_none (cond b (Some x) o) ≡ is_none (cond b (Some y) p)
    either true x y o p e = refl
    either false x y o p e = e

-- ---- entries that break no rule
pub record IsReady (streams : List StreamState) (entry : Entry) : Type 0 where
  pub known : is_none (stream_in streams entry.serial) ≡ false
  pub small : entry.position < 2 ^ 63

pub ready_entries : (streams now : List StreamState) (entries : List Entry) → ((serial : ℕ) → is_none (stream_in now serial) ≡ is_none (stream_in streams serial)) →
    Unbroken (entries_rules now entries) → AllByRecursion (IsReady streams) entries
ready_entries streams now [] same h = tt
ready_entries streams now (entry ∷ entries) same h = (
  record { known = sym (same entry.serial) ∙ h.1.0; small = leb-false (2 ^ 63) entry.position h.1.1.1.0 },
  ready_entries streams (with_position entry.serial entry.position now) entries
      (λ serial. looked_up entry.serial (moved_to entry.position) (λ s. refl) now serial ∙ same serial) h.1.1.1.1.1,
)

-- ---- runs that break no rule
record IsReadyRun (streams : List StreamState) (run : List Entry) : Type 0 where
  some : 0 < length run
  known : is_none (stream_in streams (run_serial run)) ≡ false
  small : run_position run < 2 ^ 63

front_ready : (streams : List StreamState) (entry : Entry) (runs : List (List Entry)) → IsReady streams entry → AllByRecursion (IsReadyRun streams) runs →
    AllByRecursion (IsReadyRun streams) (with_front entry runs)
front_ready streams entry [] ready h = (record { some = omega arith; known = ready.known; small = ready.small }, tt)
front_ready streams entry ([] ∷ runs) ready h = absurd (omega (arith, h.0.some))
front_ready streams entry ((next ∷ run) ∷ runs) ready h =
    either (nat_eq entry.serial next.serial) ((entry ∷ next ∷ run) ∷ runs) ((entry ∷ []) ∷ (next ∷ run) ∷ runs)
    (record { some = omega arith; known = ready.known; small = h.0.small }, h.1)
    (record { some = omega arith; known = ready.known; small = ready.small }, h)
  where
    either : (b : Bool) (x y : List (List Entry)) → AllByRecursion (IsReadyRun streams) x → AllByRecursion (IsReadyRun streams) y → AllByRecursion (IsReadyRun streams) (cond b x y)
    either true x y p q = p
    either false x y p q = q

ready_runs : (streams : List StreamState) (entries : List Entry) → AllByRecursion (IsReady streams) entries → AllByRecursion (IsReadyRun streams) (runs_of entries)
ready_runs streams [] h = tt
ready_runs streams (entry ∷ entries) h = front_ready streams entry (runs_of entries) h.0 (ready_runs streams entries h.1)

-- ---- the state after a run
end_of_run : (run : List Entry) → 0 < length run → end_position (map timed run) ≡ run_position run
end_of_run [] some = absurd (omega arith)
end_of_run (entry ∷ []) some = refl
end_of_run (entry ∷ next ∷ run) some = end_of_run (next ∷ run) (omega arith)

behind_run : (links : List (List Page)) (run : List Entry) → links ≢ [] → IsReadyRun (chain_state_of links).streams run →
    let chain : ChainState = chain_state_of links in
    chain_state_of (with_pages links (pages_behind chain.streams run))
    ≡ moved_by chain (run_serial run) (advanced (next_in chain.streams (run_serial run) + length (pages_behind chain.streams run)) (run_position run)) (size_of_pages (pages_behind chain.streams run))
behind_run links run some ready =
    let chain : ChainState = chain_state_of links in
    let serial : ℕ = run_serial run in
    let next : ℕ = next_in chain.streams serial in
    let items : List Timed = map timed run in
    let known = known_stream links serial ready.known in
    let many : 0 < length items = omega (arith, length-map run timed, ready.some) in
    let last : end_position items ≡ run_position run = end_of_run run ready.some in
    let number : number_behind (pages_with serial (last_link links)) ≡ next = sym (next_is links serial known.0) in
    state_behind links (pages_of_run serial next items) serial (advanced (next + length (pages_of_run serial next items)) (run_position run)) some
    (omega (arith, run_pages serial next items, some_values items, many))
    (run_own serial next items) (run_unmarked serial next items)
    (run_state (last_link links) serial next items many (omega (arith, last, ready.small)) number
    ∙ ap (λ p. advanced (next + length (pages_of_run serial next items)) p (state_of (last_link links) serial)) last)

-- ---- the state after runs
with_none : (links : List (List Page)) → with_pages links [] ≡ links
with_none [] = refl
with_none (link ∷ []) = ap (λ l. l ∷ []) (append-nil link)
with_none (link ∷ next ∷ links) = ap (λ l. link ∷ l) (with_none (next ∷ links))

with_both : (links : List (List Page)) (a b : List Page) → with_pages links (a ++ b) ≡ with_pages (with_pages links a) b
with_both [] a b = refl
with_both (link ∷ []) a b = ap (λ l. l ∷ []) (sym (append_assoc link a b))
with_both (link ∷ next ∷ links) a b = ap (λ l. link ∷ l) (with_both (next ∷ links) a b) ∙ again link (next ∷ links) a b (λ e. cc)
  where
    again : (link : List Page) (links : List (List Page)) (a b : List Page) → links ≢ [] → link ∷ with_pages (with_pages links a) b ≡ with_pages (link ∷ with_pages links a) b
    again link [] a b some = absurd (some refl)
    again link (x ∷ []) a b some = refl
    again link (x ∷ y ∷ links) a b some = refl

with_some : (links : List (List Page)) (pages : List Page) → links ≢ [] → with_pages links pages ≢ []
with_some [] pages some = absurd (some refl)
with_some (link ∷ []) pages some = λ e. cc
with_some (link ∷ next ∷ links) pages some = λ e. cc

each_ready : (streams : List StreamState) (serial : ℕ) (sequence position : ℕ) (runs : List (List Entry)) → AllByRecursion (IsReadyRun streams) runs →
    AllByRecursion (IsReadyRun (brought_to serial sequence position streams)) runs
each_ready streams serial sequence position [] h = tt
each_ready streams serial sequence position (run ∷ runs) h = (
  record { some = h.0.some; known = looked_up serial (advanced sequence position) (λ s. refl) streams (run_serial run) ∙ h.0.known; small = h.0.small },
  each_ready streams serial sequence position runs h.1,
)

-- the chain goes on by the pages of the runs
abbrev GoesOn : List (List Entry) → List (List Page) → Type 0
GoesOn runs links =
    let chain : ChainState = chain_state_of links in
    chain_state_of (with_pages links (pages_of_runs chain.streams runs)) ≡ moved_on chain (fold with_run chain.streams runs) (size_of_pages (pages_of_runs chain.streams runs))

-- by the first run, and then by the others, as links do that have pages which are no stream's first
behind_first : (run : List Entry) (runs : List (List Entry)) (links : List (List Page)) → links ≢ [] → AllByRecursion (IsReadyRun (chain_state_of links).streams) (run ∷ runs) →
    ((links' : List (List Page)) → links' ≢ [] → (chain_state_of links').has_data ≡ true → AllByRecursion (IsReadyRun (chain_state_of links').streams) runs → GoesOn runs links') →
    GoesOn (run ∷ runs) links
behind_first run runs links some h others =
    let chain : ChainState = chain_state_of links in
    let pages : List Page = pages_behind chain.streams run in
    let links' : List (List Page) = with_pages links pages in
    let first : chain_state_of links' ≡ moved_on chain (with_run chain.streams run) (size_of_pages pages) = behind_run links run some h.0 in
    let streams : (chain_state_of links').streams ≡ with_run chain.streams run = ap (λ (c : ChainState). c.streams) first in
    let later = others links' (with_some links pages some) (ap (λ (c : ChainState). c.has_data) first)
    (subst (λ (l : List StreamState). AllByRecursion (IsReadyRun l) runs) (sym streams)
    (each_ready chain.streams (run_serial run) (next_in chain.streams (run_serial run) + length pages) (run_position run) runs h.1)) in
    let rest : List Page = pages_of_runs (with_run chain.streams run) runs in
    ap chain_state_of (with_both links pages rest ∙ ap (λ (l : List StreamState). with_pages links' (pages_of_runs l runs)) (sym streams))
    ∙ later
    ∙ ap (λ (c : ChainState). moved_on c (fold with_run c.streams runs) (size_of_pages (pages_of_runs c.streams runs))) first
    ∙ ap (λ n. record chain { streams = fold with_run (with_run chain.streams run) runs; has_data = true; length_of = n })
    (let e : chain.length_of + size_of_pages pages + size_of_pages rest ≡ chain.length_of + size_of_pages (pages ++ rest) = omega (arith, sum_by-append page_size pages rest) in e)

behind_later : (runs : List (List Entry)) (links : List (List Page)) → links ≢ [] → (chain_state_of links).has_data ≡ true → AllByRecursion (IsReadyRun (chain_state_of links).streams) runs →
    GoesOn runs links
behind_later [] links some has h =
    let chain : ChainState = chain_state_of links in
    ap chain_state_of (with_none links)
    ∙ ap (λ b. record chain { has_data = b }) has
    ∙ ap (λ n. record chain { has_data = true; length_of = n }) (let e : chain.length_of ≡ chain.length_of + 0 = omega arith in e)
behind_later (run ∷ runs) links some has h = behind_first run runs links some h (λ links' some' has' h'. behind_later runs links' some' has' h')

some_runs : (entries : List Entry) → 0 < length entries → runs_of entries ≢ []
some_runs [] some = absurd (omega arith)
some_runs (entry ∷ entries) some = not_nil entry (runs_of entries)
  where
    not_nil : (entry : Entry) (runs : List (List Entry)) → with_front entry runs ≢ []
    not_nil entry [] = λ e. cc
    not_nil entry ([] ∷ runs) = λ e. cc
    not_nil entry ((next ∷ run) ∷ runs) = either (nat_eq entry.serial next.serial)
      where
        either : (b : Bool) → cond b ((entry ∷ next ∷ run) ∷ runs) ((entry ∷ []) ∷ (next ∷ run) ∷ runs) ≢ []
        either true = λ e. cc
        either false = λ e. cc

behind_all : (runs : List (List Entry)) (links : List (List Page)) → runs ≢ [] → links ≢ [] → AllByRecursion (IsReadyRun (chain_state_of links).streams) runs → GoesOn runs links
behind_all [] links many some h = absurd (many refl)
behind_all (run ∷ runs) links many some h = behind_first run runs links some h (behind_later runs)

-- ---- a put that is kept
pub put_state : (links : List (List Page)) (put : Put) (size : ℕ) → decision (chain_state_of links) (PutOf put) ≡ Ok size →
    let chain : ChainState = chain_state_of links in
    chain_state_of (links_after links (PutOf put)) ≡ moved_on chain (fold with_run chain.streams (runs_of put.entries)) (size_of_pages (pages_of_runs chain.streams (runs_of put.entries)))
unfolding pages_of_command
put_state links put size e =
    let chain : ChainState = chain_state_of links in
    let kept : Unbroken (rules_for chain (PutOf put)) = no_rule_broken chain (PutOf put) size e in
    let items : Unbroken (entries_rules chain.streams put.entries) × Unbroken (room_rules chain (PutOf put)) =
    all_split (λ rule. rule.0 ≡ false) (entries_rules chain.streams put.entries) (room_rules chain (PutOf put)) kept.1.1.1 in
    let some : links ≢ [] = open_some links (not-false (is_open chain) kept.0) in
    behind_all (runs_of put.entries) links (some_runs put.entries (many put.entries kept.1.0)) some
    (ready_runs chain.streams put.entries (ready_entries chain.streams chain.streams put.entries (λ serial. refl) items.0))
  where
    many : (entries : List Entry) → nat_eq (length entries) 0 ≡ false → 0 < length entries
    many [] e = cc
    many (entry ∷ entries) e = omega arith
