-- What a command adds that isn't refused: at least one page. And the refusals that a decision can have.
use Rattle.std.proofs.Common.{◌≡◌, ◌≢◌, Bool, true, false, cond, ℕ, ◌<◌, ◌≤◌, List, [], ◌∷◌, ◌++◌, length, map, refl, subst, sym, ap, arith, length-append, Option, Some, None, Ok, Err}
use Rattle.std.specs.Prelude.{nat_eq, ⊤, if◌then◌else◌}
use Rattle.std.specs.List.{AllByRecursion}
use Rattle.ogg_page.specs.Page.{Page, IsPage}
use Rattle.packetiser.specs.Run.{Timed, pages_of_run}
use Rattle.packetiser.specs.Laws.Pieces.{run_pages}
use Rattle.link_chain.specs.Links.{AreLinks, IsLink, with_pages}
use Rattle.link_chain.specs.ChainState.{ChainState, chain_state_of, is_open}
use Rattle.link_chain.specs.Rules.{Rule, first_broken}
use Rattle.link_chain.specs.Progress.{next_in, with_position}
use Rattle.link_chain.specs.Laws.LastLink.{all_split, open_some}
use Rattle.link_chain.specs.declared.stream_state.StreamState.{StreamState}
use Rattle.ogg_command.specs.Command.{IsCommand}
use Rattle.ogg_command.specs.Refusal.{code_of}
use Rattle.ogg_command.specs.declared.command.Command.{Command}
use Rattle.ogg_command.specs.declared.command.Command.TheVariants.{Begin as BeginOf, Put as PutOf, End as EndOf}
use Rattle.ogg_command.specs.declared.command.SkeletonHead.{SkeletonHead}
use Rattle.ogg_command.specs.declared.command.NewStream.{NewStream}
use Rattle.ogg_command.specs.declared.command.Entry.{Entry}
use Rattle.ogg_command.specs.declared.refusal.Refusal.{Refusal}
use Rattle.ogg_command.specs.declared.refusal.Refusal.TheVariants.{Failed, LinkOpen, NoLink, Empty, TooMany, SerialTaken, NoHeader, HeadTooLong, PacketTooLong, BadType, BadRate, UnknownSerial, StreamEnded, PositionRange, PositionBack, BatchTooLong, SequenceEnd, LinksFull, FileFull, Memory, Disk}
use Rattle.chain_rules.specs.Recording.{Recording, HoldsLinks}
use Rattle.chain_rules.specs.Decision.{decision, answer, rules_for, begin_rules, skeleton_rules, stream_rules, streams_rules, parts_rules, item_rules, put_rules, entry_rules, entries_rules, end_rules, room_rules, size_of}
use Rattle.chain_rules.specs.Encoding.{pages_of_command, pages_behind, pages_of_runs, runs_of, with_front, with_run, timed}
use Rattle.chain_rules.proofs.Unbroken.{no_rule_broken, Unbroken}
use Rattle.chain_rules.proofs.Held.{is_held}
use Rattle.command_pages.specs.Laws.Runs.{some_values}
use Rattle.std.proofs.lemmas.Bool.{not-false}

-- ---- the refusals that a decision can have
-- the refusals of the table
abbrev IsDecided : Refusal → Type 0
IsDecided Failed = ⊥
IsDecided Memory = ⊥
IsDecided Disk = ⊥
IsDecided refusal = ⊤

abbrev AllDecided : List (Rule Refusal) → Type 0
AllDecided rules = AllByRecursion (λ (rule : Rule Refusal). IsDecided rule.1) rules

both : (xs ys : List (Rule Refusal)) → AllDecided xs → AllDecided ys → AllDecided (xs ++ ys)
both [] ys p q = q
both (x ∷ xs) ys p q = (p.0, both xs ys p.1 q)

streams_decided : (chain : ChainState) (skeleton : Bool) (earlier : List ℕ) (streams : List NewStream) → AllDecided (streams_rules chain skeleton earlier streams)
streams_decided chain skeleton earlier [] = tt
streams_decided chain skeleton earlier (stream ∷ streams) =
    both (stream_rules chain skeleton earlier stream) (streams_rules chain skeleton (stream.serial ∷ earlier) streams) (tt, (tt, (tt, (tt, (tt, (tt, tt)))))) (streams_decided chain skeleton (stream.serial ∷ earlier) streams)

parts_decided : (chain : ChainState) (skeleton : Option SkeletonHead) (streams : List NewStream) → AllDecided (parts_rules chain skeleton streams)
parts_decided chain None streams = streams_decided chain false [] streams
parts_decided chain (Some head) streams = both (skeleton_rules chain head) (streams_rules chain true (head.serial ∷ []) streams) (tt, (tt, tt)) (streams_decided chain true (head.serial ∷ []) streams)

entries_decided : (streams : List StreamState) (entries : List Entry) → AllDecided (entries_rules streams entries)
entries_decided streams [] = tt
entries_decided streams (entry ∷ entries) =
    both (entry_rules streams entry) (entries_rules (with_position entry.serial entry.position streams) entries) (tt, (tt, (tt, (tt, (tt, tt))))) (entries_decided (with_position entry.serial entry.position streams) entries)

all_decided : (chain : ChainState) (command : Command) → AllDecided (rules_for chain command)
all_decided chain (BeginOf begin) = both (begin_rules chain begin) (item_rules chain begin ++ room_rules chain (BeginOf begin)) (tt, (tt, (tt, tt)))
    (both (item_rules chain begin) (room_rules chain (BeginOf begin)) (parts_decided chain begin.skeleton begin.streams) (tt, (tt, (tt, (tt, tt)))))
all_decided chain (PutOf put) = both (put_rules chain put.entries) (entries_rules chain.streams put.entries ++ room_rules chain (PutOf put)) (tt, (tt, (tt, tt)))
    (both (entries_rules chain.streams put.entries) (room_rules chain (PutOf put)) (entries_decided chain.streams put.entries) (tt, (tt, (tt, (tt, tt)))))
all_decided chain (EndOf serial) = both (end_rules chain serial) (room_rules chain (EndOf serial)) (tt, (tt, (tt, tt))) (tt, (tt, (tt, (tt, tt))))

by_test : (broken : Bool) (told : Refusal) (rest : Option Refusal) (refusal : Refusal) → cond broken (Some told) rest ≡ Some refusal → IsDecided told → (rest ≡ Some refusal → IsDecided refusal) → IsDecided refusal
by_test true told rest refusal e is others = let same : told ≡ refusal = cc in subst IsDecided same is
by_test false told rest refusal e is others = others e

first_decided : (rules : List (Rule Refusal)) (refusal : Refusal) → AllDecided rules → first_broken rules ≡ Some refusal → IsDecided refusal
first_decided [] refusal all e = absurd (cc e)
first_decided (rule ∷ rules) refusal all e = by_test rule.0 rule.1 (first_broken rules) refusal e all.0 (λ rest. first_decided rules refusal all.1 rest)

told_by : (size : ℕ) (broken : Option Refusal) (refusal : Refusal) → answer size broken ≡ Err refusal → broken ≡ Some refusal
told_by size None refusal e = absurd (cc e)
told_by size (Some told) refusal e = let same : told ≡ refusal = cc in ap (λ (r : Refusal). Some r) same

decided : (chain : ChainState) (command : Command) (refusal : Refusal) → decision chain command ≡ Err refusal → IsDecided refusal
unfolding decision
decided chain command refusal e = first_decided (rules_for chain command) refusal (all_decided chain command) (told_by (size_of chain command) (first_broken (rules_for chain command)) refusal e)

in_table : (refusal : Refusal) → IsDecided refusal → (2 ≤ code_of refusal) × (code_of refusal ≤ 19)
in_table Failed is = absurd is
in_table LinkOpen is = (omega arith, omega arith)
in_table NoLink is = (omega arith, omega arith)
in_table Empty is = (omega arith, omega arith)
in_table TooMany is = (omega arith, omega arith)
in_table SerialTaken is = (omega arith, omega arith)
in_table NoHeader is = (omega arith, omega arith)
in_table HeadTooLong is = (omega arith, omega arith)
in_table PacketTooLong is = (omega arith, omega arith)
in_table BadType is = (omega arith, omega arith)
in_table BadRate is = (omega arith, omega arith)
in_table UnknownSerial is = (omega arith, omega arith)
in_table StreamEnded is = (omega arith, omega arith)
in_table PositionRange is = (omega arith, omega arith)
in_table PositionBack is = (omega arith, omega arith)
in_table BatchTooLong is = (omega arith, omega arith)
in_table SequenceEnd is = (omega arith, omega arith)
in_table LinksFull is = (omega arith, omega arith)
in_table FileFull is = (omega arith, omega arith)
in_table Memory is = absurd is
in_table Disk is = absurd is

pub of_the_table : (chain : ChainState) (command : Command) (refusal : Refusal) → decision chain command ≡ Err refusal → (2 ≤ code_of refusal) × (code_of refusal ≤ 19)
of_the_table chain command refusal e = in_table refusal (decided chain command refusal e)

-- ---- at least one page
last_of_all : {X : Type 0} (P : X → Type 0) (xs : List X) (x : X) → AllByRecursion P (xs ++ x ∷ []) → P x
last_of_all P [] x all = all.0
last_of_all P (y ∷ xs) x all = last_of_all P xs x all.1

link_some : (pages : List Page) → IsLink pages → 0 < length pages
link_some pages is = omega (arith, is.some, ap length is.split, length-append is.first_pages is.others)

run_some : (serial first : ℕ) (item : Timed) (run : List Timed) → 0 < length (pages_of_run serial first (item ∷ run))
run_some serial first item run = omega (arith, run_pages serial first (item ∷ run), some_values (item ∷ run))

behind_some : (streams : List StreamState) (entry : Entry) (run : List Entry) (runs : List (List Entry)) → 0 < length (pages_of_runs streams ((entry ∷ run) ∷ runs))
behind_some streams entry run runs =
    let first = run_some entry.serial (next_in streams entry.serial) (timed entry) (map timed run) in
    omega (arith, first, length-append (pages_behind streams (entry ∷ run)) (pages_of_runs (with_run streams (entry ∷ run)) runs))

front_some : (streams : List StreamState) (entry : Entry) (runs : List (List Entry)) → 0 < length (pages_of_runs streams (with_front entry runs))
front_some streams entry [] = behind_some streams entry [] []
front_some streams entry ([] ∷ runs) = behind_some streams entry [] runs
front_some streams entry ((next ∷ run) ∷ runs) = by_serial (nat_eq entry.serial next.serial) refl
  where
    by_serial : (b : Bool) → nat_eq entry.serial next.serial ≡ b → 0 < length (pages_of_runs streams (with_front entry ((next ∷ run) ∷ runs)))
    by_serial true is = subst (λ (b : Bool). 0 < length (pages_of_runs streams (if b then (entry ∷ next ∷ run) ∷ runs else (entry ∷ []) ∷ (next ∷ run) ∷ runs))) (sym is) (behind_some streams entry (next ∷ run) runs)
    by_serial false is = subst (λ (b : Bool). 0 < length (pages_of_runs streams (if b then (entry ∷ next ∷ run) ∷ runs else (entry ∷ []) ∷ (next ∷ run) ∷ runs))) (sym is) (behind_some streams entry [] ((next ∷ run) ∷ runs))

put_some : (streams : List StreamState) (entries : List Entry) → nat_eq (length entries) 0 ≡ false → 0 < length (pages_of_runs streams (runs_of entries))
put_some streams [] none = absurd (cc none)
put_some streams (entry ∷ entries) none = front_some streams entry (runs_of entries)

pub adds_some : (bytes : List ℕ) (links : List (List Page)) (recording : Recording) (command : Command) (size : ℕ) → IsCommand command → AreLinks bytes links →
    HoldsLinks links recording → decision (chain_state_of links) command ≡ Ok size → 0 < length (pages_of_command (chain_state_of links) command)
unfolding pages_of_command
adds_some bytes links recording (BeginOf begin) size is are holds kept =
    let pages : List Page = pages_of_command (chain_state_of links) (BeginOf begin) in
    link_some pages (last_of_all IsLink links pages (is_held bytes links recording (BeginOf begin) size is are holds kept).0.each)
adds_some bytes links recording (PutOf put) size is are holds kept =
    let unbroken : Unbroken (rules_for (chain_state_of links) (PutOf put)) = no_rule_broken (chain_state_of links) (PutOf put) size kept in
    put_some (chain_state_of links).streams put.entries unbroken.1.0
adds_some bytes links recording (EndOf serial) size is are holds kept = omega arith

-- ---- what is added are pages
of_last : (links : List (List Page)) (pages : List Page) → links ≢ [] → AllByRecursion (AllByRecursion IsPage) (with_pages links pages) → AllByRecursion IsPage pages
of_last [] pages some h = absurd (some refl)
of_last (link ∷ []) pages some h = (all_split IsPage link pages h.0).1
of_last (link ∷ next ∷ links) pages some h = of_last (next ∷ links) pages (λ e. cc) h.1

pub adds_pages : (bytes : List ℕ) (links : List (List Page)) (recording : Recording) (command : Command) (size : ℕ) → IsCommand command → AreLinks bytes links →
    HoldsLinks links recording → decision (chain_state_of links) command ≡ Ok size → AllByRecursion IsPage (pages_of_command (chain_state_of links) command)
unfolding pages_of_command
adds_pages bytes links recording (BeginOf begin) size is are holds kept =
    last_of_all (AllByRecursion IsPage) links (pages_of_command (chain_state_of links) (BeginOf begin)) (is_held bytes links recording (BeginOf begin) size is are holds kept).0.pages
adds_pages bytes links recording (PutOf put) size is are holds kept =
    let unbroken : Unbroken (rules_for (chain_state_of links) (PutOf put)) = no_rule_broken (chain_state_of links) (PutOf put) size kept in
    of_last links (pages_of_command (chain_state_of links) (PutOf put)) (open_some links (not-false (is_open (chain_state_of links)) unbroken.0))
    (is_held bytes links recording (PutOf put) size is are holds kept).0.pages
adds_pages bytes links recording (EndOf serial) size is are holds kept =
    let unbroken : Unbroken (rules_for (chain_state_of links) (EndOf serial)) = no_rule_broken (chain_state_of links) (EndOf serial) size kept in
    of_last links (pages_of_command (chain_state_of links) (EndOf serial)) (open_some links (not-false (is_open (chain_state_of links)) unbroken.0))
    (is_held bytes links recording (EndOf serial) size is are holds kept).0.pages
