-- A put of one packet: its only run.
use Rattle.std.proofs.Common.{◌≡◌, ℕ, ◌+◌, ◌/◌, ◌*◌, ◌^◌, ◌<◌, ◌≤◌, Bool, true, false, cond, List, [], ◌∷◌, length, map, get_or, refl, sym, ◌∙◌, ap, arith, Some, None}
use Rattle.std.specs.List.{list_any, fold}
use Rattle.std.proofs.lemmas.Bool.{cond-true, cond-false}
use Rattle.std.proofs.lemmas.List.{append-nil}
use Rattle.std.proofs.lemmas.List.Sums.{sum_by-cons}
use Rattle.ogg_page.specs.Page.{Page}
use Rattle.packetiser.specs.Run.{run_lacing, run_bytes, pages_for, size_for}
use Rattle.packetiser.specs.Laws.Sizes.{values_in, bytes_in, length-run_lacing, length-run_bytes}
use Rattle.ogg_command.specs.declared.command.Entry.{Entry}
use Rattle.link_chain.specs.declared.stream_state.StreamState.{StreamState}
use Rattle.link_chain.specs.Progress.{next_in, brought_to}
use Rattle.link_chain.specs.Size.{has_no_number, size_of_pages, numbered_size}
use Rattle.command_pages.specs.Encoding.{timed, run_serial, pages_behind, with_run, runs_of, pages_of_runs}
use Rattle.command_pages.specs.FrontRun.{IsFrontRun, page_count}
use Rattle.command_pages.specs.Limits.{longest_batch}
use Rattle.command_pages.proofs.LaidRuns.{numbers_fit, few_pages, run_sized, some_pages}
use Rattle.command_pages.proofs.RunPages.{IsCounted, entry_bytes, run_size, small_size, next_streams, numbers_go_on, numbers_end, sizes_go_on}

-- ---- entries of which there is one
pub only_front : (entries : List Entry) → length entries ≡ 1 → IsFrontRun entries entries []
only_front [] one = absurd (omega (arith, one))
only_front (entry ∷ []) one = record { first = refl; some = omega arith; whole = refl }
only_front (entry ∷ next ∷ entries) one = absurd (omega (arith, one))

pub only_serial : (entries : List Entry) (first : Entry) → length entries ≡ 1 → first ≡ get_or entries 0 first → first.serial ≡ run_serial entries
only_serial [] first one is = absurd (omega (arith, one))
only_serial (entry ∷ entries) first one is = ap (λ (e : Entry). e.serial) is

pub only_pages : (streams : List StreamState) (entries : List Entry) → length entries ≡ 1 → pages_of_runs streams (runs_of entries) ≡ pages_behind streams entries
only_pages streams [] one = absurd (omega (arith, one))
only_pages streams (entry ∷ []) one = append-nil (pages_behind streams (entry ∷ []))
only_pages streams (entry ∷ next ∷ entries) one = absurd (omega (arith, one))

-- where its stream stands, as it was read
abbrev IsRead : List StreamState → List Entry → Entry → ℕ → Type 0
IsRead streams entries first next = (first ≡ get_or entries 0 first) × (next ≡ next_in streams first.serial)

read_next : (streams : List StreamState) (entries : List Entry) (first : Entry) (next : ℕ) → length entries ≡ 1 → IsRead streams entries first next →
    next ≡ next_in streams (run_serial entries)
read_next streams entries first next one is = is.1 ∙ ap (next_in streams) (only_serial entries first one is.0)

pub only_numbers : (streams : List StreamState) (entries : List Entry) (first : Entry) (next : ℕ) → length entries ≡ 1 → IsRead streams entries first next →
    list_any has_no_number (pages_of_runs streams (runs_of entries)) ≡ false → next + page_count entries ≤ 2 ^ 32
only_numbers streams entries first next one is numbered =
    omega (arith, read_next streams entries first next one is, numbers_fit streams entries entries [] (only_front entries one) numbered)

pub only_some : (entries : List Entry) → length entries ≡ 1 → 0 < page_count entries
only_some entries one = some_pages entries (omega (arith, one))

pub only_few : (entries : List Entry) → length entries ≡ 1 → entry_bytes entries ≤ longest_batch → page_count entries < 2 ^ 32
only_few entries one short = few_pages entries entries [] (only_front entries one) (omega (arith, one, short))

pub only_sized : (streams : List StreamState) (entries : List Entry) → length entries ≡ 1 →
    size_of_pages (pages_of_runs streams (runs_of entries)) ≡ size_for (length (run_lacing (map timed entries))) (length (run_bytes (map timed entries)))
only_sized streams entries one = ap size_of_pages (only_pages streams entries one) ∙ run_sized streams entries

-- ---- its counts, its numbers and its size
pub entry_counted : (streams : List StreamState) (entry : Entry) (values bytes : ℕ) → bytes ≡ length entry.packet → values ≡ bytes / 255 + 1 →
    IsCounted streams (entry ∷ []) values bytes
entry_counted streams entry values bytes b v = record {
  values_are = omega (arith, v, ap (λ n. n / 255 + 1) b, length-run_lacing (timed entry ∷ []), sum_by-cons values_in (timed entry) []);
  bytes_are = omega (arith, b, length-run_bytes (timed entry ∷ []), sum_by-cons bytes_in (timed entry) []);
}

abbrev pages_then : List StreamState → Entry → List Page
pages_then streams entry = pages_of_runs streams (runs_of (entry ∷ []))

some_of : (b : Bool) (size whole : ℕ) → b ≡ false → size ≡ whole → Some size ≡ cond b None (Some whole)
some_of b size whole e s = ap Some s ∙ sym (cond-false b None (Some whole) e)

none_of : (b : Bool) (whole : ℕ) → b ≡ true → None ≡ cond b None (Some whole)
none_of b whole e = sym (cond-true b None (Some whole) e)

pub entry_sized : (streams : List StreamState) (entry : Entry) (values bytes size : ℕ) → IsCounted streams (entry ∷ []) values bytes →
    next_in streams entry.serial + pages_for values ≤ 2 ^ 32 → size ≡ size_for values bytes → Some size ≡ numbered_size (pages_then streams entry)
entry_sized streams entry values bytes size is few s =
    let run : List Entry = entry ∷ [] in
    some_of (list_any has_no_number (pages_then streams entry)) size (size_of_pages (pages_then streams entry))
    (numbers_go_on streams run run [] refl (omega (arith, few, ap pages_for is.values_are)))
    (omega (arith, s, run_size streams run values bytes is, sizes_go_on streams run run [] refl))

pub entry_far : (streams : List StreamState) (entry : Entry) (values bytes : ℕ) → IsCounted streams (entry ∷ []) values bytes →
    (next_in streams entry.serial + pages_for values ≤ 2 ^ 32 → ⊥) → None ≡ numbered_size (pages_then streams entry)
entry_far streams entry values bytes is far =
    let run : List Entry = entry ∷ [] in
    none_of (list_any has_no_number (pages_then streams entry)) (size_of_pages (pages_then streams entry))
    (numbers_end streams run run [] refl (omega arith) (omega (arith, far, ap pages_for is.values_are)))

pub entry_small : (streams : List StreamState) (entry : Entry) (values bytes : ℕ) → IsCounted streams (entry ∷ []) values bytes →
    size_for values bytes ≤ 29 * (length entry.packet + 1)
entry_small streams entry values bytes is =
    omega (arith, small_size streams (entry ∷ []) values bytes is, sum_by-cons (λ (e : Entry). length e.packet) entry [])

-- ---- the streams after it
pub entry_behind : (streams : List StreamState) (entry : Entry) (values bytes sequence : ℕ) → IsCounted streams (entry ∷ []) values bytes →
    sequence ≡ next_in streams entry.serial + pages_for values → brought_to entry.serial sequence entry.position streams ≡ fold with_run streams (runs_of (entry ∷ []))
entry_behind streams entry values bytes sequence is s = next_streams streams (entry ∷ []) sequence (s ∙ ap (λ n. next_in streams entry.serial + pages_for n) is.values_are)
