-- The pages of a put's runs: their numbers and their sizes.
use Rattle.std.proofs.Common.{◌≡◌, ℕ, zero, suc, ◌+◌, ◌*◌, ◌^◌, ◌<◌, ◌≤◌, true, false, List, ◌∷◌, ◌++◌, length, map, sum_by, refl, sym, ◌∙◌, ap, arith}
use Rattle.std.specs.Prelude.{◌||◌}
use Rattle.std.proofs.lemmas.List.{length-map}
use Rattle.std.specs.List.{list_any}
use Rattle.std.proofs.lemmas.Bool.{lt-leb, le-leb, or_from, or_left, or_right}
use Rattle.std.proofs.lemmas.List.Folds.{list_any-append}
use Rattle.std.proofs.lemmas.List.Sums.{sum_by-append}
use Rattle.ogg_page.specs.Page.{Page, page_size}
use Rattle.packetiser.specs.Run.{Timed, counted, page_of_run, pages_of_run, pages_for, run_lacing, run_bytes, lengths, size_for}
use Rattle.packetiser.specs.Laws.Pieces.{run_pages, run_bytes_all}
use Rattle.packetiser.specs.Laws.Sizes.{bytes_in, length-run_bytes, sum_by-map}
use Rattle.ogg_command.specs.declared.command.Entry.{Entry}
use Rattle.link_chain.specs.declared.stream_state.StreamState.{StreamState}
use Rattle.link_chain.specs.Progress.{next_in, brought_to}
use Rattle.command_pages.specs.Encoding.{timed, run_serial, run_position, pages_behind, with_run, runs_of, pages_of_runs}
use Rattle.link_chain.specs.Size.{has_no_number, size_of_pages}
use Rattle.command_pages.specs.Laws.Runs.{some_values, few_values}

-- ---- numbers
sequence_is : (serial first : ℕ) (run : List Timed) (k : ℕ) → (page_of_run serial first run k).sequence ≡ first + k
unfolding page_of_run
sequence_is serial first run k = refl

within_from : (serial first : ℕ) (run : List Timed) (n j : ℕ) → first + j + n ≤ 2 ^ 32 →
    list_any has_no_number (map (page_of_run serial first run) (counted j n)) ≡ false
within_from serial first run zero j h = refl
within_from serial first run (suc n) j h =
    or_from (has_no_number (page_of_run serial first run j)) (list_any has_no_number (map (page_of_run serial first run) (counted (j + 1) n)))
    (lt-leb (2 ^ 32) (page_of_run serial first run j).sequence (omega (arith, sequence_is serial first run j)))
    (within_from serial first run n (j + 1) (omega arith))

beyond_from : (serial first : ℕ) (run : List Timed) (n j : ℕ) → 2 ^ 32 < first + j + suc n →
    list_any has_no_number (map (page_of_run serial first run) (counted j (suc n))) ≡ true
beyond_from serial first run zero j h =
    or_left (has_no_number (page_of_run serial first run j)) false
    (le-leb (2 ^ 32) (page_of_run serial first run j).sequence (omega (arith, sequence_is serial first run j)))
beyond_from serial first run (suc n) j h =
    or_right (has_no_number (page_of_run serial first run j)) (list_any has_no_number (map (page_of_run serial first run) (counted (j + 1) (suc n))))
    (beyond_from serial first run n (j + 1) (omega arith))

pub within : (serial first : ℕ) (run : List Timed) → first + pages_for (length (run_lacing run)) ≤ 2 ^ 32 →
    list_any has_no_number (pages_of_run serial first run) ≡ false
unfolding pages_of_run
within serial first run h = within_from serial first run (pages_for (length (run_lacing run))) 0 (omega arith)

beyond_at : (serial first : ℕ) (run : List Timed) (n : ℕ) → 0 < n → 2 ^ 32 < first + n →
    list_any has_no_number (map (page_of_run serial first run) (counted 0 n)) ≡ true
beyond_at serial first run zero some h = absurd (omega arith)
beyond_at serial first run (suc n) some h = beyond_from serial first run n 0 (omega arith)

pub beyond : (serial first : ℕ) (run : List Timed) → 0 < length run → 2 ^ 32 < first + pages_for (length (run_lacing run)) →
    list_any has_no_number (pages_of_run serial first run) ≡ true
unfolding pages_of_run
beyond serial first run some h = beyond_at serial first run (pages_for (length (run_lacing run))) (omega (arith, some_values run)) h

-- ---- sizes
-- how many bytes the packets of entries have
abbrev pub entry_bytes : List Entry → ℕ
entry_bytes entries = sum_by (λ (entry : Entry). length entry.packet) entries

pub entry_lengths : (entries : List Entry) → lengths (map timed entries) ≡ entry_bytes entries
entry_lengths entries = sum_by-map bytes_in timed entries

-- the counts of a run, its next number and its size
pub record IsCounted (streams : List StreamState) (run : List Entry) (values bytes : ℕ) : Type 0 where
  pub values_are : values ≡ length (run_lacing (map timed run))
  pub bytes_are : bytes ≡ length (run_bytes (map timed run))

pub run_size : (streams : List StreamState) (run : List Entry) (values bytes : ℕ) → IsCounted streams run values bytes →
    size_of_pages (pages_behind streams run) ≡ size_for values bytes
run_size streams run values bytes is =
    run_bytes_all (run_serial run) (next_in streams (run_serial run)) (map timed run)
    ∙ ap (λ n. size_for n (length (run_bytes (map timed run)))) (sym is.values_are)
    ∙ ap (size_for values) (sym is.bytes_are)

pub small_size : (streams : List StreamState) (run : List Entry) (values bytes : ℕ) → IsCounted streams run values bytes →
    size_for values bytes ≤ 29 * (entry_bytes run + length run)
small_size streams run values bytes is =
    let most : length (run_lacing (map timed run)) ≤ lengths (map timed run) + length (map timed run) = few_values (map timed run) in
    let same : lengths (map timed run) ≡ entry_bytes run = entry_lengths run in
    let as_many : length (map timed run) ≡ length run = length-map run timed in
    let body : bytes ≡ entry_bytes run = is.bytes_are ∙ length-run_bytes (map timed run) ∙ same in
    omega (arith, most, same, as_many, body, is.values_are)

-- ---- one run more
pub run_first : (streams : List StreamState) (entries run others : List Entry) → runs_of entries ≡ run ∷ runs_of others →
    pages_of_runs streams (runs_of entries) ≡ pages_behind streams run ++ pages_of_runs (with_run streams run) (runs_of others)
run_first streams entries run others e = ap (pages_of_runs streams) e

pub next_streams : (streams : List StreamState) (run : List Entry) (sequence : ℕ) →
    sequence ≡ next_in streams (run_serial run) + pages_for (length (run_lacing (map timed run))) →
    brought_to (run_serial run) sequence (run_position run) streams ≡ with_run streams run
next_streams streams run sequence e =
    ap (λ n. brought_to (run_serial run) n (run_position run) streams)
    (e ∙ ap (λ n. next_in streams (run_serial run) + n) (sym (run_pages (run_serial run) (next_in streams (run_serial run)) (map timed run))))

pub numbers_go_on : (streams : List StreamState) (entries run others : List Entry) → runs_of entries ≡ run ∷ runs_of others →
    next_in streams (run_serial run) + pages_for (length (run_lacing (map timed run))) ≤ 2 ^ 32 →
    list_any has_no_number (pages_of_runs streams (runs_of entries)) ≡ list_any has_no_number (pages_of_runs (with_run streams run) (runs_of others))
numbers_go_on streams entries run others e h =
    let later : List Page = pages_of_runs (with_run streams run) (runs_of others) in
    ap (list_any has_no_number) (run_first streams entries run others e)
    ∙ list_any-append has_no_number (pages_behind streams run) later
    ∙ ap (λ b. b || list_any has_no_number later) (within (run_serial run) (next_in streams (run_serial run)) (map timed run) h)

pub numbers_end : (streams : List StreamState) (entries run others : List Entry) → runs_of entries ≡ run ∷ runs_of others → 0 < length run →
    2 ^ 32 < next_in streams (run_serial run) + pages_for (length (run_lacing (map timed run))) →
    list_any has_no_number (pages_of_runs streams (runs_of entries)) ≡ true
numbers_end streams entries run others e some h =
    let later : List Page = pages_of_runs (with_run streams run) (runs_of others) in
    ap (list_any has_no_number) (run_first streams entries run others e)
    ∙ list_any-append has_no_number (pages_behind streams run) later
    ∙ or_left (list_any has_no_number (pages_behind streams run)) (list_any has_no_number later)
    (beyond (run_serial run) (next_in streams (run_serial run)) (map timed run) (omega (arith, length-map run timed)) h)

pub sizes_go_on : (streams : List StreamState) (entries run others : List Entry) → runs_of entries ≡ run ∷ runs_of others →
    size_of_pages (pages_of_runs streams (runs_of entries)) ≡ size_of_pages (pages_behind streams run) + size_of_pages (pages_of_runs (with_run streams run) (runs_of others))
sizes_go_on streams entries run others e =
    ap size_of_pages (run_first streams entries run others e)
    ∙ sum_by-append page_size (pages_behind streams run) (pages_of_runs (with_run streams run) (runs_of others))
