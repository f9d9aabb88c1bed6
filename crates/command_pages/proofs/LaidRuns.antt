-- A put's runs as bytes, one after the other.
use Rattle.std.proofs.Common.{◌≡◌, ℕ, ◌+◌, ◌^◌, ◌<◌, ◌≤◌, Bool, true, false, List, ◌++◌, length, map, refl, sym, ◌∙◌, ap, arith, append_assoc, inl, inr, length-append}
use Rattle.std.specs.Prelude.{nat_le}
use Rattle.std.specs.List.{list_any}
use Rattle.std.proofs.lemmas.Bool.{cases_Bool, leb-true, leb-false}
use Rattle.std.proofs.lemmas.List.{length-map}
use Rattle.std.proofs.lemmas.List.Concat.{flat_map-append}
use Rattle.std.proofs.lemmas.List.Sums.{sum_by-append}
use Rattle.ogg_page.specs.Page.{Page, page_bytes, bytes_of_pages}
use Rattle.packetiser.specs.Run.{pages_of_run, run_lacing, run_bytes, size_for, flagged}
use Rattle.packetiser.specs.Laws.Pieces.{run_bytes_all}
use Rattle.ogg_command.specs.declared.command.Entry.{Entry}
use Rattle.link_chain.specs.declared.stream_state.StreamState.{StreamState}
use Rattle.link_chain.specs.Progress.{next_in}
use Rattle.command_pages.specs.Encoding.{timed, run_serial, run_position, pages_behind, with_run, runs_of, pages_of_runs}
use Rattle.command_pages.specs.FrontRun.{IsFrontRun, page_count}
use Rattle.command_pages.specs.CommandPages.{RunsGoOn}
use Rattle.link_chain.specs.Progress.{advanced}
use Rattle.link_chain.specs.Laws.OwnSerials.{own_stay}
use Rattle.link_chain.specs.Places.{HaveOwnSerials}
use Rattle.command_pages.specs.Limits.{longest_batch, most_entries}
use Rattle.link_chain.specs.Size.{has_no_number, size_of_pages}
use Rattle.command_pages.specs.Laws.Runs.{few_values, some_values}
use Rattle.command_pages.proofs.RunPages.{entry_bytes, entry_lengths, numbers_end, numbers_go_on, run_first}
use Rattle.command_pages.proofs.LaidHeaders.{unflagged}

pub entries_apart : (rest run others : List Entry) → IsFrontRun rest run others → (entry_bytes rest ≡ entry_bytes run + entry_bytes others) × (length rest ≡ length run + length others)
entries_apart rest run others is =
    (ap entry_bytes is.whole ∙ sum_by-append (λ (entry : Entry). length entry.packet) run others, ap length is.whole ∙ length-append run others)

pub numbers_fit : (streams : List StreamState) (rest run others : List Entry) → IsFrontRun rest run others →
    list_any has_no_number (pages_of_runs streams (runs_of rest)) ≡ false → next_in streams (run_serial run) + page_count run ≤ 2 ^ 32
numbers_fit streams rest run others is numbered =
    elim (cases_Bool (nat_le (next_in streams (run_serial run) + page_count run) (2 ^ 32))) [
      | inl fits ↦ leb-true (next_in streams (run_serial run) + page_count run) (2 ^ 32) fits
      | inr beyond ↦
          let ended : list_any has_no_number (pages_of_runs streams (runs_of rest)) ≡ true =
          numbers_end streams rest run others is.first is.some (leb-false (next_in streams (run_serial run) + page_count run) (2 ^ 32) beyond) in
          never (list_any has_no_number (pages_of_runs streams (runs_of rest))) numbered ended
    ]
  where
    never : (b : Bool) {A : Type 0} → b ≡ false → b ≡ true → A
    never b e f = cc

pub few_pages : (rest run others : List Entry) → IsFrontRun rest run others → entry_bytes rest + length rest ≤ longest_batch + most_entries → page_count run < 2 ^ 32
few_pages rest run others is small =
    let apart = entries_apart rest run others is in
    omega (arith, few_values (map timed run), entry_lengths run, length-map run timed, apart.0, apart.1, small)

pub run_sized : (streams : List StreamState) (run : List Entry) →
    size_of_pages (pages_behind streams run) ≡ size_for (length (run_lacing (map timed run))) (length (run_bytes (map timed run)))
run_sized streams run = run_bytes_all (run_serial run) (next_in streams (run_serial run)) (map timed run)

pub bytes_both : (xs ys : List Page) → bytes_of_pages (xs ++ ys) ≡ bytes_of_pages xs ++ bytes_of_pages ys
bytes_both xs ys = flat_map-append page_bytes xs ys

-- the bytes that are written for a run are those of its pages
pub run_written : (streams : List StreamState) (run : List Entry) (serial next : ℕ) → serial ≡ run_serial run → next ≡ next_in streams (run_serial run) →
    bytes_of_pages (flagged 0 (pages_of_run serial next (map timed run))) ≡ bytes_of_pages (pages_behind streams run)
run_written streams run serial next s n =
    ap bytes_of_pages (unflagged (pages_of_run serial next (map timed run)))
    ∙ ap (λ k. bytes_of_pages (pages_of_run k next (map timed run))) s
    ∙ ap (λ k. bytes_of_pages (pages_of_run (run_serial run) k (map timed run))) n

pub written_on : (streams : List StreamState) (rest run others : List Entry) (out : List ℕ) → IsFrontRun rest run others →
    (out ++ bytes_of_pages (pages_behind streams run)) ++ bytes_of_pages (pages_of_runs (with_run streams run) (runs_of others)) ≡ out ++ bytes_of_pages (pages_of_runs streams (runs_of rest))
written_on streams rest run others out is =
    append_assoc out (bytes_of_pages (pages_behind streams run)) (bytes_of_pages (pages_of_runs (with_run streams run) (runs_of others)))
    ∙ ap (λ l. out ++ l) (sym (ap bytes_of_pages (run_first streams rest run others is.first) ∙ bytes_both (pages_behind streams run) (pages_of_runs (with_run streams run) (runs_of others))))

pub some_pages : (run : List Entry) → 0 < length run → 0 < page_count run
some_pages run some = omega (arith, some_values (map timed run), length-map run timed, some)

-- ---- after the run at the front
pub own_after : (streams : List StreamState) (run : List Entry) → HaveOwnSerials streams → HaveOwnSerials (with_run streams run)
own_after streams run own =
    own_stay (run_serial run) (advanced (next_in streams (run_serial run) + length (pages_behind streams run)) (run_position run)) streams (λ s. refl) own

pub go_on : (streams : List StreamState) (entries run rest : List Entry) → IsFrontRun entries run rest → RunsGoOn streams entries → RunsGoOn (with_run streams run) rest
go_on streams entries run rest is h =
    let apart = entries_apart entries run rest is in
    record {
      own = own_after streams run h.own;
      numbered = sym (numbers_go_on streams entries run rest is.first (numbers_fit streams entries run rest is h.numbered)) ∙ h.numbered;
      short = omega (arith, apart.0, apart.1, h.short);
    }
