-- The pages of a run that are made one at a time.
use Rattle.std.proofs.Common.{◌≡◌, ℕ, ◌+◌, ◌≤◌, true, false, Bool, Some, List, [], ◌∷◌, ◌++◌, length, refl, ◌∙◌, ap, arith, map, length-append}
use Rattle.std.proofs.lemmas.List.{length-map}
use Rattle.std.specs.List.{list_any, flat_map}
use Rattle.std.proofs.lemmas.Bool.{or_parts}
use Rattle.ogg_page.specs.Page.{Page}
use Rattle.packetiser.specs.Run.{Timed, pages_of_run, pages_for, run_lacing, flagged}
use Rattle.packetiser.specs.PageSpace.{NextMade}
use Rattle.packetiser.specs.Laws.Pieces.{run_pages}
use Rattle.ogg_command.specs.declared.command.Entry.{Entry}
use Rattle.ogg_command.specs.declared.command.NewStream.{NewStream}
use Rattle.ogg_command.specs.declared.command.SkeletonHead.{SkeletonHead}
use Rattle.skeleton3.specs.Fishead.{fishead_bytes}
use Rattle.link_chain.specs.declared.stream_state.StreamState.{StreamState}
use Rattle.link_chain.specs.Progress.{next_in}
use Rattle.command_pages.specs.Encoding.{header, timed, run_serial, pages_behind, with_run, runs_of, pages_of_runs, first_flag, last_flag, fishead_of, fisbone_packet, first_pages, header_pages, fishead_pages, fisbone_pages, skeleton_end, pages_of_begin}
use Rattle.command_pages.specs.Fits.{has_long_message}
use Rattle.command_pages.specs.Laws.Short.{one_each, short_fishead, short_fisbone}
use Rattle.command_pages.specs.Laws.Runs.{few_values}
use Rattle.command_pages.proofs.RunPages.{entry_bytes, entry_lengths}
use Rattle.command_pages.specs.FrontRun.{IsFrontRun, page_count}

length-flagged : (flags : ℕ) (pages : List Page) → length (flagged flags pages) ≡ length pages
length-flagged flags [] = refl
length-flagged flags (page ∷ pages) = refl

pub flagged_count : (serial first flags : ℕ) (run : List Timed) → length (flagged flags (pages_of_run serial first run)) ≡ pages_for (length (run_lacing run))
flagged_count serial first flags run = length-flagged flags (pages_of_run serial first run) ∙ run_pages serial first run

-- a short packet has one page
pub alone_counted : (serial first flags : ℕ) (packet : List ℕ) → length packet ≤ 65024 → length (flagged flags (pages_of_run serial first (header packet ∷ []))) ≡ 1
alone_counted serial first flags packet short = flagged_count serial first flags (header packet ∷ []) ∙ one_each packet short

-- of one page none is left after it is made
pub only_page : {S : Type 0} (has_made : S → Page → S → Type 0) (before : S) (pages : List Page) (made : Bool) (left : List Page) (now : S) → length pages ≡ 1 →
    NextMade has_made before pages made left now → NextMade has_made before pages true [] now
only_page has_made before pages true [] now one (page, first, done) = (page, first, done)
only_page has_made before pages true (next ∷ left) now one (page, first, done) = absurd (omega (arith, one, ap length first))
only_page has_made before pages false left now one (none, _, _) = absurd (omega (arith, one, ap length none))

-- ---- a put's runs
-- how many pages runs have
pub count_of_runs : List (List Entry) → ℕ
count_of_runs [] = 0
count_of_runs (run ∷ runs) = page_count run + count_of_runs runs

pub runs_counted : (streams : List StreamState) (runs : List (List Entry)) → length (pages_of_runs streams runs) ≡ count_of_runs runs
unfolding count_of_runs
runs_counted streams [] = refl
runs_counted streams (run ∷ runs) =
    omega (
      arith,
      length-append (pages_behind streams run) (pages_of_runs (with_run streams run) runs),
      run_pages (run_serial run) (next_in streams (run_serial run)) (map timed run),
      runs_counted (with_run streams run) runs,
    )

-- one run more
pub counted_on : (rest run others : List Entry) → IsFrontRun rest run others → count_of_runs (runs_of rest) ≡ page_count run + count_of_runs (runs_of others)
unfolding count_of_runs
counted_on rest run others is = ap count_of_runs is.first

pub none_counted : (entries : List Entry) → length entries ≡ 0 → count_of_runs (runs_of entries) ≡ 0
unfolding count_of_runs
none_counted [] none = refl
none_counted (entry ∷ entries) none = absurd (omega (arith, none))

-- a run has no more pages than bytes and packets
pub few_counted : (run : List Entry) → page_count run ≤ entry_bytes run + length run
few_counted run = omega (arith, few_values (map timed run), entry_lengths run, length-map run timed)

-- ---- a Skeleton's pages
fisbones_counted : (serial first : ℕ) (streams : List NewStream) → list_any has_long_message streams ≡ false → length (fisbone_pages serial first streams) ≡ length streams
fisbones_counted serial first [] short = refl
fisbones_counted serial first (s ∷ streams) short =
    let parts : (has_long_message s ≡ false) × (list_any has_long_message streams ≡ false) = or_parts (has_long_message s) (list_any has_long_message streams) short in
    omega (
      arith,
      length-append (pages_of_run serial first (header (fisbone_packet s) ∷ [])) (fisbone_pages serial (first + 1) streams),
      run_pages serial first (header (fisbone_packet s) ∷ []),
      one_each (fisbone_packet s) (short_fisbone s parts.0),
      fisbones_counted serial (first + 1) streams parts.1,
    )

pub described_counted : (head : SkeletonHead) (streams : List NewStream) → length head.utc ≡ 20 → list_any has_long_message streams ≡ false →
    length (pages_of_begin (Some head) streams) ≡ length (flat_map first_pages streams) + length (flat_map header_pages streams) + length streams + 2
described_counted head streams time short =
    let fishead : List Page = fishead_pages head in
    let firsts : List Page = flat_map first_pages streams in
    let fisbones : List Page = fisbone_pages head.serial 1 streams in
    let others : List Page = flat_map header_pages streams in
    let ends : List Page = skeleton_end head.serial (length streams + 1) in
    omega (
      arith,
      length-append ((fishead ++ firsts) ++ (fisbones ++ others)) ends,
      length-append (fishead ++ firsts) (fisbones ++ others),
      length-append fishead firsts,
      length-append fisbones others,
      alone_counted head.serial 0 first_flag (fishead_bytes (fishead_of head)) (short_fishead head time),
      fisbones_counted head.serial 1 streams short,
      alone_counted head.serial (length streams + 1) last_flag [] (omega arith),
    )
