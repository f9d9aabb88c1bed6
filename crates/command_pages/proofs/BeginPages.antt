-- The pages of a new link: their numbers and their sizes.
use Rattle.std.proofs.Common.{◌≡◌, ℕ, ◌+◌, ◌*◌, ◌≤◌, false, List, [], ◌∷◌, ◌++◌, length, map, take, drop, sum_by, refl, ◌∙◌, arith, length-take, length-drop}
use Rattle.std.specs.List.{list_any, flat_map, AllByRecursion}
use Rattle.std.proofs.lemmas.List.{length-map}
use Rattle.std.proofs.lemmas.Bool.{or_from, or_parts, ltb-false}
use Rattle.std.proofs.lemmas.List.Folds.{list_any-append}
use Rattle.std.proofs.lemmas.List.Sums.{sum_by-cons}
use Rattle.ogg_page.specs.Page.{Page}
use Rattle.packetiser.specs.Run.{Timed, pages_of_run, run_lacing, run_bytes, size_for, flagged}
use Rattle.packetiser.specs.Laws.Pieces.{run_bytes_all}
use Rattle.packetiser.specs.Laws.Sizes.{length-run_bytes}
use Rattle.packetiser.specs.Laws.Appending.{flagged_size}
use Rattle.ogg_command.specs.declared.command.NewStream.{NewStream}
use Rattle.command_pages.specs.Fits.{header_bytes, has_many_headers}
use Rattle.command_pages.specs.Encoding.{header, first_pages, header_pages, first_flag}
use Rattle.link_chain.specs.Size.{has_no_number, size_of_pages}
use Rattle.command_pages.specs.Laws.Runs.{few_values}
use Rattle.command_pages.specs.Laws.Headers.{header_lengths, lengths_of_headers, few_pages, split_lengths}
use Rattle.command_pages.proofs.RunPages.{within}

-- ---- flags change no number
pub flagged_numbers : (flags : ℕ) (pages : List Page) → list_any has_no_number (flagged flags pages) ≡ list_any has_no_number pages
flagged_numbers flags [] = refl
flagged_numbers flags (page ∷ pages) = refl

-- ---- a stream's headers
pub first_run : NewStream → List Timed
first_run stream = map header (take 1 stream.headers)

-- few and short enough for their pages to have numbers
pub record IsSmall (stream : NewStream) : Type 0 where
  pub short : header_bytes stream ≤ 16777216
  pub few : length stream.headers ≤ 256

pub each_small : (streams : List NewStream) → list_any has_many_headers streams ≡ false → sum_by header_bytes streams ≤ 16777216 → AllByRecursion IsSmall streams
each_small [] h s = tt
each_small (stream ∷ streams) h s =
    let parts : (has_many_headers stream ≡ false) × (list_any has_many_headers streams ≡ false) = or_parts (has_many_headers stream) (list_any has_many_headers streams) h in (
      record { short = omega (arith, sum_by-cons header_bytes stream streams, s); few = ltb-false 256 (length stream.headers) parts.0 },
      each_small streams parts.1 (omega (arith, sum_by-cons header_bytes stream streams, s)),
    )

-- ---- numbers
pub first_numbered : (stream : NewStream) → IsSmall stream → list_any has_no_number (first_pages stream) ≡ false
first_numbered stream is =
    flagged_numbers first_flag (pages_of_run stream.serial 0 (map header (take 1 stream.headers)))
    ∙ within stream.serial 0 (map header (take 1 stream.headers))
    (omega (arith, few_pages (take 1 stream.headers) (omega (arith, split_lengths stream.headers, is.short)) (omega (arith, length-take 1 stream.headers, is.few))))

pub headers_numbered : (stream : NewStream) → IsSmall stream → list_any has_no_number (header_pages stream) ≡ false
headers_numbered stream is =
    within stream.serial 1 (map header (drop 1 stream.headers))
    (omega (arith, few_pages (drop 1 stream.headers) (omega (arith, split_lengths stream.headers, is.short)) (omega (arith, length-drop 1 stream.headers, is.few))))

pub all_numbered : (pages_of : NewStream → List Page) → ((stream : NewStream) → IsSmall stream → list_any has_no_number (pages_of stream) ≡ false) →
    (streams : List NewStream) → AllByRecursion IsSmall streams → list_any has_no_number (flat_map pages_of streams) ≡ false
all_numbered pages_of each [] h = refl
all_numbered pages_of each (stream ∷ streams) h =
    list_any-append has_no_number (pages_of stream) (flat_map pages_of streams)
    ∙ or_from (list_any has_no_number (pages_of stream)) (list_any has_no_number (flat_map pages_of streams)) (each stream h.0) (all_numbered pages_of each streams h.1)

pub begin_numbered : (streams : List NewStream) → AllByRecursion IsSmall streams → list_any has_no_number (flat_map first_pages streams ++ flat_map header_pages streams) ≡ false
begin_numbered streams h =
    list_any-append has_no_number (flat_map first_pages streams) (flat_map header_pages streams)
    ∙ or_from (list_any has_no_number (flat_map first_pages streams)) (list_any has_no_number (flat_map header_pages streams))
    (all_numbered first_pages first_numbered streams h) (all_numbered header_pages headers_numbered streams h)

-- ---- sizes
pub first_size : (stream : NewStream) → size_of_pages (first_pages stream)
    ≡ size_for (length (run_lacing (map header (take 1 stream.headers)))) (length (run_bytes (map header (take 1 stream.headers))))
first_size stream =
    flagged_size first_flag (pages_of_run stream.serial 0 (map header (take 1 stream.headers)))
    ∙ run_bytes_all stream.serial 0 (map header (take 1 stream.headers))

pub headers_size : (stream : NewStream) → size_of_pages (header_pages stream)
    ≡ size_for (length (run_lacing (map header (drop 1 stream.headers)))) (length (run_bytes (map header (drop 1 stream.headers))))
headers_size stream = run_bytes_all stream.serial 1 (map header (drop 1 stream.headers))

small_run : (headers : List (List ℕ)) → size_for (length (run_lacing (map header headers))) (length (run_bytes (map header headers))) ≤ 29 * (header_lengths headers + length headers)
small_run headers = omega (arith, few_values (map header headers), lengths_of_headers headers, length-map headers header, length-run_bytes (map header headers))

pub small_stream : (stream : NewStream) → size_of_pages (first_pages stream) + size_of_pages (header_pages stream) ≤ 29 * (header_bytes stream + length stream.headers)
small_stream stream =
    omega (
      arith,
      first_size stream,
      headers_size stream,
      small_run (take 1 stream.headers),
      small_run (drop 1 stream.headers),
      split_lengths stream.headers,
      length-take 1 stream.headers,
      length-drop 1 stream.headers,
    )
