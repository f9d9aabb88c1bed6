-- A new stream's headers as runs that are lent.
use Rattle.std.proofs.Common.{◌≡◌, ℕ, ◌+◌, ◌<◌, ◌≤◌, ◌^◌, List, [], ◌∷◌, length, map, take, drop, refl, ◌∙◌, ap, arith, length-take, length-drop}
use Rattle.ogg_page.specs.Page.{Page}
use Rattle.packetiser.specs.Run.{pages_for, run_lacing, flagged}
use Rattle.ogg_command.specs.declared.command.NewStream.{NewStream}
use Rattle.command_pages.specs.Fits.{header_bytes}
use Rattle.command_pages.specs.Encoding.{header}
use Rattle.command_pages.specs.Laws.Headers.{few_pages, split_lengths}

-- what is asked and said of a run of headers that is lent
abbrev pub page_count : List (List ℕ) → ℕ
page_count headers = pages_for (length (run_lacing (map header headers)))

pub first_count : (stream : NewStream) (lent whole : List (List ℕ)) → lent ≡ take 1 whole → whole ≡ stream.headers → header_bytes stream ≤ 16777216 → length stream.headers ≤ 256 →
    page_count lent < 2 ^ 31
first_count stream lent whole l w short few =
    omega (
      arith,
      ap page_count (l ∙ ap (take 1) w),
      few_pages (take 1 stream.headers) (omega (arith, split_lengths stream.headers, short)) (omega (arith, length-take 1 stream.headers, few)),
    )

pub others_count : (stream : NewStream) (lent whole : List (List ℕ)) → lent ≡ drop 1 whole → whole ≡ stream.headers → header_bytes stream ≤ 16777216 → length stream.headers ≤ 256 →
    page_count lent < 2 ^ 31
others_count stream lent whole l w short few =
    omega (
      arith,
      ap page_count (l ∙ ap (drop 1) w),
      few_pages (drop 1 stream.headers) (omega (arith, split_lengths stream.headers, short)) (omega (arith, length-drop 1 stream.headers, few)),
    )

pub unflagged : (pages : List Page) → flagged 0 pages ≡ pages
unflagged [] = refl
unflagged (page ∷ pages) = ap (λ n. record page { flags = n } ∷ pages) (let e : page.flags + 0 ≡ page.flags = omega arith in e)
