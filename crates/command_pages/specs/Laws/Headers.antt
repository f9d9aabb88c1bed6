-- The headers of a stream: how many pages they take, and how their bytes add up.
use Rattle.std.proofs.Common.{◌≡◌, ℕ, ◌+◌, ◌^◌, ◌<◌, ◌≤◌, List, length, map, take, drop, sum_by, arith}
use Rattle.std.proofs.lemmas.List.{length-map}
use Rattle.std.proofs.lemmas.List.Sums.{sum_by-take-drop}
use Rattle.packetiser.specs.Run.{pages_for, run_lacing, lengths}
use Rattle.packetiser.specs.Laws.Sizes.{bytes_in, sum_by-map}
use Rattle.command_pages.specs.Encoding.{header}
use Rattle.command_pages.specs.Laws.Runs.{few_values}
use Rattle.command_pages.specs.Limits.{longest_batch, most_headers}

abbrev pub header_lengths : List (List ℕ) → ℕ
header_lengths headers = sum_by length headers

pub lengths_of_headers : (headers : List (List ℕ)) → lengths (map header headers) ≡ header_lengths headers
lengths_of_headers headers = sum_by-map bytes_in header headers

-- the pages of the headers are few
pub few_pages : (headers : List (List ℕ)) → header_lengths headers ≤ longest_batch → length headers ≤ most_headers → pages_for (length (run_lacing (map header headers))) < 2 ^ 31
few_pages headers s f = omega (arith, few_values (map header headers), lengths_of_headers headers, length-map headers header)

pub split_lengths : (headers : List (List ℕ)) → header_lengths (take 1 headers) + header_lengths (drop 1 headers) ≡ header_lengths headers
split_lengths headers = sum_by-take-drop length headers 1
