-- Which packets are kept as headers until their link begins. Ours.
use Rattle.std.specs.Prelude.{ℕ, ◌-◌, ◌++◌, min, Bool, if◌then◌else◌, List, [], ◌∷◌, length, codes}
use Rattle.import_commands.specs.Headers.{begins, header_count}
use Rattle.import_commands.specs.Commands.{first_of}
use Rattle.import_gather.specs.Limits.{most_headers}

-- the first packet of a Skeleton: all packets of such a stream are headers
abbrev pub is_skeleton : List ℕ → Bool
is_skeleton first = begins (codes "fishead" ++ 0 ∷ []) first

-- how many packets of a stream are kept as headers, by the first
unfoldable pub wanted_by : List ℕ → ℕ
wanted_by first = if is_skeleton first then most_headers else min (header_count first) most_headers

-- the number of headers that a stream with these packets wants
abbrev pub wanted : List (List ℕ) → ℕ
wanted headers = wanted_by (first_of headers)

-- the number of further headers that it wants
abbrev pub lacking : List (List ℕ) → ℕ
lacking headers = wanted headers - length headers
