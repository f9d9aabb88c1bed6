-- What a chain may hold. Ours.
use Rattle.std.specs.Prelude.{ℕ}

-- the greatest number of streams of a link; its Skeleton counts
abbrev pub most_streams : ℕ
most_streams = 64

abbrev pub most_links : ℕ
most_links = 65536
