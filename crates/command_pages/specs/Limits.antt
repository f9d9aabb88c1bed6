-- How much one command may hold, as far as its pages depend on it. Ours.
use Rattle.std.specs.Prelude.{ℕ, ◌+◌, ◌*◌}
use Rattle.ogg_page.specs.Sizes.{fixed_size}
pub use Rattle.link_chain.specs.Limits.{most_streams}
pub use Rattle.skeleton3.specs.Sizes.{most_fields, longest_message}

-- bytes of a command's packets together
abbrev pub longest_batch : ℕ
longest_batch = 16777216

-- headers of a stream
abbrev pub most_headers : ℕ
most_headers = 256

-- packets of a put
abbrev pub most_entries : ℕ
most_entries = 4096

-- ---- bounds of sizes, which the code's sums stay within
-- Bytes of pages for each packet and for each of its bytes, at most: those of a page's fixed part, a lacing value and
-- the byte.
abbrev pub most_for_each : ℕ
most_for_each = fixed_size + 2

-- bytes of a fishead's page, and of a fisbone's
abbrev pub longest_fishead_page : ℕ
longest_fishead_page = 200

abbrev pub longest_fisbone_page : ℕ
longest_fisbone_page = 11100

-- bytes of the pages of a Skeleton
abbrev pub longest_skeleton : ℕ
longest_skeleton = 720000

-- bytes of the pages of a put
abbrev pub longest_put : ℕ
longest_put = most_for_each * (longest_batch + most_entries)

-- bytes of the pages of a new link without a Skeleton, and with one
abbrev pub longest_headers : ℕ
longest_headers = most_for_each * (longest_batch + most_headers * most_streams)

abbrev pub longest_begin : ℕ
longest_begin = longest_headers + longest_skeleton
