-- How much is kept. Ours.
use Rattle.std.specs.Prelude.{ℕ}
pub use Rattle.chain_rules.specs.Limits.{most_headers, longest_packet}

-- the number of bytes that the headers of a waiting link may have, taken together
abbrev pub most_kept : ℕ
most_kept = 4194304
