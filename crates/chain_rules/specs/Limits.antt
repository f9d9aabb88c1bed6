-- What a file may hold. Ours, except for the first: a stream's first header lies whole in one page (RFC 3533,
-- section 6).
use Rattle.std.specs.Prelude.{ℕ, ◌^◌}
use Rattle.ogg_page.specs.Sizes.{longest_whole}
pub use Rattle.link_chain.specs.Limits.{most_streams, most_links}
pub use Rattle.command_pages.specs.Limits.{longest_batch, most_headers, most_fields, longest_message, most_entries}

-- the greatest length of a stream's first header, in bytes
abbrev pub longest_first : ℕ
longest_first = longest_whole

-- the greatest length of any other packet, in bytes
abbrev pub longest_packet : ℕ
longest_packet = 8388608

-- the greatest length of a file, in bytes, with the byte that follows its pages while it is written
abbrev pub longest_file : ℕ
longest_file = 2 ^ 40
