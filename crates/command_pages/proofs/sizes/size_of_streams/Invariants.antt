use Rattle.std.proofs.Common.{◌≡◌, ◌≤◌, ◌+◌, ◌*◌, sum_by, take}
use Rattle.std.specs.List.{flat_map}
use Rattle.command_pages.specs.Fits.{header_bytes}
use Rattle.command_pages.specs.Encoding.{first_pages, header_pages}
use Rattle.link_chain.specs.Size.{size_of_pages}
use Rattle.command_pages.proofs.sizes.size_of_streams.Given as goal

-- the streams so far are counted
abbrev pub invariant-loop-stream : goal.invariant-loop-stream
invariant-loop-stream l = record {
  value : l.size ≡ size_of_pages (flat_map first_pages (take l.stream-index l.streams)) + size_of_pages (flat_map header_pages (take l.stream-index l.streams));
  small : l.size ≤ 29 * (sum_by header_bytes (take l.stream-index l.streams) + 256 * l.stream-index);
}
