use Rattle.std.proofs.Common.{◌≡◌, ◌≤◌, ◌+◌, ◌*◌, ◌^◌, length, take}
use Rattle.std.specs.List.{flat_map}
use Rattle.command_pages.specs.Encoding.{first_pages, header_pages}
use Rattle.command_pages.proofs.beginning.count_headers.Given as goal

-- the streams so far are counted
abbrev pub invariant-loop-stream : goal.invariant-loop-stream
invariant-loop-stream l = record {
  value : l.count ≡ length (flat_map first_pages (take l.stream-index l.streams)) + length (flat_map header_pages (take l.stream-index l.streams));
  few : l.count ≤ 2 ^ 32 * l.stream-index;
}
