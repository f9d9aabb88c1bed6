use Rattle.std.proofs.Common.{◌≡◌, ◌≤◌, ◌+◌, ◌++◌, ℕ, List, length, vec_len}
use Rattle.std.specs.Prelude.{vec_capacity}
use Rattle.std.specs.List.{flat_map}
use Rattle.link_index.specs.Listing.{stream_line}
use Rattle.link_index.proofs.listing.append_streams.Given as goal

-- the lines so far are appended, and those of the rest are left
abbrev pub invariant-loop-stream : goal.invariant-loop-stream
invariant-loop-stream l = record {
  items : l.out.items ++ flat_map stream_line l.rest ≡ l.initial.out.items ++ flat_map stream_line l.streams;
  kept : (added : List ℕ) × (l.out.items ≡ l.initial.out.items ++ added);
  counted : vec_len l.out + length (flat_map stream_line l.rest) ≡ vec_len l.initial.out + length (flat_map stream_line l.streams);
  capacity : vec_capacity l.initial.out ≤ vec_capacity l.out;
}

abbrev pub decreases-loop-stream : goal.decreases-loop-stream
decreases-loop-stream l = length l.rest
