use Rattle.std.proofs.Common.{◌≡◌, ◌++◌, ◌+◌, map, take}
use Rattle.arrayvec.specs.ArrayVec.{array_vec_len}
use Rattle.chain_rules.specs.Begun.{new_state}
use Rattle.chain_rules.proofs.accepting.push_streams.Given as goal

-- the streams so far are added
abbrev pub invariant-loop-stream : goal.invariant-loop-stream
invariant-loop-stream l = record {
  streams : l.streams.items ≡ l.fn.streams.items ++ map new_state (take l.stream-index l.new);
  count : array_vec_len l.streams ≡ array_vec_len l.fn.streams + l.stream-index;
}
