use Rattle.std.proofs.Common.{◌≡◌, ◌≤◌, ◌+◌, ◌++◌, map, take}
use Rattle.link_chain.specs.declared.stream_state.StreamState.{StreamState}
use Rattle.link_chain.proofs.taking.add_serials.Given as goal

-- the serials so far are added, and there is room for the rest
abbrev pub invariant-loop-stream : goal.invariant-loop-stream
invariant-loop-stream l = record {
  listed : l.serials.listed ≡ l.fn.serials.listed ++ map (λ (stream : StreamState). stream.serial) (take l.stream-index l.streams);
  room : l.fn.serials.room ≤ l.serials.room + l.stream-index;
}
