-- Streams whose packets are counted in.
use Rattle.std.proofs.Common.{false}
use Rattle.link_chain.specs.declared.stream_state.StreamState.{StreamState}

-- what is read past the end of a list of streams
abbrev pub nobody : StreamState
nobody = record { serial = 0; next_sequence = 0; last_position = 0; ended = false; finished = false }
