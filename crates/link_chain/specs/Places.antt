-- The places of a link's streams.
use Rattle.std.specs.Prelude.{◌≡◌, ℕ, nat_eq, List, map, slice_get}
use Rattle.std.specs.List.{IsDistinct}
use Rattle.link_chain.specs.declared.stream_state.StreamState.{StreamState}
use Rattle.link_chain.specs.Progress.{stream_in}

-- no two streams have one serial
abbrev pub HaveOwnSerials : List StreamState → Type 0
HaveOwnSerials streams = IsDistinct nat_eq (map (λ (stream : StreamState). stream.serial) streams)

-- the stream with this serial is at this place; if there is none, the place is after them all
abbrev pub IsPlace : List StreamState → ℕ → ℕ → Type 0
IsPlace streams serial place = slice_get streams place ≡ stream_in streams serial
