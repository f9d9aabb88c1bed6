-- How many pages of each stream of the link were lost, in the order of the streams' first pages. Ours.
use Rattle.std.specs.Prelude.{ℕ, nat_eq, if◌then◌else◌, length, Option, Some, None, List, slice_index, slice_set}
use Rattle.std.specs.List.{position}
use Rattle.link_chain.specs.declared.stream_state.StreamState.{StreamState}
use Rattle.link_chain.specs.ChainState.{ChainState, is_open}

abbrev pub place_in : List StreamState → ℕ → Option ℕ
place_in streams serial = position (λ (stream : StreamState). nat_eq stream.serial serial) streams

abbrev pub lost_at : List ℕ → Option ℕ → ℕ
lost_at losses None = 0
lost_at losses (Some place) = slice_index losses place

-- of the stream with this serial
abbrev pub lost_in : List ℕ → List StreamState → ℕ → ℕ
lost_in losses streams serial = lost_at losses (place_in streams serial)

abbrev pub with_lost_at : List ℕ → ℕ → Option ℕ → List ℕ
with_lost_at losses count None = losses
with_lost_at losses count (Some place) = slice_set losses place count

abbrev pub with_lost : List ℕ → List StreamState → ℕ → ℕ → List ℕ
with_lost losses streams serial count = with_lost_at losses count (place_in streams serial)

-- of the stream of a first page none are lost: it is the next of an open link, or the first of a new one
abbrev pub with_new : List ℕ → ChainState → List ℕ
with_new losses chain = slice_set losses (if is_open chain then length chain.streams else 0) 0
