-- The streams of the last link while a put's packets are counted in, one after the other.
use Rattle.std.specs.Prelude.{ℕ, nat_eq, true, if◌then◌else◌, Option, List, map, find}
use Rattle.std.specs.Option.{option_map_or}
use Rattle.link_chain.specs.declared.stream_state.StreamState.{StreamState}

-- the stream with this serial
abbrev pub stream_in : List StreamState → ℕ → Option StreamState
stream_in streams serial = find (λ (stream : StreamState). nat_eq stream.serial serial) streams

-- the number of its next page
abbrev pub next_in : List StreamState → ℕ → ℕ
next_in streams serial = option_map_or (λ (stream : StreamState). stream.next_sequence) (stream_in streams serial) 0

-- the position that it has reached
abbrev pub position_in : List StreamState → ℕ → ℕ
position_in streams serial = option_map_or (λ (stream : StreamState). stream.last_position) (stream_in streams serial) 0

-- a change of the stream with this serial
abbrev pub change_at : ℕ → (StreamState → StreamState) → StreamState → StreamState
change_at serial change stream = if nat_eq stream.serial serial then change stream else stream

abbrev pub moved_to : ℕ → StreamState → StreamState
moved_to position stream = record stream { last_position = position }

-- the stream has reached this position
abbrev pub with_position : ℕ → ℕ → List StreamState → List StreamState
with_position serial position streams = map (change_at serial (moved_to position)) streams

abbrev pub advanced : ℕ → ℕ → StreamState → StreamState
advanced sequence position stream = record stream { next_sequence = sequence; last_position = position; finished = true }

-- the stream has whole packets up to this position, and its next page has this number
abbrev pub brought_to : ℕ → ℕ → ℕ → List StreamState → List StreamState
brought_to serial sequence position streams = map (change_at serial (advanced sequence position)) streams

-- the stream has its last page, and a next one would have this number
abbrev pub ended_by : ℕ → StreamState → StreamState
ended_by sequence stream = record stream { next_sequence = sequence; ended = true }

-- the stream's last packet is whole: the unfinished one is dropped
abbrev pub left_whole : StreamState → StreamState
left_whole stream = record stream { finished = true }
