-- The streams of a link that begins. If the link has a Skeleton, the Skeleton is the first.
use Rattle.std.specs.Prelude.{ℕ, ◌+◌, Bool, true, false, nat_lt, Option, None, Some, List, [], ◌∷◌, length, map}
use Rattle.std.specs.List.{list_any}
use Rattle.ogg_command.specs.declared.command.Begin.{Begin}
use Rattle.ogg_command.specs.declared.command.SkeletonHead.{SkeletonHead}
use Rattle.ogg_command.specs.declared.command.NewStream.{NewStream}
use Rattle.link_chain.specs.declared.stream_state.StreamState.{StreamState}
use Rattle.chain_rules.specs.Encoding.{header_pages}

abbrev pub has_other_headers : NewStream → Bool
has_other_headers stream = nat_lt 1 (length stream.headers)

-- a new stream after its headers
abbrev pub new_state : NewStream → StreamState
new_state stream =
    record { serial = stream.serial; next_sequence = 1 + length (header_pages stream); last_position = 0; ended = false; finished = true }

-- a Skeleton after its fishead, a fisbone for each stream, and the empty packet that ends it
abbrev pub skeleton_state : ℕ → List NewStream → StreamState
skeleton_state serial streams =
    record { serial = serial; next_sequence = length streams + 2; last_position = 0; ended = true; finished = true }

abbrev pub states_of : Option SkeletonHead → List NewStream → List StreamState
states_of None streams = map new_state streams
states_of (Some head) streams = skeleton_state head.serial streams ∷ map new_state streams

-- the Skeleton's serial
abbrev pub skeleton_serial : Option SkeletonHead → List ℕ
skeleton_serial None = []
skeleton_serial (Some head) = head.serial ∷ []

abbrev pub serials_in : Option SkeletonHead → List NewStream → List ℕ
serials_in None streams = map (λ stream. stream.serial) streams
serials_in (Some head) streams = head.serial ∷ map (λ stream. stream.serial) streams

-- whether there are pages that are no stream's first: fisbones, or other headers
abbrev pub has_more_pages : Option SkeletonHead → List NewStream → Bool
has_more_pages None streams = list_any has_other_headers streams
has_more_pages (Some head) streams = true

abbrev pub stream_count : Begin → ℕ
stream_count begin = length begin.streams + length (skeleton_serial begin.skeleton)
