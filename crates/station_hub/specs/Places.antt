-- Where listeners may join, as the answers of a hub tell it. Ours.
use Rattle.std.specs.Prelude.{ℕ, Bool, true, false, nat_lt, if◌then◌else◌, Option, None, Some, []}
use Rattle.feed_replies.specs.declared.reply.Reply.{Reply}
use Rattle.feed_replies.specs.declared.reply.Reply.TheVariants.{Held, Kept, Refused}
use Rattle.ogg_command.specs.declared.refusal.Refusal.TheVariants.{Disk}
use Rattle.serve_live.specs.Boundaries.{BoundariesState, begun_at, gone_on}
use Rattle.station_hub.specs.declared.places.Answered.{Answered}
use Rattle.station_hub.specs.declared.places.BeginPlace.{BeginPlace}

-- The boundaries of what is committed, and where the pages stand of the last Begin that isn't known to be committed.
pub record PlacesState : Type 0 where
  pub boundaries : BoundariesState
  pub begun : Option BeginPlace

-- All that waited is committed up to `end`: the link of a Begin that waited begins, and its commands go on; or those of
-- the link before do.
abbrev pub gone_to : Option BeginPlace → ℕ → BoundariesState → BoundariesState
gone_to None end boundaries = gone_on end boundaries
gone_to (Some place) end boundaries =
    if nat_lt place.end end then gone_on end (begun_at place.begin place.end) else begun_at place.begin place.end

-- nobody joins a link that has ended
abbrev pub while_open : Bool → BoundariesState → BoundariesState
while_open true boundaries = boundaries
while_open false boundaries = record boundaries { kept = [] }

abbrev pub committed_to : ℕ → Bool → PlacesState → PlacesState
committed_to end going old = record { boundaries = while_open going (gone_to old.begun end old.boundaries); begun = None }

-- a Begin was taken, whose pages stand there
abbrev pub noted : Bool → BeginPlace → PlacesState → PlacesState
noted true place old = record old { begun = Some place }
noted false place old = old

-- where the pages of a command stand that was taken
abbrev pub place_of : Answered → BeginPlace
place_of answered = record { begin = answered.before; end = answered.after }

-- A Begin at which the disk failed may be kept all the same, where nobody knows. So nobody joins before the next one.
abbrev pub doubted : Bool → PlacesState → PlacesState
doubted true old = record { boundaries = record old.boundaries { kept = [] }; begun = None }
doubted false old = old

-- what waits is no boundary
abbrev pub answered_by : Reply → Answered → PlacesState → PlacesState
answered_by (Held count) answered old = noted answered.begins (place_of answered) old
answered_by (Kept kept) answered old = committed_to answered.end answered.is_open (noted answered.begins (place_of answered) old)
answered_by (Refused Disk) answered old = doubted answered.begins old
answered_by (Refused refusal) answered old = old

-- The file was opened again. If it has become longer, all that was in doubt is committed; else it is lost.
abbrev pub reopened_to : ℕ → ℕ → Bool → PlacesState → PlacesState
reopened_to old_end end is_open old =
    if nat_lt old_end end then committed_to end is_open old else record old { begun = None }
