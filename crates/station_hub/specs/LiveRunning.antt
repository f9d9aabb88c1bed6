-- How a live hub answers the records of a feed: as its hub does, and its places stay those of the file. Ours.
use Rattle.std.specs.Prelude.{◌≡◌, ℕ, List}
use Rattle.disk_model.specs.declared.disk.Disk.{Ghosts as DiskModel}
use Rattle.feed_records.specs.declared.item.Record.{Record}
use Rattle.feed_replies.specs.declared.reply.Reply.{Reply}
use Rattle.serve_hub.specs.Running.{Answers, IsIn, Progress, end_in as hub_end_in, waiting_in as hub_waiting_in}
use Rattle.station_hub.specs.Places.{PlacesState}
use Rattle.station_hub.specs.Tracking.{TracksOn}
use Rattle.station_hub.specs.declared.live_hub.LiveHub.{LiveHub}

-- a hub, the machine that it is seen as, and the places of its listeners
pub record LiveProgress (D : Type 0) : Type 0 where
  pub hub : Progress D
  pub places : PlacesState

-- how many commands wait
abbrev pub waiting_in : {D : Type 0} → LiveProgress D → ℕ
waiting_in before = hub_waiting_in before.hub

-- how many bytes are committed
abbrev pub end_in : {D : Type 0} → LiveProgress D → ℕ
end_in before = hub_end_in before.hub

-- such a live hub, whose hub is seen so
abbrev pub live_in : {D : Type 0} → Progress D → LiveHub D → LiveProgress D
live_in before live = record { hub = before; places = live.places }

module _ {D : Type 0} (model : DiskModel D) where
  -- the live hub is this one
  pub record IsLiveIn (before : LiveProgress D) (live : LiveHub D) : Type 0 where
    pub hub : IsIn model before.hub live.hub
    pub places : before.places ≡ live.places

  -- Its hub answers the record so. If the places were those of the file before, they are after.
  pub record LiveAnswers (before : LiveProgress D) (given : Record) (reply : Reply) (own : List ℕ) (after : LiveProgress D) : Type 0 where
    pub hub : Answers model before.hub given reply own after.hub
    pub tracks : TracksOn before.hub.machine before.places after.hub.machine after.places
