-- What calls leave of a live hub: of what it records, and of where its listeners join. Ours.
use Rattle.std.specs.Prelude.{◌≡◌, [], List, None}
use Rattle.disk_model.specs.declared.disk.Disk.{Ghosts as DiskModel}
use Rattle.link_chain.specs.Links.{AreLinks}
use Rattle.link_chain.specs.Recording.{HoldsLinks}
use Rattle.serve_hub.specs.Parts.{HubParts}
use Rattle.serve_hub.specs.Showing.{Shows}
use Rattle.serve_machine.specs.Hub.{HubState}
use Rattle.serve_machine.specs.Run.{AreSteps, Step}
use Rattle.station_hub.specs.Going.{AreRecorders, left_by}
use Rattle.station_hub.specs.Keeping.{KeepsRecorded}
use Rattle.station_hub.specs.Marking.{Start}
use Rattle.station_hub.specs.Tracking.{KeepsPlaces, Tracks, TracksOn}
use Rattle.station_hub.specs.declared.live_hub.LiveHub.{LiveHub}

-- The machine's file is all of this, and nothing of it waits, or is in doubt.
pub record IsAtStart (start : Start) (machine : HubState) : Type 0 where
  pub bytes : start.bytes ≡ machine.committed
  pub are_links : AreLinks start.bytes start.links
  pub holds : HoldsLinks start.links start.recording
  pub none_held : machine.held ≡ []
  pub none_in_doubt : machine.in_doubt ≡ None

-- the live hub is this hub, and its places are those of whichever file that begins there
abbrev pub BeginsOver : {D : Type 0} → HubParts D → LiveHub D → Type 0
BeginsOver hub live = (live.hub ≡ hub) × ((start : Start) (machine : HubState) → IsAtStart start machine → Tracks start machine live.places)

module _ {D : Type 0} (model : DiskModel D) where
  -- what is recorded stays, and so do the places
  abbrev pub StaysLive : LiveHub D → LiveHub D → Type 0
  StaysLive old new = KeepsRecorded model old.hub new.hub × (new.places ≡ old.places)

  -- Whichever machine the hub is seen as before: it takes steps of the recorder alone, and the hub is seen as the machine that
  -- they leave. If the places were those of the file before, they are then.
  abbrev pub RecordsLive : LiveHub D → LiveHub D → Type 0
  RecordsLive old new =
      (before : HubState) → Shows model old.hub before
      → (steps : List Step) × AreSteps before steps × AreRecorders steps × Shows model new.hub (left_by before steps)
      × TracksOn before old.places (left_by before steps) new.places

  -- whichever machine the hub is seen as before: if the places are those of its file, they are after
  abbrev pub KeepsLive : LiveHub D → LiveHub D → Type 0
  KeepsLive old new = KeepsPlaces (Shows model) old.hub old.places new.hub new.places
