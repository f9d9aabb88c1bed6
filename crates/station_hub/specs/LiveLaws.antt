-- What calls leave of a live hub, in turn. These are laws, to be cited.
use Rattle.std.proofs.Common.{◌≡◌, List, [], ◌∷◌, ◌++◌, refl, sym, subst}
use Rattle.disk_model.specs.declared.disk.Disk.{Ghosts as DiskModel}
use Rattle.serve_hub.specs.Running.{IsIn, Progress}
use Rattle.serve_hub.specs.Showing.{Shows}
use Rattle.serve_machine.specs.Hub.{HubState}
use Rattle.serve_machine.specs.Own.{KeepsFile}
use Rattle.serve_machine.specs.Run.{AreSteps, Step}
use Rattle.station_hub.specs.Going.{AreRecorders, OnlyRecords, left_by}
use Rattle.station_hub.specs.Live.{KeepsLive, RecordsLive, StaysLive}
use Rattle.station_hub.specs.LiveRunning.{IsLiveIn, live_in}
use Rattle.station_hub.specs.Marking.{Start}
use Rattle.station_hub.specs.Places.{PlacesState}
use Rattle.station_hub.specs.Tracking.{Tracks, TracksOn}
use Rattle.station_hub.specs.declared.live_hub.LiveHub.{LiveHub}

-- ---- places of a file
-- a session's call leaves the file as it is
pub tracks_file : (start : Start) (old new : HubState) (places : PlacesState) → KeepsFile old new → Tracks start old places → Tracks start new places
tracks_file start old new places keeps tracks = subst (λ (machine : HubState). Tracks start machine places) (sym keeps) (record {
  commands = tracks.commands;
  waiting = tracks.waiting;
  records = tracks.records;
  committed = tracks.committed;
  held = tracks.held;
  in_doubt = tracks.in_doubt;
  are_places = tracks.are_places;
})

pub tracks_same : (old new : HubState) (places now : PlacesState) → KeepsFile old new → now ≡ places → TracksOn old places new now
tracks_same old new places now keeps same start tracks =
    subst (λ (one : PlacesState). Tracks start new one) (sym same) (tracks_file start old new places keeps tracks)

pub tracks_then : (old mid new : HubState) (places between now : PlacesState) → TracksOn old places mid between → TracksOn mid between new now
    → TracksOn old places new now
tracks_then old mid new places between now first second start tracks = second start (first start tracks)

-- ---- steps in turn
pub steps_then : (before : HubState) (steps later : List Step) → AreSteps before steps → AreSteps (left_by before steps) later → AreSteps before (steps ++ later)
steps_then before [] later are more = more
steps_then before (step ∷ steps) later are more = (are.0, steps_then step.after steps later are.1 more)

pub recorders_then : (steps later : List Step) → AreRecorders steps → AreRecorders later → AreRecorders (steps ++ later)
recorders_then [] later are more = more
recorders_then (step ∷ steps) later are more = (are.0, recorders_then steps later are.1 more)

pub left_then : (before : HubState) (steps later : List Step) → left_by before (steps ++ later) ≡ left_by (left_by before steps) later
left_then before [] later = refl
left_then before (step ∷ steps) later = left_then step.after steps later

module _ {D : Type 0} (model : DiskModel D) where
  -- ---- a live hub, by its hub
  pub is_live_in : (before : Progress D) (live : LiveHub D) → IsIn model before live.hub → IsLiveIn model (live_in before live) live
  is_live_in before live is_in = record { hub = is_in; places = refl }

  -- ---- only the recorder goes on
  pub records_none : (live : LiveHub D) → RecordsLive model live live
  records_none live before shown = ([], tt, tt, shown, (λ start tracks. tracks))

  -- some, and then others
  pub records_then : (old mid new : LiveHub D) → RecordsLive model old mid → RecordsLive model mid new → RecordsLive model old new
  records_then old mid new first second before shown =
      let (steps, are, recorders, between, tracks) = first before shown in
      let (later, go_on, too, after, on) = second (left_by before steps) between in
      let left : left_by (left_by before steps) later ≡ left_by before (steps ++ later) = sym (left_then before steps later) in (
        steps ++ later,
        steps_then before steps later are go_on,
        recorders_then steps later recorders too,
        subst (λ (machine : HubState). Shows model new.hub machine) left after,
        subst (λ (machine : HubState). TracksOn before old.places machine new.places) left
            (tracks_then before (left_by before steps) (left_by (left_by before steps) later) old.places mid.places new.places tracks on),
      )

  pub records_alone : (old new : LiveHub D) → RecordsLive model old new → OnlyRecords (Shows model) old.hub new.hub
  records_alone old new records before shown =
      let (steps, are, recorders, after, tracks) = records before shown in
      (steps, are, recorders, after)

  -- ---- places
  pub keeps_same : (live : LiveHub D) → KeepsLive model live live
  keeps_same live start before shown tracks = (before, shown, tracks)

  pub keeps_then : (old mid new : LiveHub D) → KeepsLive model old mid → KeepsLive model mid new → KeepsLive model old new
  keeps_then old mid new first second start before shown tracks =
      let (between, seen, on) = first start before shown tracks in
      second start between seen on

  pub records_keep : (old new : LiveHub D) → RecordsLive model old new → KeepsLive model old new
  records_keep old new records start before shown tracks =
      let (steps, are, recorders, after, on) = records before shown in
      (left_by before steps, after, on start tracks)

  pub stays_keep : (old new : LiveHub D) → StaysLive model old new → KeepsLive model old new
  stays_keep old new (recorded, places) start before shown tracks =
      let (after, shows, keeps) = recorded before shown in
      (after, shows, tracks_same before after old.places new.places keeps places start tracks)
