-- The places of a station's listeners stay those of its file, over any calls.
use Rattle.std.proofs.Common.{◌≡◌, Option, Some, None, Ok, Err, List, [], ◌∷◌, refl, sym, ap, subst, inl}
use Rattle.disk_model.specs.declared.disk.Disk.{Ghosts as DiskModel}
use Rattle.serve_hub.specs.Listening.{waiting_at}
use Rattle.serve_hub.specs.Parts.{HubParts}
use Rattle.serve_hub.specs.Showing.{IsChain, Shows}
use Rattle.serve_live.specs.Boundaries.{place_to_join}
use Rattle.serve_live.specs.Live.{Moment}
use Rattle.serve_live.specs.declared.listener.JoinPlace.{JoinPlace}
use Rattle.serve_machine.specs.Hub.{HubState}
use Rattle.station_hub.specs.Live.{BeginsOver, IsAtStart, KeepsLive}
use Rattle.station_hub.specs.LiveLaws.{keeps_same, keeps_then, records_keep, stays_keep}
use Rattle.station_hub.specs.Marking.{Start}
use Rattle.station_hub.specs.Places.{PlacesState}
use Rattle.station_hub.specs.Tracking.{IsJoinMoment, IsMomentAt, Tracks}
use Rattle.station_hub.specs.declared.live_hub.LiveHub.{LiveHub}
use Rattle.station_laws.specs.Calling.{Accepted, After, AreCalls, Aside, Call, Closed, EndedOpen, IsCall, Looked, Next, NextTurn, PeerEnded, ReadFailed, Received, Stepped, Turned, Woken, WriteFailed, Wrote, left_by}
use Rattle.station.specs.declared.station.Station.{Station}

module _ {D : Type 0} (model : DiskModel D) where
  same : (old new : LiveHub D) → new ≡ old → KeepsLive model old new
  same old new is = subst (KeepsLive model old) (sym is) (keeps_same model old)

  pub keeps_call : (old new : Station D) (call : Call) → IsCall model call old new → KeepsLive model old.live new.live
  keeps_call old new (Accepted now (Ok key)) is = same old.live new.live is.live
  keeps_call old new (Accepted now (Err fault)) is = same old.live new.live is.1
  keeps_call old new (Closed key) is = stays_keep model old.live new.live is.recorded
  keeps_call old new (Received key bytes now) is = stays_keep model old.live new.live is.recorded
  keeps_call old new (PeerEnded key) is = same old.live new.live is.live
  keeps_call old new (Next key size now count buffer) is = stays_keep model old.live new.live is.recorded
  keeps_call old new (Wrote key bytes count now) is = same old.live new.live is.live
  keeps_call old new (ReadFailed key trouble) is = same old.live new.live is.live
  keeps_call old new (WriteFailed key bytes trouble) is = same old.live new.live is.live
  keeps_call old new (Woken key readable writable) is = same old.live new.live (ap (λ (station : Station D). station.live) is.rest)
  keeps_call old new (NextTurn None) is = same old.live new.live is.1
  keeps_call old new (NextTurn (Some key)) is = same old.live new.live is.live
  keeps_call old new (Turned key now) is = same old.live new.live is.live
  keeps_call old new (Looked now) is = same old.live new.live is.live
  keeps_call old new (Stepped now) is = records_keep model old.live new.live is.records
  keeps_call old new EndedOpen is = records_keep model old.live new.live is.0
  keeps_call old new Aside is = same old.live new.live is.1

  pub keeps_all : (old : Station D) (calls : List (After D)) → AreCalls model old calls → KeepsLive model old.live (left_by old calls).live
  keeps_all old [] are = keeps_same model old.live
  keeps_all old (one ∷ later) are =
      keeps_then model old.live one.after.live (left_by one.after later).live (keeps_call old one.after one.call are.0) (keeps_all one.after later are.1)

  pub begins : (hub : HubParts D) (station : Station D) (start : Start) (machine : HubState) → BeginsOver hub station.live → Shows model hub machine
      → IsAtStart start machine → Shows model station.live.hub machine × Tracks start machine station.live.places
  begins hub station start machine over shown is = (subst (λ (one : HubParts D). Shows model one machine) (sym over.0) shown, over.1 start machine is)

  -- where a listener joins then
  joined : (machine : HubState) (place : Option JoinPlace)
      → ((found : JoinPlace) → place ≡ Some found → (moment : Moment) × IsMomentAt (Some found) machine.committed moment)
      → (moment : Moment) × IsMomentAt place machine.committed moment
  joined machine None at = (waiting_at machine.committed, refl)
  joined machine (Some found) at = at found refl

  pub joins : ((start : Start) (machine : HubState) (places : PlacesState) (place : JoinPlace) → Tracks start machine places → place_to_join places.boundaries ≡ Some place
      → IsChain machine.committed → (moment : Moment) × IsMomentAt (Some place) machine.committed moment)
      → (start : Start) (old : Station D) (calls : List (After D)) (machine : HubState) → Shows model old.live.hub machine
      → Tracks start machine old.live.places → AreCalls model old calls → (after : HubState) × Shows model (left_by old calls).live.hub after
      × (moment : Moment) × IsJoinMoment (left_by old calls).live.places after.committed moment
  joins at start old calls machine shown tracks are =
      let (after, shows, on) = keeps_all old calls are start machine shown tracks in
      let places = (left_by old calls).live.places in
      let (moment, is) = joined after (place_to_join places.boundaries) (λ place found. at start after places place on found (shows.linked after.committed (inl refl))) in
      (after, shows, moment, is)
