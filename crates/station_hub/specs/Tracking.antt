-- That the places of a hub's listeners are places of what its machine has committed. Ours.
use Rattle.std.specs.Prelude.{◌≡◌, ℕ, Bool, true, Option, None, Some, List, [], ◌++◌, length}
use Rattle.ogg_page.specs.Page.{Page}
use Rattle.link_chain.specs.ChainState.{chain_state_of, is_open}
use Rattle.link_chain.specs.Links.{AreLinks}
use Rattle.ogg_command.specs.declared.command.Command.{Command}
use Rattle.chain_rules.specs.Decision.{is_begin}
use Rattle.serve_live.specs.Boundaries.{place_to_join}
use Rattle.serve_live.specs.Hearing.{IsHearing}
use Rattle.serve_live.specs.Listening.{ListenerState}
use Rattle.serve_live.specs.Live.{Moment}
use Rattle.serve_live.specs.Places.{IsPlaceIn}
use Rattle.serve_live.specs.declared.listener.JoinPlace.{JoinPlace}
use Rattle.serve_machine.specs.Hub.{HubState}
use Rattle.serve_hub.specs.Listening.{waiting_at}
use Rattle.serve_hub.specs.Parts.{HubParts}
use Rattle.station_hub.specs.Marking.{ArePlaces, Records, Start, bytes_by}
use Rattle.station_hub.specs.Places.{PlacesState}
use Rattle.station_hub.specs.declared.places.Answered.{Answered}

-- The machine's file has grown by commands. Those that are committed are the first of them; the others wait, or are in
-- doubt, or were lost with the file. The places are those of this file.
pub record Tracks (start : Start) (machine : HubState) (places : PlacesState) : Type 0 where
  pub commands : List Command
  pub waiting : List Command
  pub records : Records start (commands ++ waiting)
  pub committed : machine.committed ≡ bytes_by start commands
  pub held : machine.has_file ≡ true → machine.in_doubt ≡ None → machine.committed ++ machine.held ≡ bytes_by start (commands ++ waiting)
  pub in_doubt : (group : List ℕ) → machine.in_doubt ≡ Some group → machine.committed ++ group ≡ bytes_by start (commands ++ waiting)
  pub are_places : ArePlaces start commands waiting places

-- whichever file they are those of before, the places are those of that file after
abbrev pub TracksOn : HubState → PlacesState → HubState → PlacesState → Type 0
TracksOn old places new new_places = (start : Start) → Tracks start old places → Tracks start new new_places

-- whether the last of the links that are committed and held is open, if no group is in doubt
abbrev pub IsOpenIn : HubState → Bool → Type 0
IsOpenIn machine going =
    (links : List (List Page)) → machine.has_file ≡ true → machine.in_doubt ≡ None → AreLinks (machine.committed ++ machine.held) links
    → going ≡ is_open (chain_state_of links)

-- What is told of a command is what the machine has, before it and after it.
pub record IsTold (command : Command) (old new : HubState) (answered : Answered) : Type 0 where
  pub begins : answered.begins ≡ is_begin command
  pub before : old.in_doubt ≡ None → answered.before ≡ length (old.committed ++ old.held)
  pub after : new.in_doubt ≡ None → answered.after ≡ length (new.committed ++ new.held)
  pub end : answered.end ≡ length new.committed
  pub is_open : IsOpenIn new answered.is_open

-- Whichever machine the hub is seen as before a call: if the places are those of its file, they are after the call.
abbrev pub KeepsPlaces : {D : Type 0} → (HubParts D → HubState → Type 0) → HubParts D → PlacesState → HubParts D → PlacesState → Type 0
KeepsPlaces shows old places new new_places =
    (start : Start) (before : HubState) → shows old before → Tracks start before places
    → (after : HubState) × shows new after × Tracks start after new_places

-- ---- a listener that joins
-- It has heard nothing yet, and hears what is committed from there on: from the place, which is one of the committed
-- links, or if there is none, from the end.
abbrev pub JoinsAt : Option JoinPlace → List ℕ → ListenerState → Type 0
JoinsAt None committed listener = IsHearing (waiting_at committed) committed listener []
JoinsAt (Some place) committed listener =
    (links : List (List Page)) × (moment : Moment) × AreLinks committed links × IsPlaceIn links moment place
    × IsHearing moment committed listener []

-- the moment at which a listener joins: that of the place, or if there is none, that at which these bytes are committed
abbrev pub IsMomentAt : Option JoinPlace → List ℕ → Moment → Type 0
IsMomentAt None committed moment = moment ≡ waiting_at committed
IsMomentAt (Some place) committed moment = (links : List (List Page)) × AreLinks committed links × IsPlaceIn links moment place

abbrev pub IsJoinMoment : PlacesState → List ℕ → Moment → Type 0
IsJoinMoment places committed moment = IsMomentAt (place_to_join places.boundaries) committed moment
