-- What a connection gets, over any calls of a station. Ours.
use Rattle.std.specs.Prelude.{◌≡◌, ◌⊎◌, ℕ, Bool, true, false, List, [], ◌∷◌, ◌++◌}
use Rattle.disk_model.specs.declared.disk.Disk.{Ghosts as DiskModel}
use Rattle.serve_hub.specs.Showing.{Shows}
use Rattle.serve_live.specs.Live.{IsLive, Moment}
use Rattle.serve_machine.specs.Hub.{HubState}
use Rattle.serve_sources.specs.Asking.{IsOwn, is_source}
use Rattle.serve_sources.specs.declared.answers.TheConstants.{LIVE}
use Rattle.serve_sources.specs.declared.own.OwnResource.{OwnResource}
use Rattle.serve_sources.specs.declared.own.OwnResource.TheVariants.{Live, Player, Status}
use Rattle.serve_texts.specs.Player.{player_response}
use Rattle.serve_texts.specs.Status.{status_response}
use Rattle.serve_texts.specs.declared.numbers.Numbers.{Numbers}
use Rattle.station_hub.specs.Marking.{Start}
use Rattle.station_hub.specs.Places.{PlacesState}
use Rattle.station_hub.specs.Tracking.{IsJoinMoment, Tracks, TracksOn}
use Rattle.station_laws.specs.Calling.{After, Received, left_by}
use Rattle.station_laws.specs.Written.{GetsResponse, received_by, written}
use Rattle.station.specs.declared.station.Station.{Station}

-- what the station answers itself, if it isn't a listener's
abbrev pub IsTextOf : OwnResource → Bool → List ℕ → Type 0
IsTextOf Live true text = text ≡ LIVE.now
IsTextOf Live false text = ⊥
IsTextOf Player head text = text ≡ player_response head
IsTextOf Status head text = (numbers : Numbers) × (text ≡ status_response numbers head)

module _ {D : Type 0} where
  -- so it was at one of these calls, if these bytes had come of the connection before: of the station before the call, the call,
  -- and the bytes that had come before it
  abbrev pub AtCall : (Station D → After D → List ℕ → Type 0) → ℕ → Station D → List (After D) → List ℕ → Type 0
  AtCall P key old [] before = ⊥
  AtCall P key old (one ∷ later) before = P old one before ⊎ AtCall P key one.after later (before ++ received_by key one.call)

  -- the bytes that came by the call complete a head that asks for this
  pub record AsksOwn (key : ℕ) (resource : OwnResource) (head : Bool) (one : After D) (before : List ℕ) : Type 0 where
    pub bytes : List ℕ
    pub now : ℕ
    pub call : one.call ≡ Received key bytes now
    pub own : IsOwn resource head (before ++ bytes)

  -- they make it a source
  pub record AsksSource (key : ℕ) (one : After D) (before : List ℕ) : Type 0 where
    pub bytes : List ℕ
    pub now : ℕ
    pub call : one.call ≡ Received key bytes now
    pub source : is_source (before ++ bytes) ≡ true

  abbrev pub Sends : ℕ → Station D → List (After D) → List ℕ → Type 0
  Sends key old calls before = AtCall (λ station one so_far. AsksSource key one so_far) key old calls before

  -- The station answered it. What was written is the front of that answer.
  pub record GetsAnswer (key : ℕ) (old : Station D) (calls : List (After D)) (before : List ℕ) : Type 0 where
    pub resource : OwnResource
    pub head : Bool
    pub asks : AtCall (λ station one so_far. AsksOwn key resource head one so_far) key old calls before
    pub text : List ℕ
    pub is_text : IsTextOf resource head text
    pub left : List ℕ
    pub front : text ≡ written key calls ++ left

module _ {D : Type 0} (model : DiskModel D) where
  -- What was written is the front of this, followed by what is heard since the moment of the bytes that are committed in the end.
  abbrev pub HasHeardOf : List ℕ → Moment → Station D → List ℕ → Type 0
  HasHeardOf front moment station bytes =
      (machine : HubState) × (whole : List ℕ) × (left : List ℕ) × Shows model station.live.hub machine × IsLive moment machine.committed whole × (front ++ whole ≡ bytes ++ left)

  -- It listens, and joined where the places said. If these were places of the committed links, what was written is the front of
  -- the head of the answer and what is heard of the bytes committed by then. They were, if those at first were places of the
  -- links that the first machine had committed.
  pub record GetsHeard (first : HubState) (begun : PlacesState) (key : ℕ) (old : Station D) (calls : List (After D)) (before : List ℕ) : Type 0 where
    pub places : PlacesState
    pub machine : HubState
    pub joins : AtCall (λ station one so_far. AsksOwn key Live false one so_far × (places ≡ station.live.places) × Shows model station.live.hub machine) key old calls before
    pub tracked : TracksOn first begun machine places
    pub hears : (start : Start) → Tracks start machine places → (moment : Moment) × IsJoinMoment places machine.committed moment
        × HasHeardOf LIVE.now moment (left_by old calls) (written key calls)

  -- Nothing was written yet, or a part of the response of the connection's session, or of an answer of the station's own, or of
  -- what a listener hears. Or it is a source, whose answers these aren't.
  abbrev pub IsServed : HubState → PlacesState → ℕ → Station D → List (After D) → List ℕ → Type 0
  IsServed first begun key old calls before =
      (written key calls ≡ []) ⊎ GetsResponse model key old calls before ⊎ GetsAnswer key old calls before ⊎ GetsHeard first begun key old calls before
      ⊎ Sends key old calls before
