-- What becomes of a connection by what it asks for. Ours.
use Rattle.std.specs.Prelude.{◌≡◌, ◌≢◌, ◌⊎◌, ⊤, ℕ, Bool, true, false, Option, Some, None, Result, List, ◌++◌}
use Rattle.disk_model.specs.declared.disk.Disk.{Ghosts as DiskModel}
use Rattle.serve_clients.specs.Client.{ClientState, HasLast, LacksHeadRoom, cut_for_memory, with_line, with_more}
use Rattle.serve_clients.specs.Line.{moved_on}
use Rattle.serve_clients.specs.declared.client.Stage.TheVariants.{Hearing}
use Rattle.serve_hub.specs.Listening.{KeepsMachine}
use Rattle.serve_hub.specs.Parts.{HubParts}
use Rattle.serve_hub.specs.Showing.{Shows}
use Rattle.serve_machine.specs.Calls.{Steps}
use Rattle.serve_machine.specs.Hub.{Close, HubState}
use Rattle.serve_machine.specs.declared.fault.HubFault.{HubFault}
use Rattle.serve_sources.specs.Asking.{IsOther, IsOwn, MayCome, is_source}
use Rattle.serve_sources.specs.declared.own.OwnResource.{OwnResource}
use Rattle.serve_sources.specs.declared.own.OwnResource.TheVariants.{Live, Player, Status}
use Rattle.serve_sources.specs.declared.password.Password.{Password}
use Rattle.serve_texts.specs.Player.{player_response}
use Rattle.serve_texts.specs.Status.{status_response}
use Rattle.serve_texts.specs.declared.numbers.Numbers.{Numbers}
use Rattle.serve_live.specs.Boundaries.{place_to_join}
use Rattle.serve_live.specs.Listening.{ListenerState}
use Rattle.station_hub.specs.Asking.{HasNoSession, IsConnected, IsCutFor, Listens}
use Rattle.station_hub.specs.Marking.{Start}
use Rattle.station_hub.specs.Places.{PlacesState}
use Rattle.station_hub.specs.Tracking.{JoinsAt, Tracks}
use Rattle.station.specs.Passing.{GoesOnAsSource}

-- ---- bytes that come of a head
abbrev pub moved : ClientState → ClientState
moved client = with_line (moved_on client.line) client

-- there is this room for its head then
abbrev pub heard : ℕ → List ℕ → ClientState → ClientState
heard room bytes client = with_more room bytes (moved client)

-- ---- what the station answers itself
abbrev pub IsAnswered : OwnResource → Bool → ClientState → ClientState → Type 0
IsAnswered Live head old new = Listens head old new
IsAnswered Player head old new = HasLast (player_response head) old new
IsAnswered Status head old new = (numbers : Numbers) × HasLast (status_response numbers head) old new

module _ {D : Type 0} (model : DiskModel D) where
  -- ---- what the head of a connection asks for, with these bytes that have come of it
  -- More of it has to come. Or there was no room for them, and it is cut.
  abbrev pub Awaits : List ℕ → HubParts D → HubParts D → ClientState → ClientState → Type 0
  Awaits bytes old new client after =
      (new ≡ old)
      × ((MayCome (client.head ++ bytes) × (after ≡ heard after.head_room bytes client))
      ⊎ (LacksHeadRoom bytes client × (after ≡ cut_for_memory (moved client))))

  -- it is a source's, if a connection may send a stream
  abbrev pub Offers : Option Password → List ℕ → HubParts D → HubParts D → ClientState → ClientState → Type 0
  Offers password bytes old new client after =
      (new ≡ old) × (is_source (client.head ++ bytes) ≡ true) × (password ≢ None) × GoesOnAsSource client after

  -- A listener joins where the places say. If these are places of the committed links, it hears what is committed from there on.
  abbrev pub Joins : OwnResource → Bool → PlacesState → HubParts D → ClientState → Type 0
  Joins Live false places hub after =
      (start : Start) (machine : HubState) → Shows model hub machine → Tracks start machine places → after.stage ≡ Hearing
      → (listener : ListenerState) × (after.listener ≡ Some listener) × JoinsAt (place_to_join places.boundaries) machine.committed listener
  Joins resource head places hub after = ⊤

  -- if a listener is cut, it is for want of memory, or since nothing can be heard
  abbrev pub HasCause : OwnResource → PlacesState → HubParts D → HubParts D → ClientState → ClientState → Type 0
  HasCause Live places old new client after = IsCutFor model places old new client after
  HasCause resource places old new client after = ⊤

  -- the station answers it itself
  abbrev pub GetsOwn : PlacesState → List ℕ → HubParts D → HubParts D → ClientState → ClientState → Type 0
  GetsOwn places bytes old new client after =
      (resource : OwnResource) × (head : Bool) × (room : ℕ) × IsOwn resource head (client.head ++ bytes)
      × KeepsMachine model old new × IsAnswered resource head (heard room bytes client) after × Joins resource head places old after
      × HasCause resource places old new (heard room bytes client) after

  -- The hub answers it: a session is connected and takes what has come. If there is no place for one the connection is cut.
  abbrev pub Connects : Option Password → List ℕ → HubParts D → HubParts D → ClientState → ClientState → Type 0
  Connects password bytes old new client after =
      (IsOther (client.head ++ bytes) ⊎ ((is_source (client.head ++ bytes) ≡ true) × (password ≡ None)))
      × ((room : ℕ) × (IsConnected (Shows model) old new (heard room bytes client) after ⊎ HasNoSession old new (heard room bytes client) after))

  abbrev pub IsAsked : Option Password → PlacesState → List ℕ → HubParts D → HubParts D → ClientState → ClientState → Type 0
  IsAsked password places bytes old new client after =
      Awaits bytes old new client after ⊎ Offers password bytes old new client after ⊎ GetsOwn places bytes old new client after
      ⊎ Connects password bytes old new client after

  -- ---- a connection that is closed
  abbrev pub EndsSession : Option ℕ → HubParts D → HubParts D → Type 0
  EndsSession None old new = new ≡ old
  EndsSession (Some id) old new = (answer : Result ⊤ HubFault) × Steps (Shows model) old new (λ machine. Close id answer)
