-- Connections go from one station to another. Ours.
use Rattle.std.specs.Prelude.{◌≡◌, ◌≢◌, ◌⊎◌, ◌<◌, ⊤, ℕ, ◌+◌, ◌-◌, ◌^◌, min, true, false, Option, Some, None, List, [], ◌∷◌, ◌++◌, length, slice_get, slice_set, vec_capacity, vec_len}
use Rattle.slab.specs.Slab.{get}
use Rattle.disk_model.specs.declared.disk.Disk.{Ghosts as DiskModel}
use Rattle.link_chain.specs.declared.stream_state.StreamState.{StreamState}
use Rattle.serve_hub.specs.Showing.{Shows}
use Rattle.serve_live.specs.Listening.{ListenerState}
use Rattle.serve_machine.specs.Hub.{HubState}
use Rattle.serve_clients.specs.Client.{ClientState}
use Rattle.serve_clients.specs.Clients.{AllStay, HasTurn, OthersStay}
use Rattle.serve_clients.specs.declared.clients.Clients.{Clients}
use Rattle.station_hub.specs.declared.live_hub.LiveHub.{LiveHub}
use Rattle.station.specs.Changing.{HearsAnew, HearsOn, ReadsFile, anew, arrived, come}
use Rattle.station.specs.declared.station.Station.{Station}
use Rattle.station_hub.specs.Giving.{has_got_all}
use Rattle.station_files.specs.Places.{HasRoom, has_heard_all}
use Rattle.station_files.specs.declared.seats.Meeting.{Meeting}
use Rattle.station_files.specs.declared.seats.Move.{Move}
use Rattle.station_files.specs.declared.seats.Next.{Next}
use Rattle.station_files.specs.declared.seats.Past.{Past}
use Rattle.station_files.specs.declared.seats.Seat.{Seat}
use Rattle.station_files.specs.declared.seats.Stations.{Stations}
use Rattle.station_files.specs.declared.seats.Next.TheVariants.{Another, GoesOn, Same}

-- The connection has a key that was free, and stands as it came, but that nothing is known of its socket; and it has a turn,
-- if there was room for one. Nobody else is changed.
pub record HasEntered {D : Type 0} (client : ClientState) (key : ℕ) (old new : Station D) : Type 0 where
  pub free : get old.clients.slots key ≡ None
  pub clients : Clients
  pub there : get clients.slots key ≡ Some (come client)
  pub turn : HasTurn key (arrived client) clients new.clients
  pub others : OthersStay key old.clients new.clients
  pub rest : new ≡ record old { clients = new.clients }

-- nobody has entered, and nobody is changed
pub record HasNotEntered {D : Type 0} (old new : Station D) : Type 0 where
  pub all : AllStay old.clients new.clients
  pub rest : new ≡ record old { clients = new.clients }

-- It hears the file from its first page on, if that is another one in which no link goes on.
pub record HearsFirst {D : Type 0} (key : ℕ) (old new : Station D) : Type 0 where
  pub before : ClientState
  pub was : get old.clients.slots key ≡ Some before
  pub after : ClientState
  pub is : get new.clients.slots key ≡ Some after
  pub hears : HearsAnew before after
  pub others : OthersStay key old.clients new.clients
  pub rest : new ≡ record old { clients = new.clients }

abbrev pub HearsBy : {D : Type 0} → Next → ℕ → Station D → Station D → Type 0
HearsBy Another key old new = HearsFirst key old new
HearsBy GoesOn key old new = new ≡ old
HearsBy Same key old new = new ≡ old

-- a connection that has heard all of a file has entered the station over the one that follows
pub record EntersNext {D : Type 0} (next : Next) (client : ClientState) (key : ℕ) (old new : Station D) : Type 0 where
  pub entered : Station D
  pub enters : HasEntered client key old entered
  pub hears : HearsBy next key entered new

-- this connection has left, and nobody else is changed
pub record HasLeft {D : Type 0} (client : ClientState) (key : ℕ) (old new : Station D) : Type 0 where
  pub was : get old.clients.slots key ≡ Some client
  pub gone : get new.clients.slots key ≡ None
  pub others : OthersStay key old.clients new.clients
  pub rest : new ≡ record old { clients = new.clients; spare = new.spare }

-- ---- at a change of files
-- another file is recorded and served by the station
abbrev pub over_another : {D : Type 0} → LiveHub D → Station D → Station D
over_another live station = record station { live = live; reopened = None; waking = anew station.waking }

-- the connection enters the station with this number at this seat; without memory for it, it is gone
abbrev pub EntersAt : {D : Type 0} → ℕ → ClientState → Option Seat → Station D → Station D → Type 0
EntersAt number client None old new = HasNotEntered old new
EntersAt number client (Some seat) old new = (seat.station ≡ number) × HasEntered client seat.key old new

-- A connection that reads the file before leaves the newest station, and enters the one over that file, as the move tells.
pub record IsSent {D : Type 0} (number : ℕ) (move : Move) (old new before after : Station D) : Type 0 where
  pub client : ClientState
  pub reads : ReadsFile (Some client)
  pub from : move.from.station ≡ 0
  pub leaves : HasLeft client move.from.key old new
  pub enters : EntersAt number client move.to before after

-- one after the other
abbrev pub AreSent : {D : Type 0} → ℕ → List Move → Station D → Station D → Station D → Station D → Type 0
AreSent number [] old new before after = (new ≡ old) × (after ≡ before)
AreSent {D} number (move ∷ later) old new before after =
    (left entered : Station D) × IsSent number move old left before entered × AreSent number later left new entered after

-- a connection that reads the file before is gone, as the move tells
pub record IsDropped {D : Type 0} (move : Move) (old new : Station D) : Type 0 where
  pub client : ClientState
  pub reads : ReadsFile (Some client)
  pub from : move.from.station ≡ 0
  pub nowhere : move.to ≡ None
  pub leaves : HasLeft client move.from.key old new

abbrev pub AreDropped : {D : Type 0} → List Move → Station D → Station D → Type 0
AreDropped [] old new = new ≡ old
AreDropped {D} (move ∷ later) old new = (left : Station D) × IsDropped move old left × AreDropped later left new

-- who has this key is sent, or gone, if it reads the file: the move is noted, if there was room for it
abbrev pub SendsIf : {D : Type 0} → ℕ → ℕ → Stations D → Stations D → Station D → Station D → Type 0
SendsIf number key old new before after =
    (¬ (ReadsFile (get old.newest.clients.slots key)) × (new ≡ old) × (after ≡ before))
    ⊎ (ReadsFile (get old.newest.clients.slots key) × (get new.newest.clients.slots key ≡ None)
    × (vec_len old.moves < vec_capacity old.moves → (move : Move) × (new.moves.items ≡ old.moves.items ++ move ∷ [])
    × IsSent number move old.newest new.newest before after))

abbrev pub DropsIf : {D : Type 0} → ℕ → Stations D → Stations D → Type 0
DropsIf key old new =
    (¬ (ReadsFile (get old.newest.clients.slots key)) × (new ≡ old))
    ⊎ (ReadsFile (get old.newest.clients.slots key) × (get new.newest.clients.slots key ≡ None)
    × (vec_len old.moves < vec_capacity old.moves → (move : Move) × (new.moves.items ≡ old.moves.items ++ move ∷ [])
    × IsDropped move old.newest new.newest))

-- nobody reads the file at the newest station any more, and who didn't is as before
pub record ReadersLeave {D : Type 0} (old new : Station D) : Type 0 where
  pub none : (key : ℕ) → ¬ (ReadsFile (get new.clients.slots key))
  pub others : (key : ℕ) → ¬ (ReadsFile (get old.clients.slots key)) → get new.clients.slots key ≡ get old.clients.slots key

-- The file that was left has a station of its own, with a number that no other one has had: nobody was there, and all who
-- read the file have gone there. It is the last.
pub record GetsStation {D : Type 0} (live : LiveHub D) (next : Next) (old new : Stations D) : Type 0 where
  pub begun : Station D
  pub past : Past D
  pub sent : List Move
  pub serves : begun.live ≡ live
  pub nobody : (begun.air ≡ None) × ((key : ℕ) → get begun.clients.slots key ≡ None)
  pub goes : AreSent past.number sent old.newest new.newest begun past.station
  pub number : past.number ≡ min (old.last + 1) (2 ^ 64 - 1)
  pub follows : (past.next ≡ next) × (past.meeting ≡ None)
  pub last : new.last ≡ past.number
  pub pasts : new.past.items ≡ old.past.items ++ past ∷ []
  pub moves : new.moves.items ≡ old.moves.items ++ sent

-- without memory for it all who read the file are gone
pub record GetsNoStation {D : Type 0} (old new : Stations D) : Type 0 where
  pub sent : List Move
  pub goes : AreDropped sent old.newest new.newest
  pub pasts : new.past ≡ old.past
  pub moves : new.moves.items ≡ old.moves.items ++ sent

-- so the file is left
abbrev pub IsLeft : {D : Type 0} → LiveHub D → Next → Stations D → Stations D → Type 0
IsLeft live next old new = GetsStation live next old new ⊎ GetsNoStation old new

-- Another file is recorded and served from now on, or the same one, opened again. Who reads the one before goes on to; a
-- station over that is there too if an older one is read still. There is room for the moves, if that was made.
pub record HasChanged {D : Type 0} (live : LiveHub D) (next : Next) (old new : Stations D) : Type 0 where
  pub alone : ((key : ℕ) → ¬ (ReadsFile (get old.newest.clients.slots key))) → old.past.items ≡ []
      → new ≡ record old { newest = over_another live old.newest }
  pub read : (key : ℕ) → ReadsFile (get old.newest.clients.slots key) → HasRoom old
      → IsLeft old.newest.live next (record old { newest = over_another live old.newest }) new
  pub older : old.past.items ≢ [] → HasRoom old → IsLeft old.newest.live next (record old { newest = over_another live old.newest }) new
  pub readers : ReadersLeave (over_another live old.newest) new.newest

-- In the file that is recorded the link goes on that was open at the end of the one before, if that has a station.
pub record IsMet {D : Type 0} (meeting : Meeting) (old new : Stations D) : Type 0 where
  pub met : (front : List (Past D)) (past : Past D) → old.past.items ≡ front ++ past ∷ [] → past.number ≡ old.last
      → new.past.items ≡ front ++ record past { next = GoesOn; meeting = Some meeting } ∷ []
  pub other : (front : List (Past D)) (past : Past D) → old.past.items ≡ front ++ past ∷ [] → past.number ≢ old.last
      → new.past.items ≡ old.past.items
  pub none : old.past.items ≡ [] → new ≡ old
  pub rest : new ≡ record old { past = new.past }

-- The link goes on with these streams, which were open at the end of the file before, if as many began here; or none does.
abbrev pub IsJoined : {D : Type 0} → List StreamState → Stations D → Stations D → Type 0
IsJoined streams old new =
    (new ≡ old) ⊎ ((meeting : Meeting) × IsMet meeting old new × (meeting.open.items ≡ streams) × (length meeting.begun.items ≡ length streams))

-- The station goes over to another file, or to the same one, opened again, and only the newest is changed after that.
pub record GoesOverTo {D : Type 0} (next : Next) (old new : Stations D) : Type 0 where
  pub live : LiveHub D
  pub changed : Stations D
  pub changes : HasChanged live next old changed
  pub rest : new ≡ record changed { newest = new.newest }

-- and then the link goes on in it, or none does
pub record GoesOver {D : Type 0} (streams : List StreamState) (next : Next) (old new : Stations D) : Type 0 where
  pub begun : Stations D
  pub over : GoesOverTo next old begun
  pub joined : IsJoined streams begun new

-- ---- after a turn
-- What a connection hears that has heard all of its file: the next one as it is, or, if the open link goes on there, that
-- link. Without memory for that it is gone.
abbrev pub GoesOnBy : Option Meeting → ClientState → Option ClientState → Type 0
GoesOnBy None client after = after ≡ Some client
GoesOnBy (Some meeting) client None = ⊤
GoesOnBy (Some meeting) client (Some after) =
    (heard : ListenerState) → client.listener ≡ Some heard → HearsOn meeting.begun_end meeting.open.items meeting.begun.items heard client after

-- the place is free, and nobody else at this station is changed
pub record IsFree {D : Type 0} (key : ℕ) (old new : Station D) : Type 0 where
  pub gone : get new.clients.slots key ≡ None
  pub others : OthersStay key old.clients new.clients
  pub rest : new ≡ record old { clients = new.clients; spare = new.spare }

-- Who has heard all of the file leaves the station over it, and hears what follows; anybody else stays.
pub record LetsGo {D : Type 0} (model : DiskModel D) (key : ℕ) (result : Option (Option ClientState × Next)) (old new : Past D) : Type 0 where
  pub waits : (machine : HubState) → Shows model old.station.live.hub machine → has_heard_all (length machine.committed) (get old.station.clients.slots key) ≡ false
      → (result ≡ None) × (new ≡ old)
  pub goes : (machine : HubState) (client : ClientState) → Shows model old.station.live.hub machine → get old.station.clients.slots key ≡ Some client
      → has_got_all (length machine.committed) client ≡ true → (left : Option ClientState) × (result ≡ Some (left, old.next))
      × GoesOnBy old.meeting client left × IsFree key old.station new.station
  pub rest : new ≡ record old { station = new.station }

-- it enters the station over the next file, if there was memory for it
abbrev pub EntersNextAt : {D : Type 0} → ℕ → Next → ClientState → Option Seat → Station D → Station D → Type 0
EntersNextAt number next client None old new = HasNotEntered old new
EntersNextAt number next client (Some seat) old new = (seat.station ≡ number) × EntersNext next client seat.key old new

-- The station over the file that follows is the one behind this place, or the newest.
abbrev pub EntersBehind : {D : Type 0} → Option (Past D) → ℕ → Next → ClientState → Option Seat → Stations D → Stations D → Type 0
EntersBehind {D} (Some past) at next client seat old new =
    (station : Station D) × EntersNextAt past.number next client seat past.station station
    × (new.past.items ≡ slice_set old.past.items at (record past { station = station })) × (new ≡ record old { past = new.past })
EntersBehind None at next client seat old new = EntersNextAt 0 next client seat old.newest new.newest × (new ≡ record old { newest = new.newest })

-- who is gone enters nothing
abbrev pub EntersIf : {D : Type 0} → ℕ → Next → Option ClientState → Option Seat → Stations D → Stations D → Type 0
EntersIf at next None seat old new = (seat ≡ None) × (new ≡ old)
EntersIf at next (Some client) seat old new = EntersBehind (slice_get old.past.items at) at next client seat old new

-- who has left enters the station over the next file, and the move is noted, if there was room for it
abbrev pub EntersAfter : {D : Type 0} → ℕ → Seat → Option (Option ClientState × Next) → Stations D → Stations D → Type 0
EntersAfter at from None old new = new ≡ old
EntersAfter {D} at from (Some (left, next)) old new =
    (to : Option Seat) × (entered : Stations D) × EntersIf (min (at + 1) (2 ^ 64 - 1)) next left to old entered
    × (new ≡ record entered { moves = new.moves })
    × (vec_len entered.moves < vec_capacity entered.moves → new.moves.items ≡ entered.moves.items ++ record { from = from; to = to } ∷ [])

-- A connection that has heard all of the file at this place hears what follows, as the move tells.
pub record MovesOn {D : Type 0} (model : DiskModel D) (at : ℕ) (seat : Seat) (past : Past D) (old new : Stations D) : Type 0 where
  pub result : Option (Option ClientState × Next)
  pub after : Past D
  pub between : Stations D
  pub leaves : LetsGo model seat.key result past after
  pub pasts : between.past.items ≡ slice_set old.past.items at after
  pub rest : between ≡ record old { past = between.past }
  pub enters : EntersAfter at seat result between new
