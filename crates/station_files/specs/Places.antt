-- Stations by their numbers, and what there is at all of them. Ours.
use Rattle.std.specs.Prelude.{◌≡◌, ℕ, ◌+◌, ◌<◌, ◌≤◌, ◌-◌, ◌==◌, Bool, false, not, nat_eq, nat_le, if◌then◌else◌, Option, None, Some, IfSome, is_some, List, [], ◌∷◌, fold, length, option_and_then, option_map, slice_get, vec_capacity, vec_len}
use Rattle.disk_model.specs.declared.disk.Disk.{Ghosts as DiskModel}
use Rattle.serve_clients.specs.Client.{ClientState}
use Rattle.serve_clients.specs.Clients.{OthersStay}
use Rattle.serve_clients.specs.Kinds.{both, kinds_in, nobody, sum}
use Rattle.serve_clients.specs.declared.kinds.Kinds.{Kinds}
use Rattle.serve_hub.specs.Parts.{is_settled}
use Rattle.serve_hub.specs.Showing.{Shows}
use Rattle.serve_machine.specs.Hub.{HubState}
use Rattle.slab.specs.Slab.{slab_len}
use Rattle.station.specs.Ending.{gathers, has_finished}
use Rattle.station.specs.Waiting.{until_look, until_next}
use Rattle.station.specs.declared.station.Station.{Station}
use Rattle.station_hub.specs.Giving.{has_got_all}
use Rattle.station_hub.specs.Patience.{until_due as until_commit}
use Rattle.station_hub.specs.Waking.{until_due}
use Rattle.station_files.specs.declared.seats.Past.{Past}
use Rattle.station_files.specs.declared.seats.Seat.{Seat}
use Rattle.station_files.specs.declared.seats.Stations.{Stations}

-- whether those who read files that have ended have had a minute, if the newest comes to its end since then
abbrev pub has_had_a_minute : Option ℕ → ℕ → Bool
has_had_a_minute None now = false
has_had_a_minute (Some since) now = nat_le 60000 (now - since)

-- it hears what is recorded, and has got all of it
abbrev pub has_heard_all : ℕ → Option ClientState → Bool
has_heard_all end None = false
has_heard_all end (Some client) = has_got_all end client

module _ {D : Type 0} where
  -- how long may be waited for one station, if nothing comes
  abbrev pub WaitsFor : DiskModel D → ℕ → ℕ → Station D → Type 0
  WaitsFor model now time station =
      (machine : HubState) → Shows model station.live.hub machine
      → time ≡ until_next station.clients.turns.len (until_commit machine.waiting station.waiting_since now)
      (until_due (gathers station.air station.ending) station.waking now (length machine.committed)) (until_look station.looked now)

  -- whether one station has come to its end
  abbrev pub is_finished : ℕ → Station D → Bool
  is_finished now station =
      has_finished station.ending (is_some station.air) (is_settled station.live.hub.file) (not (slab_len station.clients.slots == 0)) now

  -- it is this connection's turn at a station
  pub record TakesTurn (key : ℕ) (old new : Station D) : Type 0 where
    pub turn : old.clients.turns.items ≡ key ∷ new.clients.turns.items
    pub others : OthersStay key old.clients new.clients
    pub live : new.live ≡ old.live

  -- The connection whose turn it is at the station over a file that has ended; if there is none nobody waits for a turn.
  pub record IsNext (result : Option Seat) (old new : Past D) : Type 0 where
    pub turn : IfSome result (λ seat. (seat.station ≡ old.number) × TakesTurn seat.key old.station new.station)
    pub idle : result ≡ None → old.station.clients.turns.items ≡ []
    pub rest : new ≡ record old { station = new.station }

  -- where the station with this number stands among those over files that have ended
  abbrev pub place_from : ℕ → ℕ → List (Past D) → Option ℕ
  place_from number at [] = None
  place_from number at (one ∷ later) = if nat_eq one.number number then Some at else place_from number (at + 1) later

  abbrev pub place_of : ℕ → List (Past D) → Option ℕ
  place_of number past = place_from number 0 past

  -- the station over this file
  abbrev pub station_of : Option (Past D) → Option (Station D)
  station_of past = option_map (λ (one : Past D). one.station) past

  -- the station with this number: 0 is the one whose file is recorded
  abbrev pub station_at : ℕ → Stations D → Option (Station D)
  station_at number stations =
      if nat_eq number 0 then Some stations.newest
      else station_of (option_and_then (slice_get stations.past.items) (place_of number stations.past.items))

  -- how many connections have a turn, beside so many: a sum stops at the greatest number
  abbrev pub turns_with : ℕ → List (Past D) → ℕ
  turns_with turns past = fold (λ (turns : ℕ) (one : Past D). sum turns one.station.clients.turns.len) turns past

  abbrev pub turns_in : Stations D → ℕ
  turns_in stations = turns_with stations.newest.clients.turns.len stations.past.items

  -- how many connections there are at stations over files that have ended, and how many of each kind
  abbrev pub readers_with : ℕ → List (Past D) → ℕ
  readers_with readers past = fold (λ (readers : ℕ) (one : Past D). sum readers (slab_len one.station.clients.slots)) readers past

  abbrev pub readers_in : List (Past D) → ℕ
  readers_in past = readers_with 0 past

  abbrev pub kinds_with : Kinds → List (Past D) → Kinds
  kinds_with kinds past = fold (λ (kinds : Kinds) (one : Past D). both kinds (kinds_in one.station.clients.slots)) kinds past

  abbrev pub kinds_at : List (Past D) → Kinds
  kinds_at past = kinds_with nobody past

  -- there is room to move everybody, and for one station more
  pub record HasRoom (stations : Stations D) : Type 0 where
    pub moves : vec_len stations.moves + stations.newest.clients.slots.capacity ≤ vec_capacity stations.moves
    pub past : vec_len stations.past < vec_capacity stations.past
