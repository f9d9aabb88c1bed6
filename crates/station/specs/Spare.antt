-- Connections that have a spare place. Ours.
use Rattle.std.specs.Prelude.{◌≡◌, ◌≢◌, ◌⊎◌, ℕ, Bool, true, false, not, nat_eq, Option, None, List, ◌++◌}
use Rattle.std.specs.List.{list_any}
use Rattle.disk_model.specs.declared.disk.Disk.{Ghosts as DiskModel}
use Rattle.serve_clients.specs.Client.{ClientState, HasLast, LacksHeadRoom, cut_for_memory}
use Rattle.serve_hub.specs.Parts.{HubParts}
use Rattle.serve_sources.specs.Asking.{IsOther, IsOwn, MayCome, is_source}
use Rattle.serve_sources.specs.declared.answers.TheConstants.{FULL}
use Rattle.serve_sources.specs.declared.own.OwnResource.{OwnResource}
use Rattle.serve_sources.specs.declared.own.OwnResource.TheVariants.{Live, Player, Status}
use Rattle.serve_sources.specs.declared.password.Password.{Password}
use Rattle.station_hub.specs.Places.{PlacesState}
use Rattle.station.specs.Asked.{IsAnswered, IsAsked, heard, moved}
use Rattle.station.specs.Passing.{GoesOnAsSource}

-- the connection with this key has one
abbrev pub is_spare : ℕ → List ℕ → Bool
is_spare key spare = list_any (nat_eq key) spare

abbrev pub is_another : ℕ → ℕ → Bool
is_another key other = not (nat_eq other key)

-- the station's numbers are told, and of all else that there are too many
abbrev pub IsAnsweredInSpare : OwnResource → Bool → ClientState → ClientState → Type 0
IsAnsweredInSpare Status head old new = IsAnswered Status head old new
IsAnsweredInSpare Live head old new = HasLast FULL.now old new
IsAnsweredInSpare Player head old new = HasLast FULL.now old new

-- ---- what the head of such a connection asks for, with these bytes that have come of it
-- More of it has to come. Or there was no room for them, and it is cut.
abbrev pub AwaitsMore : List ℕ → ClientState → ClientState → Type 0
AwaitsMore bytes client after =
    (MayCome (client.head ++ bytes) × (after ≡ heard after.head_room bytes client)) ⊎ (LacksHeadRoom bytes client × (after ≡ cut_for_memory (moved client)))

-- it is a source's, if a connection may send a stream
abbrev pub OffersStream : Option Password → List ℕ → ClientState → ClientState → Type 0
OffersStream password bytes client after = (is_source (client.head ++ bytes) ≡ true) × (password ≢ None) × GoesOnAsSource client after

-- something of the station's own
abbrev pub AsksOwn : List ℕ → ClientState → ClientState → Type 0
AsksOwn bytes client after =
    (resource : OwnResource) × (head : Bool) × (room : ℕ) × IsOwn resource head (client.head ++ bytes)
    × IsAnsweredInSpare resource head (heard room bytes client) after

-- something else, or it is a source's, and no connection may send a stream: it is told that there are too many
abbrev pub AsksElse : Option Password → List ℕ → ClientState → ClientState → Type 0
AsksElse password bytes client after =
    (IsOther (client.head ++ bytes) ⊎ ((is_source (client.head ++ bytes) ≡ true) × (password ≡ None)))
    × ((room : ℕ) × HasLast FULL.now (heard room bytes client) after)

abbrev pub IsAskedInSpare : Option Password → List ℕ → ClientState → ClientState → Type 0
IsAskedInSpare password bytes client after =
    AwaitsMore bytes client after ⊎ OffersStream password bytes client after ⊎ AsksOwn bytes client after ⊎ AsksElse password bytes client after

-- ---- the head of any connection, which has a spare place or hasn't
abbrev pub IsAskedIn : {D : Type 0} → DiskModel D → Bool → Option Password → PlacesState → List ℕ → HubParts D → HubParts D → ClientState → ClientState → Type 0
IsAskedIn model true password places bytes old new client after = (new ≡ old) × IsAskedInSpare password bytes client after
IsAskedIn model false password places bytes old new client after = IsAsked model password places bytes old new client after
