-- That boundaries are places of the last link, as commands make them. Ours.
use Rattle.std.specs.Prelude.{◌≡◌, ◌⊎◌, ℕ, true, Option, Some, None, List, [], ◌∷◌, ◌++◌, length}
use Rattle.std.specs.List.{AllByRecursion}
use Rattle.ogg_page.specs.Page.{Page}
use Rattle.link_chain.specs.ChainState.{chain_state_of, is_open}
use Rattle.link_chain.specs.Links.{AreLinks}
use Rattle.link_chain.specs.Recording.{HoldsLinks, Recording}
use Rattle.ogg_command.specs.Command.{IsCommand}
use Rattle.ogg_command.specs.declared.command.Begin.{Begin}
use Rattle.ogg_command.specs.declared.command.Command.{Command}
use Rattle.ogg_command.specs.declared.command.Command.TheVariants.{Begin as BeginOf}
use Rattle.chain_rules.specs.Commands.{AreKept, bytes_of_commands, links_behind}
use Rattle.serve_live.specs.Boundaries.{BoundariesState}
use Rattle.serve_live.specs.Commands.{NoneBegins}
use Rattle.station_hub.specs.Places.{PlacesState}
use Rattle.station_hub.specs.declared.places.BeginPlace.{BeginPlace}

-- ---- a file that grows by commands
-- what it had at first: its bytes, their links, and what these hold
pub record Start : Type 0 where
  pub bytes : List ℕ
  pub links : List (List Page)
  pub recording : Recording

-- these commands came since, and none was refused
pub record Records (start : Start) (commands : List Command) : Type 0 where
  pub are_links : AreLinks start.bytes start.links
  pub holds : HoldsLinks start.links start.recording
  pub are_commands : AllByRecursion IsCommand commands
  pub kept : AreKept start.links commands

-- its bytes and its links then
abbrev pub bytes_by : Start → List Command → List ℕ
bytes_by start commands = start.bytes ++ bytes_of_commands start.links commands

abbrev pub links_by : Start → List Command → List (List Page)
links_by start commands = links_behind start.links commands

-- ---- its last link
-- the last Begin among the commands, and those before and after it
pub record LastLink (commands : List Command) : Type 0 where
  pub earlier : List Command
  pub begin : Begin
  pub since : List Command
  pub split : commands ≡ earlier ++ BeginOf begin ∷ since
  pub none_begins : NoneBegins since

-- the boundary stands after some of the link's commands, which left it open
pub record IsBoundary (start : Start) (commands : List Command) (last : LastLink commands) (boundary : ℕ) : Type 0 where
  pub passed : List Command
  pub later : List Command
  pub split : last.since ≡ passed ++ later
  pub stands : boundary ≡ length (bytes_by start (last.earlier ++ BeginOf last.begin ∷ passed))
  pub goes_on : is_open (chain_state_of (links_by start (last.earlier ++ BeginOf last.begin ∷ passed))) ≡ true

-- so does each of these
pub record AreBoundaries (start : Start) (commands : List Command) (boundaries : BoundariesState) : Type 0 where
  pub last : LastLink commands
  pub begin_is : boundaries.begin ≡ length (bytes_by start last.earlier)
  pub begun_is : boundaries.begun ≡ length (bytes_by start (last.earlier ++ BeginOf last.begin ∷ []))
  pub kept_are : AllByRecursion (IsBoundary start commands last) boundaries.kept

-- ---- what waits, or is in doubt
-- the last Begin among it stands there
pub record IsBegun (start : Start) (commands waiting : List Command) (place : BeginPlace) : Type 0 where
  pub last : LastLink waiting
  pub begin_is : place.begin ≡ length (bytes_by start (commands ++ last.earlier))
  pub end_is : place.end ≡ length (bytes_by start (commands ++ (last.earlier ++ BeginOf last.begin ∷ [])))

-- or none begins a link, unless no boundary is known
abbrev pub BegunIn : Start → List Command → List Command → BoundariesState → Option BeginPlace → Type 0
BegunIn start commands waiting boundaries None = (boundaries.kept ≡ []) ⊎ NoneBegins waiting
BegunIn start commands waiting boundaries (Some place) = IsBegun start commands waiting place

-- The places are those of the file: what is committed of it are the first of these commands, and the others wait, or are
-- in doubt.
pub record ArePlaces (start : Start) (commands waiting : List Command) (places : PlacesState) : Type 0 where
  pub committed : (places.boundaries.kept ≡ []) ⊎ AreBoundaries start commands places.boundaries
  pub begun : BegunIn start commands waiting places.boundaries places.begun
