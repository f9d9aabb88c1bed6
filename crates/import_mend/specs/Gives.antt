-- What is gathered of a page, mended if it has to be, and which commands that completes. Ours.
use Rattle.std.specs.Prelude.{◌≡◌, ◌⊎◌, ℕ, ◌-◌, Bool, true, false, not, Option, Some, List, [], ◌∷◌, ◌++◌}
use Rattle.std.specs.List.{filter}
use Rattle.std.specs.Option.{option_map}
use Rattle.ogg_page.specs.Page.{Page}
use Rattle.ogg_page.specs.LogicalStream.{is_first}
use Rattle.link_chain.specs.declared.stream_state.StreamState.{StreamState}
use Rattle.link_chain.specs.ChainState.{ChainState, is_open}
use Rattle.link_chain.specs.Followed.{after_page}
use Rattle.link_chain.specs.Progress.{stream_in}
use Rattle.link_chain.specs.Taking.{unfinished_stream}
use Rattle.ogg_command.specs.declared.command.Command.{Command}
use Rattle.import_gather.specs.Gathered.{Gathered, GathersPage, HasGathered, without_packet}
use Rattle.import_gather.specs.Giving.{begin_if}
use Rattle.import_gather.specs.Kept.{is_too_long, waits}
use Rattle.import_mend.specs.Losses.{with_lost, with_new}
use Rattle.import_mend.specs.Mended.{end_page, is_joined, mended}
use Rattle.import_mend.specs.Steps.{after_end, broken_off}
use Rattle.import_mend.specs.declared.mend.Mend.{Mend}
use Rattle.import_mend.specs.declared.mend.Mend.TheVariants.{Restart as RestartOf, Full as FullOf, Unfinished}
use Rattle.import_mend.specs.declared.ways.Way.{Way}
use Rattle.import_mend.specs.declared.ways.Way.TheVariants.{Take, Restart, Stranger, Repeated, Misshapen, Full}

-- what the next page depends on: how many pages of each stream were lost, and what is gathered
pub record Mending : Type 0 where
  pub losses : List ℕ
  pub gathered : Gathered

abbrev pub mending : List ℕ → Gathered → Mending
mending losses gathered = record { losses = losses; gathered = gathered }

-- ---- streams that are ended
abbrev pub is_unended : StreamState → Bool
is_unended stream = not stream.ended

-- those of the last link that haven't ended
abbrev pub open_streams : ChainState → List StreamState
open_streams chain = filter is_unended chain.streams

-- A stream is ended by a page without packets, and these commands are given. A packet that it leaves unfinished is
-- dropped.
abbrev pub EndsStream : StreamState → Gathered → Gathered → List Command → Type 0
EndsStream stream old new more = GathersPage (end_page stream.next_sequence stream) (without_packet stream.serial old) new more

-- one of the open streams is ended
pub record EndsOne (stream : StreamState) (old new : Gathered) (more : List Command) : Type 0 where
  pub known : stream_in old.chain.streams stream.serial ≡ Some stream
  pub gathers : EndsStream stream old new more
  pub after : new.chain ≡ after_end stream old

-- the same of each of these streams, in turn
abbrev pub EndsEach : List StreamState → Gathered → Gathered → List Command → Type 0
EndsEach [] old new more = (new ≡ old) × (more ≡ [])
EndsEach (stream ∷ streams) old new more =
    (next : Gathered) × (own : List Command) × (others : List Command) × EndsOne stream old next own × EndsEach streams next new others
    × (more ≡ own ++ others)

-- Of the open streams the first ones are ended, and the others stay open.
pub record EndsStreams (old new : Gathered) (more : List Command) : Type 0 where
  pub ended : List StreamState
  pub each : EndsEach ended old new more
  pub open_ones : open_streams old.chain ≡ ended ++ open_streams new.chain

-- ---- a page
abbrev pub GathersFirst : Page → Mending → Mending → List Command → Type 0
GathersFirst page old new more =
    GathersPage page old.gathered new.gathered more × (new.losses ≡ with_new old.losses old.gathered.chain)

-- A page that isn't its stream's first is gathered as it is left.
abbrev pub GathersLeft : Bool → ℕ → Page → Gathered → Gathered → List Command → Type 0
GathersLeft joined number page old new more = GathersPage (mended joined number page) (broken_off joined page.serial old) new more

abbrev pub GathersLater : ℕ → Page → Mending → Mending → List Command → Type 0
GathersLater lost page old new more =
    (stream : StreamState) → stream_in old.gathered.chain.streams page.serial ≡ Some stream →
    GathersLeft (is_joined lost stream (is_too_long old.gathered.link page) page) stream.next_sequence page old.gathered new.gathered more
    × (new.losses ≡ with_lost old.losses old.gathered.chain.streams page.serial (page.sequence - stream.next_sequence))

-- the page begins a link after all open streams were ended
pub record BeginsAgain (page : Page) (old new : Mending) (more : List Command) : Type 0 where
  pub closed : Gathered
  pub ends : List Command
  pub own : List Command
  pub each : EndsEach (open_streams old.gathered.chain) old.gathered closed ends
  pub shut : is_open closed.chain ≡ false
  pub after : new.gathered.chain ≡ after_page closed.chain page
  pub begins : GathersPage page closed new.gathered own
  pub all : more ≡ ends ++ own
  pub losses : new.losses ≡ with_new old.losses closed.chain

-- the same, if there is room for all that
abbrev pub GathersRestart : ℕ → Page → Mending → Mending → Option Mend → List Command → Type 0
GathersRestart offset page old new mend more =
    ((mend ≡ Some (RestartOf offset)) × BeginsAgain page old new more)
    ⊎ ((mend ≡ Some (FullOf offset page.serial)) × EndsStreams old.gathered new.gathered more × (new.losses ≡ old.losses))

-- by what is done with the page
abbrev pub Gives : Way → ℕ → ℕ → Page → Mending → Mending → Option Mend → List Command → Type 0
Gives Take offset lost page old new mend more =
    (is_first page ≡ true → GathersFirst page old new more) × (is_first page ≡ false → GathersLater lost page old new more)
Gives Restart offset lost page old new mend more = GathersRestart offset page old new mend more
Gives Stranger offset lost page old new mend more = (new ≡ old) × (more ≡ [])
Gives Repeated offset lost page old new mend more = (new ≡ old) × (more ≡ [])
Gives Misshapen offset lost page old new mend more = (new ≡ old) × (more ≡ [])
Gives Full offset lost page old new mend more = (new ≡ old) × (more ≡ [])

-- ---- the end of the input
-- what waited is given
pub record GivesRest (old new : Gathered) (more : List Command) : Type 0 where
  pub commands : more ≡ begin_if (waits old.link) old.link
  pub gathers : (links : List (List Page)) (given : List Command) → HasGathered links old given → HasGathered links new (given ++ more)
  pub chain : new.chain ≡ old.chain
  pub none_waits : waits new.link ≡ false

-- the open streams are ended, and what waited is given
pub record GivesEnd (old new : Gathered) (more : List Command) : Type 0 where
  pub closed : Gathered
  pub ends : List Command
  pub rest : List Command
  pub each : EndsStreams old closed ends
  pub waited : GivesRest closed new rest
  pub all : more ≡ ends ++ rest

-- a packet that is unfinished at the end is told
abbrev pub mend_at_end : ℕ → ChainState → Option Mend
mend_at_end offset chain = option_map (Unfinished offset) (unfinished_stream chain)
