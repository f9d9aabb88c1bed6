-- All pages of an input, taken one after the other. Ours.
use Rattle.std.specs.Prelude.{◌≡◌, ◌⊎◌, ℕ, ◌+◌, ◌-◌, ◌*◌, ◌≤◌, ◌<◌, Bool, true, false, if◌then◌else◌, Option, Some, List, [], ◌∷◌, ◌++◌, length, map, slice_index, ⊤}
use Rattle.ogg_page.specs.Page.{Page}
use Rattle.ogg_page.specs.LogicalStream.{is_first, joined_lacing}
use Rattle.ogg_page.specs.Sizes.{full_value}
use Rattle.ogg_page.specs.Window.{LentAt}
use Rattle.link_chain.specs.declared.stream_state.StreamState.{StreamState}
use Rattle.link_chain.specs.ChainState.{chain_state_of, last_link}
use Rattle.link_chain.specs.Limits.{most_streams}
use Rattle.link_chain.specs.Links.{pages_with}
use Rattle.link_chain.specs.Progress.{stream_in}
use Rattle.link_chain.specs.Taking.{links_with}
use Rattle.ogg_command.specs.declared.command.Command.{Command}
use Rattle.import_gather.specs.Cutting.{first_size}
use Rattle.import_gather.specs.Gathered.{CanGoOn, Gathered, GathersPage, HasGathered}
use Rattle.import_gather.specs.Kept.{is_too_long}
use Rattle.import_gather.specs.Limits.{longest_packet}
use Rattle.import_mend.specs.Cut.{cut_links}
use Rattle.import_mend.specs.Gives.{Gives, Mending, open_streams}
use Rattle.import_mend.specs.Losses.{lost_in}
use Rattle.import_mend.specs.Mended.{end_page, is_joined, mended, whole_values}
use Rattle.import_mend.specs.Steps.{Mends}
use Rattle.import_mend.specs.Ways.{leaves_number, most_bytes, way_of}
use Rattle.import_mend.specs.declared.mend.Mend.{Mend}
use Rattle.import_mend.specs.declared.ways.Way.{Way}
use Rattle.import_mend.specs.declared.ways.Way.TheVariants.{Take, Restart, Stranger, Repeated, Misshapen, Full}

-- ---- a page, and then pages
-- how many pages of the page's stream were lost so far
abbrev pub lost_of : Mending → Page → ℕ
lost_of state page = lost_in state.losses state.gathered.chain.streams page.serial

-- A page that begins at this offset is taken: this is told, and these commands are given.
abbrev pub TakesPage : ℕ → Page → Mending → Mending → Option Mend → List Command → Type 0
TakesPage offset page old new mend more =
    Mends (way_of old.gathered.chain (lost_of old page) page) offset (lost_of old page) page old.gathered new.gathered mend
    × Gives (way_of old.gathered.chain (lost_of old page) page) offset (lost_of old page) page old new mend more

-- Pages are taken in turn, each with its offset.
abbrev pub TakesPages : List LentAt → Mending → Mending → List (Option Mend) → List Command → Type 0
TakesPages [] old new mends given = (new ≡ old) × (mends ≡ []) × (given ≡ [])
TakesPages (lent ∷ later) old new mends given =
    (next : Mending) × (mend : Option Mend) × (own : List Command) × (others : List (Option Mend)) × (rest : List Command)
    × TakesPage lent.0 lent.1 old next mend own × TakesPages later next new others rest × (mends ≡ mend ∷ others) × (given ≡ own ++ rest)

-- no page was lost
abbrev pub LostNone : List ℕ → Type 0
LostNone losses = (place : ℕ) → slice_index losses place ≡ 0

-- before the first page
pub record IsStart (state : Mending) : Type 0 where
  pub losses : LostNone state.losses
  pub count : length state.losses ≡ most_streams
  pub gathered : HasGathered [] state.gathered []
  pub goes_on : CanGoOn state.gathered

-- ---- the links that the mended pages are
-- the page is joined with the page before: what is unfinished stays
abbrev pub broken_links : Bool → ℕ → List (List Page) → List (List Page)
broken_links joined serial links = if joined then links else cut_links serial links

-- a page that isn't its stream's first, as it is left
abbrev pub links_later : ℕ → StreamState → Page → Gathered → List (List Page) → List (List Page)
links_later lost stream page old links =
    let joined = is_joined lost stream (is_too_long old.link page) page in
    links_with (broken_links joined page.serial links) (mended joined stream.next_sequence page)

-- each of these streams is ended by a page without packets
abbrev pub links_ended : List StreamState → List (List Page) → List (List Page)
links_ended [] links = links
links_ended (stream ∷ streams) links =
    links_ended streams (links_with (cut_links stream.serial links) (end_page stream.next_sequence stream))

-- what the links become with a page, by what is done with it
abbrev pub Becomes : Way → ℕ → Page → Gathered → List (List Page) → List (List Page) → Type 0
Becomes Take lost page old links now =
    (is_first page ≡ true → now ≡ links_with links page)
    × (is_first page ≡ false → (stream : StreamState) → stream_in old.chain.streams page.serial ≡ Some stream → now ≡ links_later lost stream page old links)
Becomes Restart lost page old links now =
    (now ≡ links_with (links_ended (open_streams old.chain) links) page)
    ⊎ ((ended : List StreamState) × (still : List StreamState) × (open_streams old.chain ≡ ended ++ still) × (now ≡ links_ended ended links))
Becomes Stranger lost page old links now = now ≡ links
Becomes Repeated lost page old links now = now ≡ links
Becomes Misshapen lost page old links now = now ≡ links
Becomes Full lost page old links now = now ≡ links

-- The commands given so far hold what these links hold, whose pages are sound, and further pages may be taken.
abbrev pub HasMended : List (List Page) → Gathered → List Command → Type 0
HasMended links gathered given = HasGathered links gathered given × CanGoOn gathered

-- ---- a page of a sound bitstream
-- how many bytes are unfinished after these lacing values
abbrev pub unfinished_size : List ℕ → ℕ
unfinished_size values = full_value * (length values - whole_values values)

-- With the page after these links no packet is too long, and no limit is reached.
pub record IsWithin (links : List (List Page)) (page : Page) : Type 0 where
  pub short : is_first page ≡ false
      → unfinished_size (joined_lacing (pages_with page.serial (last_link links))) + first_size page.lacing ≤ longest_packet
  pub numbered : leaves_number page page.sequence ≡ true
  pub small : (chain_state_of links).length_of < most_bytes

-- the same of these pages, in turn
abbrev pub AreWithin : List (List Page) → List LentAt → Type 0
AreWithin links [] = ⊤
AreWithin links (lent ∷ later) = IsWithin links lent.1 × AreWithin (links_with links lent.1) later

abbrev pub pages_of : List LentAt → List Page
pages_of pages = map (λ (lent : LentAt). lent.1) pages

-- pages are gathered in turn as they came
abbrev pub GathersPages : List LentAt → Gathered → Gathered → List Command → Type 0
GathersPages [] old new given = (new ≡ old) × (given ≡ [])
GathersPages (lent ∷ later) old new given =
    (next : Gathered) × (own : List Command) × (rest : List Command) × GathersPage lent.1 old next own × GathersPages later next new rest
    × (given ≡ own ++ rest)
