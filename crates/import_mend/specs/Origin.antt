-- Where packets come from: each is whole in pages of the input. How packets lie in pages stands in RFC 3533, sections 5
-- and 6.
use Rattle.std.specs.Prelude.{◌≡◌, ◌≢◌, ◌⊎◌, ℕ, ◌+◌, ◌*◌, ◌<◌, ◌≤◌, Bool, true, false, not, Some, List, [], ◌∷◌, ◌++◌, length, replicate, sum, ⊤}
use Rattle.std.specs.List.{AllByRecursion}
use Rattle.ogg_page.specs.Page.{Page}
use Rattle.ogg_page.specs.Lacing.{lace, ends_open}
use Rattle.ogg_page.specs.LogicalStream.{EachBehind, is_continued, joined_bodies, joined_lacing, number_behind}
use Rattle.ogg_page.specs.Sizes.{full_value}
use Rattle.ogg_command.specs.declared.command.Command.{Command}
use Rattle.ogg_command.specs.declared.command.Command.TheVariants.{Begin as BeginOf, Put as PutOf, End as EndOf}
use Rattle.ogg_command.specs.declared.command.Entry.{Entry}
use Rattle.ogg_command.specs.declared.command.NewStream.{NewStream}
use Rattle.link_chain.specs.declared.stream_state.StreamState.{StreamState}
use Rattle.link_chain.specs.Limits.{most_streams}
use Rattle.link_chain.specs.Progress.{stream_in}
use Rattle.import_gather.specs.Kept.{KeptStream, rest_of}
use Rattle.import_mend.specs.Gives.{Mending}
use Rattle.import_mend.specs.Losses.{lost_in}

-- these pages are among those, in the same order
abbrev pub AreAmong : List Page → List Page → Type 0
AreAmong [] seen = ⊤
AreAmong (page ∷ pages) [] = ⊥
AreAmong (page ∷ pages) (other ∷ seen) = ((page ≡ other) × AreAmong pages seen) ⊎ AreAmong (page ∷ pages) seen

-- a page of the stream that goes on where the pages before it end: it has the next number, and begins with the rest of
-- a packet
abbrev pub GoesOn : ℕ → List Page → Page → Type 0
GoesOn serial before page =
    (page.serial ≡ serial) × (before ≢ [] → (page.sequence ≡ number_behind before) × (is_continued page ≡ true))

-- the first of these pages begins with a packet of its own
abbrev pub begins_fresh : List Page → Bool
begins_fresh [] = true
begins_fresh (page ∷ pages) = not (is_continued page)

-- At a place in pages of the input, which follow each other, a packet begins: these lacing values and bytes come before
-- it, and those follow.
pub record BeginsIn (seen : List Page) (serial : ℕ) (run : List Page) (values bytes later_values later_bytes : List ℕ) : Type 0 where
  pub among : AreAmong run seen
  pub turn : EachBehind (GoesOn serial) [] run
  pub lacing : joined_lacing run ≡ values ++ later_values
  pub bodies : joined_bodies run ≡ bytes ++ later_bytes
  pub place : length bytes ≡ sum values
  pub starts : ends_open values ≡ false
  pub fresh : values ≡ [] → begins_fresh run ≡ true

-- The packet lies whole in such pages of these, and ends in the last of them, which has this position.
pub record ComesFrom (seen : List Page) (serial position : ℕ) (packet : List ℕ) : Type 0 where
  pub before : List Page
  pub page : Page
  pub values : List ℕ
  pub bytes : List ℕ
  pub later_values : List ℕ
  pub later_bytes : List ℕ
  pub lies : BeginsIn seen serial (before ++ page ∷ []) values bytes (lace packet ++ later_values) (packet ++ later_bytes)
  pub ends : length later_values < length page.lacing
  pub position_is : page.position ≡ position

-- so does a header, at any position
abbrev pub HeaderFrom : List Page → ℕ → List ℕ → Type 0
HeaderFrom seen serial header = (position : ℕ) × ComesFrom seen serial position header

-- each packet of a command does
abbrev pub CommandFrom : List Page → Command → Type 0
CommandFrom seen (BeginOf begin) = AllByRecursion (λ (stream : NewStream). AllByRecursion (HeaderFrom seen stream.serial) stream.headers) begin.streams
CommandFrom seen (PutOf put) = AllByRecursion (λ (entry : Entry). ComesFrom seen entry.serial entry.position entry.packet) put.entries
CommandFrom seen (EndOf serial) = ⊤

-- an unfinished packet: its whole segments stand at the end of such pages, and the next page has this number
pub record RestFrom (seen : List Page) (serial next : ℕ) (rest : List ℕ) : Type 0 where
  pub run : List Page
  pub values : List ℕ
  pub bytes : List ℕ
  pub segments : ℕ
  pub lies : BeginsIn seen serial run values bytes (replicate segments full_value) rest
  pub some : run ≢ []
  pub number : number_behind run ≡ next
  pub size : length rest ≡ full_value * segments

-- ---- all that is kept and given
abbrev pub KeptFrom : List Page → KeptStream → Type 0
KeptFrom seen kept = AllByRecursion (HeaderFrom seen kept.serial) kept.headers

pub record Origin (seen : List Page) (state : Mending) (given : List Command) : Type 0 where
  pub losses : length state.losses ≡ most_streams
  pub few : length state.gathered.chain.streams ≤ most_streams
  -- while a link has first pages alone, nothing is unfinished
  pub whole : state.gathered.chain.has_data ≡ false → (serial : ℕ) (stream : StreamState)
      → stream_in state.gathered.chain.streams serial ≡ Some stream → stream.finished ≡ true
  pub rests : (serial : ℕ) (stream : StreamState) → stream_in state.gathered.chain.streams serial ≡ Some stream → stream.ended ≡ false
      → stream.finished ≡ false
      → RestFrom seen serial (stream.next_sequence + lost_in state.losses state.gathered.chain.streams serial) (rest_of serial state.gathered.link.streams)
  pub headers : AllByRecursion (KeptFrom seen) state.gathered.link.streams
  pub commands : AllByRecursion (CommandFrom seen) given
