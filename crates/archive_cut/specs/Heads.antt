-- What the pages of a file leave of the streams of its last link, page by page. Ours.
use Rattle.std.specs.Prelude.{◌≡◌, ℕ, Bool, true, false, not, ◌||◌, ◌+◌, ◌^◌, nat_eq, nat_lt, if◌then◌else◌, List, [], ◌∷◌, ◌++◌, length, map, drop}
use Rattle.std.specs.List.{AllByRecursion, list_any}
use Rattle.ogg_page.specs.Page.{Page, IsPage, bytes_of_pages}
use Rattle.ogg_page.specs.Lacing.{ends_open}
use Rattle.ogg_page.specs.LogicalStream.{is_first, is_last}
use Rattle.link_chain.specs.declared.stream_state.StreamState.{StreamState}
use Rattle.link_chain.specs.Progress.{change_at}
use Rattle.archive_cut.specs.declared.heads.Said.{Said}

-- what a page's head says of its stream
abbrev pub said_of : Page → Said
said_of page =
    record {
      begins = is_first page;
      ends = is_last page;
      serial = page.serial;
      number = page.sequence;
      position = page.position;
      is_empty = nat_eq (length page.lacing) 0;
      goes_on = ends_open page.lacing;
    }

-- a stream after the page of which this is said
abbrev pub followed_by : Said → StreamState → StreamState
followed_by said stream =
    record {
      serial = stream.serial;
      next_sequence = said.number + 1;
      last_position = if nat_lt said.position (2 ^ 63) then said.position else stream.last_position;
      ended = stream.ended || said.ends;
      finished = not (if said.is_empty then not stream.finished else said.goes_on);
    }

-- a stream of which this is the first page
abbrev pub entered_by : Said → StreamState
entered_by said =
    followed_by said (record { serial = said.serial; next_sequence = 0; last_position = 0; ended = false; finished = true })

-- a stream hasn't ended
abbrev pub some_open : List StreamState → Bool
some_open streams = list_any (λ (stream : StreamState). not stream.ended) streams

-- the streams after a page that is no stream's first
abbrev pub continued_by : Said → List StreamState → List StreamState
continued_by said streams = map (change_at said.serial (followed_by said)) streams

-- the streams of the last link after a stream's first page: if all have ended, it begins a link
abbrev pub begun_by : Said → List StreamState → List StreamState
begun_by said streams = (if some_open streams then streams else []) ++ entered_by said ∷ []

abbrev pub streams_by : Said → List StreamState → List StreamState
streams_by said streams = if said.begins then begun_by said streams else continued_by said streams

-- the streams of the last link after further pages
abbrev pub streams_after : List StreamState → List Page → List StreamState
streams_after streams [] = streams
streams_after streams (page ∷ pages) = streams_after (streams_by (said_of page) streams) pages

-- the pages up to the next one that is a stream's first
abbrev pub up_to_first : List Page → List Page
up_to_first [] = []
up_to_first (page ∷ pages) = if is_first page then [] else page ∷ up_to_first pages

-- ---- pages that are still to be walked over
-- These pages stand from the place up to the end.
pub record StandUpTo (bytes : List ℕ) (place end : ℕ) (pages : List Page) : Type 0 where
  pub are_pages : AllByRecursion IsPage pages
  pub rest : List ℕ
  pub stand : drop place bytes ≡ bytes_of_pages pages ++ rest
  pub ends : place + length (bytes_of_pages pages) ≡ end

-- Of these pages those from the place on are left, and then the streams are these.
pub record AreWalked (bytes : List ℕ) (all : List StreamState) (end place : ℕ) (now : List StreamState) : Type 0 where
  pub pages : List Page
  pub left : StandUpTo bytes place end pages
  pub then_all : streams_after now pages ≡ all

-- Of these pages those from the place on are left, and the next that is a stream's first stands there.
pub record IsSought (bytes : List ℕ) (first end place : ℕ) : Type 0 where
  pub pages : List Page
  pub left : StandUpTo bytes place end pages
  pub then_first : place + length (bytes_of_pages (up_to_first pages)) ≡ first
