-- A file that goes on with the link of the file before: where the two meet, and which streams go on, by what the heads of
-- pages leave of them. Ours.
use Rattle.std.specs.Prelude.{◌≡◌, ℕ, ◌+◌, ◌-◌, if◌then◌else◌, List, [], ◌∷◌, ◌++◌, length, map, take, drop, zip}
use Rattle.ogg_page.specs.Page.{Page, bytes_of_pages}
use Rattle.link_chain.specs.declared.stream_state.StreamState.{StreamState}
use Rattle.link_chain.specs.ChainState.{state_of}
use Rattle.serve_live.specs.Following.{open_streams}
use Rattle.serve_live.specs.Renaming.{back_of}
use Rattle.serve_live.specs.declared.names.StreamName.{StreamName}
use Rattle.archive_cut.specs.Cut.{ends_of}
use Rattle.archive_cut.specs.Heads.{streams_after}
use Rattle.archive_cut.specs.Joined.{open_in}
use Rattle.archive_cut.specs.declared.continuing.Meeting.{Meeting}

-- ---- names
-- the states of the streams of a link that haven't ended
abbrev pub open_states : List Page → List StreamState
open_states pages = map (state_of pages) (open_in pages)

-- a stream of a Begin goes on with a stream of the link before
abbrev pub name_on : StreamState → StreamState → StreamName
name_on begun first =
    record { serial = begun.serial; name = first.serial; less = begun.next_sequence; more = first.next_sequence }

-- the streams of a Begin go on with those of the link before, in order
abbrev pub names_on : List StreamState → List StreamState → List StreamName
names_on begun first = map (λ (pair : StreamState × StreamState). name_on pair.0 pair.1) (zip begun first)

-- ---- what streams begin with
-- what the first pages of the streams hold that haven't ended: their lacing values and their bodies, in order
abbrev pub firsts_of : List StreamState → List Page → List ℕ
firsts_of (stream ∷ streams) (page ∷ pages) = (if stream.ended then [] else back_of page) ++ firsts_of streams pages
firsts_of streams pages = []

-- the streams that haven't ended began with the same
abbrev pub is_begun_as : List StreamState → List Page → List StreamState → List Page → Type 0
is_begun_as first olds begun news = firsts_of first olds ≡ firsts_of begun news

-- ---- where two files meet
-- The first of these pages, which stand from the beginning on, end at the place, and leave these streams.
pub record StandsIn (begin place : ℕ) (pages : List Page) (streams : List StreamState) : Type 0 where
  pub front : List Page
  pub back : List Page
  pub split : pages ≡ front ++ back
  pub ends : begin + length (bytes_of_pages front) ≡ place
  pub leaves : streams ≡ streams_after [] front

-- `old` are the bytes of the file before, of which these pages stand from its last link's beginning on, and `news` are
-- the pages of the next file. Up to the meeting the file before has the pages of the link, and then those that end its
-- open streams and no others. The pages of the next file up to the meeting leave as many open, and these streams began
-- with the same.
pub record IsMeeting (old : List ℕ) (begin old_end : ℕ) (olds news : List Page) (meeting : Meeting) : Type 0 where
  pub first : List StreamState
  pub begun : List StreamState
  pub link : StandsIn begin meeting.end olds first
  pub ended : take (old_end - meeting.end) (drop meeting.end old) ≡ bytes_of_pages (ends_of first)
  pub left_out : StandsIn 0 meeting.begun news begun
  pub as_many : length (open_streams first) ≡ length (open_streams begun)
  pub alike : is_begun_as first olds begun news
