-- Where the link that is open at the end of a file goes on in the next one. It is told by the pages that end it there, and
-- by those with which it begins in the next file: no other page is read. Ours.
use Rattle.std.specs.Prelude.{◌≡◌, ◌≢◌, ℕ, ◌+◌, ◌*◌, List, [], ◌++◌, length, drop}
use Rattle.ogg_page.specs.Page.{Page, bytes_of_pages}
use Rattle.link_chain.specs.declared.stream_state.StreamState.{StreamState}
use Rattle.serve_live.specs.Following.{open_streams}
use Rattle.archive_cut.specs.Continuing.{StandsIn}
use Rattle.archive_cut.specs.Cut.{ends_of}
use Rattle.archive_cut.specs.Heads.{StandUpTo}
use Rattle.archive_fetch.specs.declared.meetings.Meeting.{Meeting}

-- From the place on the bytes are pages that end these streams: one without packets for each, in their order.
pub record EndIn (bytes : List ℕ) (place : ℕ) (streams : List StreamState) : Type 0 where
  pub pages : drop place bytes ≡ bytes_of_pages (ends_of streams)
  pub size : length bytes ≡ place + 27 * length streams

-- The first of these pages stand up to the place.
pub record StandIn (bytes : List ℕ) (place : ℕ) (pages : List Page) : Type 0 where
  pub front : List Page
  pub back : List Page
  pub split : pages ≡ front ++ back
  pub stand : StandUpTo bytes 0 place front

-- Up to the place stand the first of these pages, and leave these streams open.
pub record BeginIn (pages : List Page) (place : ℕ) (streams : List StreamState) : Type 0 where
  pub all : List StreamState
  pub stand : StandsIn 0 place pages all
  pub those_open : streams ≡ open_streams all

-- `old` are the bytes of a file that has ended, and `news` the pages of the next one.
pub record Meets (old : List ℕ) (news : List Page) (meeting : Meeting) : Type 0 where
  pub some : meeting.ended.items ≢ []
  pub end : EndIn old meeting.end meeting.ended.items
  pub begun : BeginIn news meeting.begun_end meeting.begun.items
  pub as_many : length meeting.ended.items ≡ length meeting.begun.items
