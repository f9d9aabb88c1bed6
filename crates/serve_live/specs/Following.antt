-- A listener that goes on in the next file, where the link that it hears goes on, and what it was given there. Ours.
use Rattle.std.specs.Prelude.{◌≡◌, ℕ, ◌+◌, ◌-◌, ◌%◌, ◌^◌, not, if◌then◌else◌, List, [], ◌++◌, length, map, drop, zip}
use Rattle.std.specs.List.{AllByRecursion, filter, list_any}
use Rattle.ogg_page.specs.Page.{Page, IsPage, bytes_of_pages}
use Rattle.ogg_page.specs.LogicalStream.{is_first}
use Rattle.link_chain.specs.declared.stream_state.StreamState.{StreamState}
use Rattle.serve_live.specs.Heard.{named_after}
use Rattle.serve_live.specs.Listening.{IsLeft, ListenerState}
use Rattle.serve_live.specs.Names.{name_in, plain}
use Rattle.serve_live.specs.declared.names.StreamName.{StreamName}

-- ---- which streams go on
-- the streams that haven't ended, in order
abbrev pub open_streams : List StreamState → List StreamState
open_streams streams = filter (λ (stream : StreamState). not stream.ended) streams

-- A stream of the next file goes on with one of the file before: it has the serial under which that was heard, and the
-- numbers that follow those that were heard of it. The pages with which it begins in the next file don't count. After the
-- highest number 0 follows.
abbrev pub name_on : List StreamName → StreamState → StreamState → StreamName
name_on names old new =
    let stream = name_in names old.serial in
    record {
      serial = new.serial;
      name = stream.name;
      less = new.next_sequence;
      more = (stream.more + (old.next_sequence - stream.less)) % 2 ^ 32;
    }

-- the streams of the next file go on with those of the file before, in order
abbrev pub names_on : List StreamName → List StreamState → List StreamState → List StreamName
names_on names old new = map (λ (pair : StreamState × StreamState). name_on names pair.0 pair.1) (zip old new)

-- Nothing was given to it. It hears the pages from the place on, of streams that are named so.
pub record GoesOn (place : ℕ) (names : List StreamName) (listener : ListenerState) : Type 0 where
  pub begin_left : listener.begin_left ≡ 0
  pub begin_place : listener.begin_place ≡ place
  pub text : listener.text ≡ []
  pub names_are : listener.names ≡ names
  pub place_is : listener.place ≡ place
  pub skip : listener.skip ≡ 0

-- ---- what it was given
-- how a stream is heard after these pages: as it is, once another link has begun
abbrev pub name_since : (ℕ → StreamName) → List Page → ℕ → StreamName
name_since names done serial = if list_any is_first done then plain (λ _. 0) serial else names serial

-- What was given and what is still to be heard are together the bytes in front, and then the pages from the place on as
-- they are heard, of what is committed now. The listener stands behind the pages that were heard whole, and knows how
-- streams are heard from there on.
pub record IsFollowing (front : List ℕ) (names : ℕ → StreamName) (place : ℕ) (committed : List ℕ) (listener : ListenerState) (given : List ℕ) : Type 0 where
  pub done : List Page
  pub are_done : AllByRecursion IsPage done
  pub between : drop place committed ≡ bytes_of_pages done ++ drop listener.place committed
  pub place_is : listener.place ≡ place + length (bytes_of_pages done)
  pub names_are : (serial : ℕ) → name_in listener.names serial ≡ name_since names done serial
  pub rest : List ℕ
  pub left : IsLeft committed listener rest
  pub before : List ℕ
  pub after : List Page
  pub split : committed ≡ before ++ bytes_of_pages after
  pub before_is : length before ≡ place
  pub are_pages : AllByRecursion IsPage after
  pub heard : given ++ rest ≡ front ++ bytes_of_pages (named_after names after)
