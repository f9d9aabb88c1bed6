-- What a listener is made of when it joins. Ours.
use Rattle.std.specs.Prelude.{◌≡◌, ℕ, ◌-◌, ◌^◌, Bool, false, not, ◌&&◌, nat_lt, if◌then◌else◌, List, [], ◌∷◌, ◌++◌, length, map}
use Rattle.ogg_page.specs.Page.{Page, bytes_of_pages}
use Rattle.ogg_page.specs.LogicalStream.{number_behind}
use Rattle.link_chain.specs.ChainState.{last_position}
use Rattle.link_chain.specs.declared.stream_state.StreamState.{StreamState}
use Rattle.link_chain.specs.Links.{pages_with, serials_of, has_ended}
use Rattle.serve_live.specs.Listening.{ListenerState}
use Rattle.serve_live.specs.Live.{Moment, begin_place}
use Rattle.serve_live.specs.declared.names.StreamName.{StreamName}
use Rattle.serve_live.specs.declared.joined.JoinedStream.{JoinedStream}

-- a stream of the link, at its beginning and at the moment
abbrev pub joined_stream : Moment → ℕ → JoinedStream
joined_stream moment serial =
    let all = pages_with serial (moment.begin ++ moment.passed) in
    record {
      serial = serial;
      begun_next = number_behind (pages_with serial moment.begin);
      begun_ended = has_ended moment.begin serial;
      next = number_behind all;
      position = last_position all;
      ended = has_ended (moment.begin ++ moment.passed) serial;
    }

-- all streams of the link
abbrev pub joined_streams : Moment → List JoinedStream
joined_streams moment = map (joined_stream moment) (serials_of moment.begin)

-- the page that ends a stream, and those that end the streams that ended unheard
abbrev pub end_of : JoinedStream → Page
end_of stream = record { flags = 4; position = stream.position; serial = stream.serial; sequence = stream.begun_next; lacing = []; body = [] }

-- A stream of which all numbers are in use gets no such page. It can't have ended unheard, since the page with which
-- it ended would have had no number.
abbrev pub ends_unheard : JoinedStream → Bool
ends_unheard stream = stream.ended && not stream.begun_ended && nat_lt stream.begun_next (2 ^ 32)

abbrev pub ends_of : List JoinedStream → List Page
ends_of [] = []
ends_of (stream ∷ streams) = if ends_unheard stream then end_of stream ∷ ends_of streams else ends_of streams

-- a stream as all its pages leave it
abbrev pub as_of_now : StreamState → JoinedStream
as_of_now state =
    record { serial = state.serial; begun_next = 0; begun_ended = false; next = state.next_sequence; position = state.last_position; ended = state.ended }

-- a stream is heard without the numbers of the pages that were passed
abbrev pub name_between : JoinedStream → StreamName
name_between stream = record { serial = stream.serial; name = stream.serial; less = stream.next - stream.begun_next; more = 0 }

-- The listener is new, and knows these streams: nothing was given to it.
pub record IsNew (at len end : ℕ) (streams : List JoinedStream) (listener : ListenerState) : Type 0 where
  pub begin_place : listener.begin_place ≡ at
  pub begin_left : listener.begin_left ≡ len
  pub text : listener.text ≡ bytes_of_pages (ends_of streams)
  pub names : listener.names ≡ map name_between streams
  pub place : listener.place ≡ end
  pub skip : listener.skip ≡ 0

-- it joined at the moment
abbrev pub IsNewAt : Moment → ListenerState → Type 0
IsNewAt moment listener = IsNew (begin_place moment) (length (bytes_of_pages moment.begin)) moment.place (joined_streams moment) listener
