-- The input's last link: what is kept of it, so that it can be begun again. Ours.
use Rattle.std.specs.Prelude.{ℕ, Bool, false, not, ◌||◌, ◌&&◌, nat_eq, pos, List, [], ◌∷◌, map}
use Rattle.std.specs.List.{filter, list_any}
use Rattle.ogg_command.specs.declared.command.Command.{Command}
use Rattle.ogg_command.specs.declared.command.Command.TheVariants.{Begin as BeginOf, Put as PutOf, End as EndOf}
use Rattle.ogg_command.specs.declared.command.Entry.{Entry}
use Rattle.ogg_command.specs.declared.command.NewStream.{NewStream}
use Rattle.import_record.specs.declared.begun.Begun.{Begun}
use Rattle.import_record.specs.declared.begun.BegunStream.{BegunStream}

pub record BegunState : Type 0 where
  -- the streams with which the input's last link began
  pub streams : List BegunStream
  -- the serials under which streams were begun in the file that weren't ended
  pub serials : List ℕ

abbrev pub none_begun : BegunState
none_begun = record { streams = []; serials = [] }

abbrev pub begun_of : Begun → BegunState
begun_of begun = record { streams = begun.streams.items; serials = begun.serials.items }

-- A stream and its headers; nothing else is said of it. So it is gathered, and so it is begun again.
abbrev pub bare : NewStream → NewStream
bare stream =
    record {
      serial = stream.serial;
      headers = stream.headers;
      media = [];
      fields = [];
      rate = (pos 0, pos 0);
      base_granule = pos 0;
      preroll = 0;
      shift = 0;
    }

-- ---- the streams of a link
abbrev pub stream_of : BegunStream → NewStream
stream_of begun = begun.stream

abbrev pub begun_stream : NewStream → BegunStream
begun_stream stream = record { stream = bare stream; has_packets = false; ended = false }

abbrev pub is_entry_of : ℕ → Entry → Bool
is_entry_of serial entry = nat_eq entry.serial serial

-- one of the packets is of the stream with this serial
abbrev pub has_packet : List Entry → ℕ → Bool
has_packet entries serial = list_any (is_entry_of serial) entries

-- packets came
abbrev pub with_packets : List Entry → BegunStream → BegunStream
with_packets entries begun = record begun { has_packets = begun.has_packets || has_packet entries begun.stream.serial }

-- the stream with this serial has ended
abbrev pub with_end : ℕ → BegunStream → BegunStream
with_end serial begun = record begun { ended = begun.ended || nat_eq begun.stream.serial serial }

-- A stream that has ended begins again if its headers are all that it had, as a Skeleton's do: its eos page stands before
-- all data (Ogg Skeleton 3.0). Another that has ended would have none of its packets.
abbrev pub comes_again : BegunStream → Bool
comes_again begun = not (begun.ended && begun.has_packets)

-- ---- after commands of the input
abbrev pub streams_with : List BegunStream → Command → List BegunStream
streams_with was (BeginOf begin) = map begun_stream begin.streams
streams_with was (PutOf put) = map (with_packets put.entries) was
streams_with was (EndOf serial) = map (with_end serial) was

abbrev pub streams_after : List BegunStream → List Command → List BegunStream
streams_after was [] = was
streams_after was (command ∷ commands) = streams_after (streams_with was command) commands

-- ---- after the commands that are run
abbrev pub serial_of : NewStream → ℕ
serial_of stream = stream.serial

abbrev pub is_other : ℕ → ℕ → Bool
is_other serial other = not (nat_eq other serial)

abbrev pub open_with : List ℕ → Command → List ℕ
open_with was (BeginOf begin) = map serial_of begin.streams
open_with was (PutOf put) = was
open_with was (EndOf serial) = filter (is_other serial) was

abbrev pub open_after : List ℕ → List Command → List ℕ
open_after was [] = was
open_after was (command ∷ commands) = open_after (open_with was command) commands

-- the input gave these commands, and those in `given` are run
abbrev pub begun_after : BegunState → List Command → List Command → BegunState
begun_after was more given = record { streams = streams_after was.streams more; serials = open_after was.serials given }
