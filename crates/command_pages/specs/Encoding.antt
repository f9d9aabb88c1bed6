-- The pages that a command adds (RFC 3533, section 4), and their order.
use Rattle.std.specs.Prelude.{ℕ, ◌+◌, nat_eq, if◌then◌else◌, pos, Option, None, Some, List, [], ◌∷◌, ◌++◌, length, map, take, drop}
use Rattle.std.specs.List.{flat_map}
use Rattle.ogg_page.specs.Page.{Page, bytes_of_pages}
use Rattle.packetiser.specs.Run.{flagged, pages_of_run}
use Rattle.skeleton3.specs.Fisbone.{Fisbone, fisbone_bytes_with}
use Rattle.skeleton3.specs.Fishead.{fishead_bytes}
use Rattle.skeleton3.specs.declared.fishead.Fishead.{Fishead}
pub use Rattle.ogg_command.specs.Packets.{header, timed}
use Rattle.link_chain.specs.ChainState.{ChainState}
use Rattle.link_chain.specs.Progress.{next_in, position_in, brought_to}
use Rattle.link_chain.specs.declared.stream_state.StreamState.{StreamState}
use Rattle.ogg_command.specs.declared.command.Command.{Command}
use Rattle.ogg_command.specs.declared.command.Command.TheVariants.{Begin as BeginOf, Put as PutOf, End as EndOf}
use Rattle.ogg_command.specs.declared.command.SkeletonHead.{SkeletonHead}
use Rattle.ogg_command.specs.declared.command.NewStream.{NewStream}
use Rattle.ogg_command.specs.declared.command.Entry.{Entry}

-- the flags of a stream's first and of its last page
abbrev pub first_flag : ℕ
first_flag = 2

abbrev pub last_flag : ℕ
last_flag = 4

-- a stream's first page, with its first header, and the run of its other headers
abbrev pub first_pages : NewStream → List Page
first_pages stream = flagged first_flag (pages_of_run stream.serial 0 (map header (take 1 stream.headers)))

abbrev pub header_pages : NewStream → List Page
header_pages stream = pages_of_run stream.serial 1 (map header (drop 1 stream.headers))

-- a Skeleton's head, and what it says of a stream (Ogg Skeleton 3.0)
abbrev pub fishead_of : SkeletonHead → Fishead
fishead_of head = record { presentation = head.presentation; base = head.base; utc = head.utc }

abbrev pub fisbone_of : NewStream → Fisbone
fisbone_of stream =
    record {
      serial = stream.serial;
      headers = length stream.headers;
      rate = stream.rate;
      base_granule = stream.base_granule;
      preroll = stream.preroll;
      shift = stream.shift;
      media = stream.media;
    }

abbrev pub fisbone_packet : NewStream → List ℕ
fisbone_packet stream = fisbone_bytes_with stream.fields (fisbone_of stream)

-- A Skeleton as a stream of its link, before it ends: its packets are the fishead, and a fisbone for each stream.
abbrev pub skeleton_stream : SkeletonHead → List NewStream → NewStream
skeleton_stream head streams =
    record {
      serial = head.serial;
      headers = fishead_bytes (fishead_of head) ∷ map fisbone_packet streams;
      media = [];
      fields = [];
      rate = (pos 0, pos 0);
      base_granule = pos 0;
      preroll = 0;
      shift = 0;
    }

-- a Skeleton's first page, which holds the fishead
abbrev pub fishead_pages : SkeletonHead → List Page
fishead_pages head = flagged first_flag (pages_of_run head.serial 0 (header (fishead_bytes (fishead_of head)) ∷ []))

-- the pages of the fisbones, one page for each fisbone
abbrev pub fisbone_pages : ℕ → ℕ → List NewStream → List Page
fisbone_pages serial first [] = []
fisbone_pages serial first (stream ∷ streams) =
    pages_of_run serial first (header (fisbone_packet stream) ∷ []) ++ fisbone_pages serial (first + 1) streams

-- a Skeleton's last page holds one packet, which is empty
abbrev pub skeleton_end : ℕ → ℕ → List Page
skeleton_end serial first = flagged last_flag (pages_of_run serial first (header [] ∷ []))

-- The pages of a new link: the first page of each stream, and then the pages of the streams' other headers. A
-- Skeleton's first page comes before all of them. The pages of its fisbones stand between the first pages and the
-- other headers, and its last page comes last (Ogg Skeleton 3.0).
abbrev pub pages_of_begin : Option SkeletonHead → List NewStream → List Page
pages_of_begin None streams = flat_map first_pages streams ++ flat_map header_pages streams
pages_of_begin (Some head) streams =
    ((fishead_pages head ++ flat_map first_pages streams) ++ (fisbone_pages head.serial 1 streams ++ flat_map header_pages streams))
    ++ skeleton_end head.serial (length streams + 1)

-- entries cut where the serial changes
abbrev pub with_front : Entry → List (List Entry) → List (List Entry)
with_front entry [] = (entry ∷ []) ∷ []
with_front entry ([] ∷ runs) = (entry ∷ []) ∷ runs
with_front entry ((next ∷ run) ∷ runs) =
    if nat_eq entry.serial next.serial then (entry ∷ next ∷ run) ∷ runs else (entry ∷ []) ∷ (next ∷ run) ∷ runs

abbrev pub runs_of : List Entry → List (List Entry)
runs_of [] = []
runs_of (entry ∷ entries) = with_front entry (runs_of entries)

-- the stream of a run
abbrev pub run_serial : List Entry → ℕ
run_serial [] = 0
run_serial (entry ∷ run) = entry.serial

-- the pages of a run, from its stream's next number on
abbrev pub pages_behind : List StreamState → List Entry → List Page
pages_behind streams run = pages_of_run (run_serial run) (next_in streams (run_serial run)) (map timed run)

-- the position that a run brings its stream to: that of its last packet
abbrev pub run_position : List Entry → ℕ
run_position [] = 0
run_position (entry ∷ []) = entry.position
run_position (entry ∷ next ∷ run) = run_position (next ∷ run)

-- the streams after a run's pages
abbrev pub with_run : List StreamState → List Entry → List StreamState
with_run streams run =
    brought_to (run_serial run) (next_in streams (run_serial run) + length (pages_behind streams run)) (run_position run) streams

-- the pages of runs, each after those before it
abbrev pub pages_of_runs : List StreamState → List (List Entry) → List Page
pages_of_runs streams [] = []
pages_of_runs streams (run ∷ runs) = pages_behind streams run ++ pages_of_runs (with_run streams run) runs

-- a page without packets that ends its stream, with the stream's last position
abbrev pub end_page : ChainState → ℕ → Page
end_page chain serial =
    record {
      flags = last_flag;
      position = position_in chain.streams serial;
      serial = serial;
      sequence = next_in chain.streams serial;
      lacing = [];
      body = [];
    }

-- the pages of a command
unfoldable pub pages_of_command : ChainState → Command → List Page
pages_of_command chain (BeginOf begin) = pages_of_begin begin.skeleton begin.streams
pages_of_command chain (PutOf put) = pages_of_runs chain.streams (runs_of put.entries)
pages_of_command chain (EndOf serial) = end_page chain serial ∷ []

-- the bytes that the command adds
abbrev pub command_bytes : ChainState → Command → List ℕ
command_bytes chain command = bytes_of_pages (pages_of_command chain command)
