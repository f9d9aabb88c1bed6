-- What holds of a command whose pages are made: it is short enough, and each of its pages can have its number. Ours.
use Rattle.std.specs.Prelude.{◌≡◌, ℕ, ◌<◌, ◌≤◌, ◌^◌, Bool, false, nat_lt, Option, IfSome, List, length, sum_by}
use Rattle.std.specs.List.{list_any}
use Rattle.skeleton3.specs.Fields.{message_of}
use Rattle.link_chain.specs.ChainState.{ChainState}
use Rattle.link_chain.specs.Progress.{next_in}
use Rattle.link_chain.specs.Size.{has_no_number}
use Rattle.link_chain.specs.declared.stream_state.StreamState.{StreamState}
use Rattle.command_pages.specs.Encoding.{runs_of, pages_of_runs}
use Rattle.command_pages.specs.Limits.{longest_batch, most_headers, longest_message, most_entries, most_streams}
use Rattle.ogg_command.specs.declared.command.Command.{Command}
use Rattle.ogg_command.specs.declared.command.Command.TheVariants.{Begin as BeginOf, Put as PutOf, End as EndOf}
use Rattle.ogg_command.specs.declared.command.SkeletonHead.{SkeletonHead}
use Rattle.ogg_command.specs.declared.command.NewStream.{NewStream}
use Rattle.ogg_command.specs.declared.command.Entry.{Entry}

-- the bytes of a stream's headers
abbrev pub header_bytes : NewStream → ℕ
header_bytes stream = sum_by length stream.headers

abbrev pub has_many_headers : NewStream → Bool
has_many_headers stream = nat_lt most_headers (length stream.headers)

-- the stream's message is longer than an allowed media type and allowed fields can make it
abbrev pub has_long_message : NewStream → Bool
has_long_message stream = nat_lt longest_message (length (message_of stream.media stream.fields))

-- the streams of a new link
pub record BeginFits (skeleton : Option SkeletonHead) (streams : List NewStream) : Type 0 where
  pub short : sum_by header_bytes streams ≤ longest_batch
  pub few : list_any has_many_headers streams ≡ false
  pub links : length streams ≤ most_streams
  pub media : IfSome skeleton (λ _. list_any has_long_message streams ≡ false)

-- the entries of a put
pub record PutFits (streams : List StreamState) (entries : List Entry) : Type 0 where
  pub few : length entries ≤ most_entries
  pub short : sum_by (λ (entry : Entry). length entry.packet) entries ≤ longest_batch
  pub numbered : list_any has_no_number (pages_of_runs streams (runs_of entries)) ≡ false

abbrev pub CommandFits : ChainState → Command → Type 0
CommandFits chain (BeginOf begin) = BeginFits begin.skeleton begin.streams
CommandFits chain (PutOf put) = PutFits chain.streams put.entries
CommandFits chain (EndOf serial) = next_in chain.streams serial < 2 ^ 32
