-- Whether a command is refused, and why, or else its size. The rules and their order are ours.
use Rattle.std.specs.Prelude.{ℕ, ◌+◌, ◌^◌, ℤ, pos, int_lt, Bool, true, false, not, ◌&&◌, ◌||◌, nat_eq, nat_lt, nat_le, is_none, Option, Some, None, Result, Ok, Err, List, [], ◌∷◌, ◌++◌, length, take, drop, sum_by}
use Rattle.std.specs.List.{list_all, list_any}
use Rattle.std.specs.Option.{option_map_or}
use Rattle.skeleton3.specs.Fields.{is_field, is_media_type}
use Rattle.link_chain.specs.Size.{has_no_number, size_of_pages}
use Rattle.link_chain.specs.ChainState.{ChainState, is_open}
use Rattle.link_chain.specs.Rules.{Rule, first_broken}
use Rattle.chain_rules.specs.Limits.{longest_first, longest_packet, longest_batch, most_streams, most_fields, most_entries, most_links, longest_file}
use Rattle.link_chain.specs.Progress.{stream_in, position_in, with_position}
use Rattle.link_chain.specs.declared.stream_state.StreamState.{StreamState}
use Rattle.chain_rules.specs.Encoding.{pages_of_command}
pub use Rattle.command_pages.specs.Fits.{header_bytes, has_many_headers, has_long_message}
use Rattle.chain_rules.specs.Begun.{stream_count}
use Rattle.ogg_command.specs.declared.command.Command.{Command}
use Rattle.ogg_command.specs.declared.command.Command.TheVariants.{Begin as BeginOf, Put as PutOf, End as EndOf}
use Rattle.ogg_command.specs.declared.command.Begin.{Begin}
use Rattle.ogg_command.specs.declared.command.SkeletonHead.{SkeletonHead}
use Rattle.ogg_command.specs.declared.command.NewStream.{NewStream}
use Rattle.ogg_command.specs.declared.command.Entry.{Entry}
use Rattle.ogg_command.specs.declared.command.Put.{Put}
use Rattle.ogg_command.specs.declared.refusal.Refusal.{Refusal}
use Rattle.ogg_command.specs.declared.refusal.Refusal.TheVariants.{LinkOpen, NoLink, Empty, TooMany, SerialTaken, NoHeader, HeadTooLong, PacketTooLong, BadType, BadRate, UnknownSerial, StreamEnded, PositionRange, PositionBack, BatchTooLong, SequenceEnd, LinksFull, FileFull}

-- ---- Begin
abbrev pub is_long : ℕ → List ℕ → Bool
is_long most packet = nat_lt most (length packet)

abbrev pub has_many_fields : NewStream → Bool
has_many_fields stream = nat_lt most_fields (length stream.fields)

-- a Skeleton is a stream too
abbrev pub has_many_parts : Begin → Bool
has_many_parts begin =
    nat_lt most_streams (stream_count begin) || list_any has_many_headers begin.streams || list_any has_many_fields begin.streams

abbrev pub begin_rules : ChainState → Begin → List (Rule Refusal)
begin_rules chain begin =
    (is_open chain, LinkOpen) ∷ (nat_eq (length begin.streams) 0, Empty) ∷ (has_many_parts begin, TooMany) ∷ []

abbrev pub is_taken : ChainState → List ℕ → ℕ → Bool
is_taken chain earlier serial = list_any (nat_eq serial) chain.serials || list_any (nat_eq serial) earlier

abbrev pub is_positive : ℤ → Bool
is_positive n = int_lt (pos 0) n

abbrev pub skeleton_rules : ChainState → SkeletonHead → List (Rule Refusal)
skeleton_rules chain head =
    (is_taken chain [] head.serial, SerialTaken)
    ∷ (not (is_positive head.presentation.1 && is_positive head.base.1), BadRate)
    ∷ []

abbrev pub stream_rules : ChainState → Bool → List ℕ → NewStream → List (Rule Refusal)
stream_rules chain has_skeleton earlier stream =
    (is_taken chain earlier stream.serial, SerialTaken)
    ∷ (nat_eq (length stream.headers) 0, NoHeader)
    ∷ (list_any (is_long longest_first) (take 1 stream.headers), HeadTooLong)
    ∷ (list_any (is_long longest_packet) (drop 1 stream.headers), PacketTooLong)
    ∷ (has_skeleton && not (is_media_type stream.media && list_all is_field stream.fields), BadType)
    ∷ (has_skeleton && not (is_positive stream.rate.0 && is_positive stream.rate.1), BadRate)
    ∷ []

-- the serials of earlier streams are taken too
abbrev pub streams_rules : ChainState → Bool → List ℕ → List NewStream → List (Rule Refusal)
streams_rules chain has_skeleton earlier [] = []
streams_rules chain has_skeleton earlier (stream ∷ streams) =
    stream_rules chain has_skeleton earlier stream ++ streams_rules chain has_skeleton (stream.serial ∷ earlier) streams

-- the Skeleton first, if there is one, and then the streams
abbrev pub parts_rules : ChainState → Option SkeletonHead → List NewStream → List (Rule Refusal)
parts_rules chain None streams = streams_rules chain false [] streams
parts_rules chain (Some head) streams = skeleton_rules chain head ++ streams_rules chain true (head.serial ∷ []) streams

abbrev pub item_rules : ChainState → Begin → List (Rule Refusal)
item_rules chain begin = parts_rules chain begin.skeleton begin.streams

-- ---- Put
abbrev pub put_rules : ChainState → List Entry → List (Rule Refusal)
put_rules chain entries =
    (not (is_open chain), NoLink) ∷ (nat_eq (length entries) 0, Empty) ∷ (nat_lt most_entries (length entries), TooMany) ∷ []

abbrev pub entry_rules : List StreamState → Entry → List (Rule Refusal)
entry_rules streams entry =
    (is_long longest_packet entry.packet, PacketTooLong)
    ∷ (is_none (stream_in streams entry.serial), UnknownSerial)
    ∷ (option_map_or (λ (stream : StreamState). stream.ended) (stream_in streams entry.serial) false, StreamEnded)
    ∷ (nat_le (2 ^ 63) entry.position, PositionRange)
    ∷ (nat_lt entry.position (position_in streams entry.serial), PositionBack)
    ∷ []

-- each entry finds the streams as the entries before it have left them
abbrev pub entries_rules : List StreamState → List Entry → List (Rule Refusal)
entries_rules streams [] = []
entries_rules streams (entry ∷ entries) = entry_rules streams entry ++ entries_rules (with_position entry.serial entry.position streams) entries

-- the put of one packet
abbrev pub put_of : Entry → Put
put_of entry = record { entries = entry ∷ [] }

-- ---- End
abbrev pub end_rules : ChainState → ℕ → List (Rule Refusal)
end_rules chain serial =
    (not (is_open chain), NoLink)
    ∷ (is_none (stream_in chain.streams serial), UnknownSerial)
    ∷ (option_map_or (λ stream. stream.ended) (stream_in chain.streams serial) false, StreamEnded)
    ∷ []

-- ---- rules for the whole command
abbrev pub packet_bytes : Command → ℕ
packet_bytes (BeginOf begin) = sum_by header_bytes begin.streams
packet_bytes (PutOf put) = sum_by (λ entry. length entry.packet) put.entries
packet_bytes (EndOf serial) = 0

abbrev pub is_begin : Command → Bool
is_begin (BeginOf begin) = true
is_begin (PutOf put) = false
is_begin (EndOf serial) = false

abbrev pub size_of : ChainState → Command → ℕ
size_of chain command = size_of_pages (pages_of_command chain command)

abbrev pub room_rules : ChainState → Command → List (Rule Refusal)
room_rules chain command =
    (nat_lt longest_batch (packet_bytes command), BatchTooLong)
    ∷ (list_any has_no_number (pages_of_command chain command), SequenceEnd)
    ∷ (is_begin command && nat_le most_links chain.links, LinksFull)
    ∷ (nat_lt longest_file (chain.length_of + size_of chain command + 1), FileFull)
    ∷ []

-- the rules for a command, in the order in which they are checked
abbrev pub rules_for : ChainState → Command → List (Rule Refusal)
rules_for chain (BeginOf begin) = begin_rules chain begin ++ item_rules chain begin ++ room_rules chain (BeginOf begin)
rules_for chain (PutOf put) = put_rules chain put.entries ++ entries_rules chain.streams put.entries ++ room_rules chain (PutOf put)
rules_for chain (EndOf serial) = end_rules chain serial ++ room_rules chain (EndOf serial)

-- the refusal of the first broken rule, or else the size
abbrev pub answer : ℕ → Option Refusal → Result ℕ Refusal
answer size broken = option_map_or (λ refusal. Err refusal) broken (Ok size)

-- the size of the command's pages, or the refusal of the first rule that it breaks
unfoldable pub decision : ChainState → Command → Result ℕ Refusal
decision chain command = answer (size_of chain command) (first_broken (rules_for chain command))
