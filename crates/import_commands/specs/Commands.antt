-- A chain of links as commands that add up to what it holds. Ours.
use Rattle.std.specs.Prelude.{◌≡◌, ◌<◌, ◌≤◌, ◌^◌, ◌&&◌, length, ⊤, Ok, Err, Bool, true, false, ℕ, ◌-◌, nat_eq, if◌then◌else◌, pos, None, List, [], ◌∷◌, ◌++◌, map, take, drop}
use Rattle.std.specs.List.{AllByRecursion}
use Rattle.ogg_page.specs.Page.{Page}
use Rattle.chain_rules.specs.Limits.{longest_first, longest_packet}
use Rattle.ogg_page.specs.LogicalStream.{joined_lacing, is_last}
use Rattle.packetiser.specs.Run.{packets_ended}
use Rattle.link_chain.specs.Links.{AreLinks, pages_with}
use Rattle.ogg_command.specs.Command.{IsCommand}
use Rattle.chain_rules.specs.Recording.{Stream, Recording, HoldsLinks, add}
use Rattle.link_chain.specs.ChainState.{chain_state_of}
use Rattle.chain_rules.specs.Encoding.{links_after, command_bytes}
use Rattle.chain_rules.specs.Decision.{decision}
use Rattle.ogg_command.specs.declared.refusal.Refusal.{Refusal}
use Rattle.ogg_command.specs.declared.refusal.Refusal.TheVariants.{LinkOpen, NoLink, Empty, TooMany, NoHeader, HeadTooLong, PacketTooLong, PositionRange, BadType, BadRate, UnknownSerial, StreamEnded}
use Rattle.ogg_command.specs.declared.command.Command.{Command}
use Rattle.ogg_command.specs.declared.command.Command.TheVariants.{Begin as BeginOf, Put as PutOf, End as EndOf}
use Rattle.ogg_command.specs.declared.command.NewStream.{NewStream}
use Rattle.ogg_command.specs.declared.command.Entry.{Entry}

-- the packets of the stream with this serial
abbrev pub packets_of : List Stream → ℕ → List (List ℕ)
packets_of [] serial = []
packets_of (stream ∷ streams) serial = if nat_eq stream.serial serial then stream.packets else packets_of streams serial

-- how many packets of the stream with this serial end in these pages
abbrev pub ended_in : List Page → ℕ → ℕ
ended_in pages serial = packets_ended (joined_lacing (pages_with serial pages))

-- The packets that end in the page, without the headers. `headers` says how many first packets of a stream are
-- headers.
abbrev pub page_packets : (ℕ → ℕ) → List Stream → List Page → Page → List (List ℕ)
page_packets headers streams before page =
    let earlier = ended_in before page.serial in
    drop (headers page.serial - earlier) (take (packets_ended page.lacing) (drop earlier (packets_of streams page.serial)))

-- each of them has the position of the page
abbrev pub entry_of : Page → List ℕ → Entry
entry_of page packet = record { serial = page.serial; position = page.position; packet = packet }

abbrev pub put_of : List Entry → List Command
put_of [] = []
put_of (entry ∷ entries) = PutOf (record { entries = entry ∷ entries }) ∷ []

abbrev pub end_of : Page → List Command
end_of page = if is_last page then EndOf page.serial ∷ [] else []

-- a page's packets in one put, and the end of its stream
abbrev pub page_commands : (ℕ → ℕ) → List Stream → List Page → Page → List Command
page_commands headers streams before page = put_of (map (entry_of page) (page_packets headers streams before page)) ++ end_of page

-- the commands of pages that follow these pages
abbrev pub pages_commands : (ℕ → ℕ) → List Stream → List Page → List Page → List Command
pages_commands headers streams before [] = []
pages_commands headers streams before (page ∷ pages) =
    page_commands headers streams before page ++ pages_commands headers streams (before ++ page ∷ []) pages

-- a stream with its headers; nothing else is said of it
abbrev pub new_stream : (ℕ → ℕ) → Stream → NewStream
new_stream headers stream =
    record {
      serial = stream.serial;
      headers = take (headers stream.serial) stream.packets;
      media = [];
      fields = [];
      rate = (pos 0, pos 0);
      base_granule = pos 0;
      preroll = 0;
      shift = 0;
    }

-- the commands of a link that holds these streams: all headers first, then page by page
abbrev pub link_commands : (ℕ → ℕ) → List Page → List Stream → List Command
link_commands headers link streams =
    BeginOf (record { skeleton = None; streams = map (new_stream headers) streams }) ∷ pages_commands headers streams [] link

-- the commands of links; how many of a stream's packets are headers depends on its link's streams
abbrev pub commands_of : (List Stream → ℕ → ℕ) → List (List Page) → Recording → List Command
commands_of headers [] recording = []
commands_of headers (link ∷ links) [] = []
commands_of headers (link ∷ links) (streams ∷ recording) = link_commands (headers streams) link streams ++ commands_of headers links recording

-- the first packet of a stream, which says how many of its packets are headers
abbrev pub first_of : List (List ℕ) → List ℕ
first_of [] = []
first_of (packet ∷ packets) = packet

abbrev pub headers_by : (List ℕ → ℕ) → List Stream → ℕ → ℕ
headers_by count streams serial = count (first_of (packets_of streams serial))

-- The refusals that come of the input's own serials, headers, positions, lengths and sizes. The others are those of a
-- command that comes at a wrong moment, is empty, or describes its streams for a Skeleton.
abbrev pub of_input : Refusal → Bool
of_input LinkOpen = false
of_input NoLink = false
of_input Empty = false
of_input BadType = false
of_input BadRate = false
of_input UnknownSerial = false
of_input StreamEnded = false
of_input refusal = true

-- the first refusal of these commands, if there is one, is of this kind
abbrev pub RefusedBy : (Refusal → Bool) → List (List Page) → List Command → Type 0
RefusedBy kind links [] = ⊤
RefusedBy kind links (command ∷ commands) =
    ((refusal : Refusal) → decision (chain_state_of links) command ≡ Err refusal → kind refusal ≡ true)
    × ((size : ℕ) → decision (chain_state_of links) command ≡ Ok size → RefusedBy kind (links_after links command) commands)

abbrev pub RefusedByInput : List (List Page) → List Command → Type 0
RefusedByInput links commands = RefusedBy of_input links commands

-- ---- an input within the limits of one command
-- a stream whose headers and packets are few and short enough
pub record IsFeedable (headers : ℕ → ℕ) (stream : Stream) : Type 0 where
  pub some : 0 < headers stream.serial
  pub few : headers stream.serial ≤ 256
  pub packets : 0 < length stream.packets
  pub first : AllByRecursion (λ packet. length packet ≤ longest_first) (take 1 stream.packets)
  pub each : AllByRecursion (λ packet. length packet ≤ longest_packet) stream.packets

-- a page in which a packet ends has a position that a packet may have
abbrev pub HasPosition : Page → Type 0
HasPosition page = 0 < packets_ended page.lacing → page.position < 2 ^ 63

abbrev pub CanBeFed : (List Stream → ℕ → ℕ) → List (List Page) → Recording → Type 0
CanBeFed headers links recording =
    AllByRecursion (AllByRecursion HasPosition) links × AllByRecursion (λ streams. AllByRecursion (IsFeedable (headers streams)) streams) recording

-- the refusals other than those of a command for itself, which come whatever stands before it
abbrev pub not_for_itself : Refusal → Bool
not_for_itself TooMany = false
not_for_itself NoHeader = false
not_for_itself HeadTooLong = false
not_for_itself PacketTooLong = false
not_for_itself PositionRange = false
not_for_itself refusal = true

-- the refusals that remain: a serial that is taken, a position that falls, and what doesn't fit a batch, a stream's
-- numbers or a file
abbrev pub of_the_whole : Refusal → Bool
of_the_whole refusal = of_input refusal && not_for_itself refusal

-- ---- what is known of commands
-- a command that isn't refused adds its packets to what links hold
abbrev pub AddsItsPackets : Type 0
AddsItsPackets =
    (bytes : List ℕ) (links : List (List Page)) (recording : Recording) (command : Command) (size : ℕ) → IsCommand command
    → AreLinks bytes links
    → HoldsLinks links recording → decision (chain_state_of links) command ≡ Ok size
    → AreLinks (bytes ++ command_bytes (chain_state_of links) command) (links_after links command) × HoldsLinks (links_after links command) (add recording command)
