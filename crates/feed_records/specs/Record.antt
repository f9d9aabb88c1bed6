-- A record of a feed: a command, or a flush. Ours. In version 2 of a feed the streams of a begin record have message
-- fields; all else is the same in both versions.
use Rattle.std.specs.Prelude.{◌≡◌, ◌≢◌, ℕ, ◌<◌, ◌≤◌, ◌^◌, Bool, IsTrue, Option, Some, None, List, [], ◌∷◌, ◌++◌, length, ⊤}
use Rattle.std.specs.List.{flat_map, AllByRecursion}
use Rattle.ogg_command.specs.Command.{IsCommand}
use Rattle.ogg_command.specs.declared.command.Command.{Command}
use Rattle.ogg_command.specs.declared.command.Command.TheVariants.{Begin as BeginOf, Put as PutOf, End as EndOf}
use Rattle.ogg_command.specs.declared.command.SkeletonHead.{SkeletonHead}
use Rattle.ogg_command.specs.declared.command.NewStream.{NewStream}
use Rattle.ogg_command.specs.declared.command.Entry.{Entry}
use Rattle.ogg_page.specs.Numbers.{u16_bytes, u32_bytes, u64_bytes, i64_bytes, fraction_bytes}
use Rattle.skeleton3.specs.Fields.{NamedValue}
use Rattle.feed_records.specs.declared.version.Version.{Version}
use Rattle.feed_records.specs.declared.version.Version.TheVariants.{One, Two}
use Rattle.feed_records.specs.declared.item.Record.{Record as RecordOf}
use Rattle.feed_records.specs.declared.item.Record.TheVariants.{Command as CommandOf, Flush}
use Rattle.feed_records.specs.declared.item.Item.{Item}
use Rattle.feed_records.specs.declared.item.Item.TheVariants.{Announcement, Record as RecordItem}

-- a packet: its length, and its bytes
abbrev pub packet_bytes : List ℕ → List ℕ
packet_bytes packet = u32_bytes (length packet) ++ packet

-- a media type, or the name or the value of a message field: its length, and its bytes
abbrev pub media_bytes : List ℕ → List ℕ
media_bytes media = u16_bytes (length media) ++ media

-- whether the link has a Skeleton, and its head
abbrev pub skeleton_bytes : Option SkeletonHead → List ℕ
skeleton_bytes None = 0 ∷ []
skeleton_bytes (Some head) =
    1 ∷ (u32_bytes head.serial ++ (fraction_bytes head.presentation ++ (fraction_bytes head.base ++ head.utc)))

-- a message field: its name, and its value
abbrev pub field_bytes : NamedValue → List ℕ
field_bytes field = media_bytes field.0 ++ media_bytes field.1

-- the message fields of a stream: in version 1 nothing, in version 2 their number and then each of them
abbrev pub fields_bytes : Version → List NamedValue → List ℕ
fields_bytes One fields = []
fields_bytes Two fields = u16_bytes (length fields) ++ flat_map field_bytes fields

-- a new stream: its serial, its headers, its media type, what its positions mean, and its message fields
unfoldable pub stream_bytes : Version → NewStream → List ℕ
stream_bytes version stream =
    u32_bytes stream.serial
    ++ (u16_bytes (length stream.headers) ++ (flat_map packet_bytes stream.headers
    ++ ((media_bytes stream.media
    ++ (fraction_bytes stream.rate
    ++ (i64_bytes stream.base_granule ++ (u32_bytes stream.preroll ++ stream.shift ∷ []))))
    ++ fields_bytes version stream.fields)))

-- a packet for a stream: the stream's serial, the position and the packet
unfoldable pub entry_bytes : Entry → List ℕ
entry_bytes entry = u32_bytes entry.serial ++ (u64_bytes entry.position ++ packet_bytes entry.packet)

abbrev pub payload_of : Version → Command → List ℕ
payload_of version (BeginOf begin) =
    skeleton_bytes begin.skeleton ++ (u16_bytes (length begin.streams) ++ flat_map (stream_bytes version) begin.streams)
payload_of version (PutOf put) = u16_bytes (length put.entries) ++ flat_map entry_bytes put.entries
payload_of version (EndOf serial) = u32_bytes serial

abbrev pub kind_of : Command → ℕ
kind_of (BeginOf begin) = 1
kind_of (PutOf put) = 2
kind_of (EndOf serial) = 3

-- What stands in a feed: its kind, and its payload. A feed of version 2 begins with its announcement.
abbrev pub kind_in : Item → ℕ
kind_in Announcement = 0
kind_in (RecordItem (CommandOf command)) = kind_of command
kind_in (RecordItem Flush) = 4

abbrev pub payload_in : Version → Item → List ℕ
payload_in version Announcement = 2 ∷ []
payload_in version (RecordItem (CommandOf command)) = payload_of version command
payload_in version (RecordItem Flush) = []

-- the kind, the payload's length, and the payload
unfoldable pub item_bytes : Version → Item → List ℕ
item_bytes version item = kind_in item ∷ (u32_bytes (length (payload_in version item)) ++ payload_in version item)

abbrev pub record_of : Version → RecordOf → List ℕ
record_of version given = item_bytes version (RecordItem given)

abbrev pub announcement : List ℕ
announcement = item_bytes One Announcement

-- what stands in front of the first record
abbrev pub opening : Version → List ℕ
opening One = []
opening Two = announcement

-- how many bytes a payload may have
abbrev pub most_payload : ℕ
most_payload = 33554432

abbrev pub FitsHeader : List ℕ → Type 0
FitsHeader header = length header < 2 ^ 32

abbrev pub FitsField : NamedValue → Type 0
FitsField field = (length field.0 < 2 ^ 16) × (length field.1 < 2 ^ 16)

-- message fields that a begin record can have
abbrev pub FitsMessage : Version → List NamedValue → Type 0
FitsMessage One fields = fields ≡ []
FitsMessage Two fields = (length fields < 2 ^ 16) × AllByRecursion FitsField fields

pub record FitsStream (version : Version) (stream : NewStream) : Type 0 where
  pub headers : length stream.headers < 2 ^ 16
  pub each : AllByRecursion FitsHeader stream.headers
  pub media : length stream.media < 2 ^ 16
  pub fields : FitsMessage version stream.fields

abbrev pub FitsEntry : Entry → Type 0
FitsEntry entry = length entry.packet < 2 ^ 32

-- each count and each length is in its field's range
abbrev pub FitsFields : Version → Command → Type 0
FitsFields version (BeginOf begin) = (length begin.streams < 2 ^ 16) × AllByRecursion (FitsStream version) begin.streams
FitsFields version (PutOf put) = (length put.entries < 2 ^ 16) × AllByRecursion FitsEntry put.entries
FitsFields version (EndOf serial) = ⊤

-- what can be written as a record
pub record FitsRecord (version : Version) (command : Command) : Type 0 where
  pub fields : FitsFields version command
  pub payload : length (payload_of version command) ≤ most_payload

-- what is read from a record: a command whose numbers are in their fields' range, and that fits
pub record HasCommand (version : Version) (command : Command) : Type 0 where
  pub numbers : IsCommand command
  pub fits : FitsRecord version command

abbrev pub HasRecord : Version → RecordOf → Type 0
HasRecord version (CommandOf command) = HasCommand version command
HasRecord version Flush = ⊤

-- an announcement stands only in front of all records
abbrev pub HasItem : Bool → Version → Item → Type 0
HasItem first version Announcement = IsTrue first
HasItem first version (RecordItem given) = HasRecord version given

-- the bytes begin with no item, at the front of a feed or after its first record
abbrev pub BeginsNoItem : Bool → Version → List ℕ → Type 0
BeginsNoItem first version bytes = (item : Item) (rest : List ℕ) → HasItem first version item → bytes ≢ item_bytes version item ++ rest

-- the bytes begin with no record
abbrev pub BeginsNoRecord : Version → List ℕ → Type 0
BeginsNoRecord version bytes = (given : RecordOf) (rest : List ℕ) → HasRecord version given → bytes ≢ record_of version given ++ rest

-- The bytes are what stands in front of a feed of this version, these records, and a rest that begins with no record.
-- If the feed ends well, the rest is empty. Bytes that begin with an announcement are of version 2.
pub record IsFeed (bytes : List ℕ) (version : Version) (records : List RecordOf) (rest : List ℕ) : Type 0 where
  pub whole : bytes ≡ opening version ++ (flat_map (record_of version) records ++ rest)
  pub each : AllByRecursion (HasRecord version) records
  pub no_more : BeginsNoRecord version rest
  pub announced : version ≡ One → (more : List ℕ) → bytes ≢ announcement ++ more
