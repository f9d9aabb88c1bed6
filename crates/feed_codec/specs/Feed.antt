-- What a feed answers. Ours.
use Rattle.std.specs.Prelude.{Bool, true, false, nat_eq, nat_lt, nat_le, not, ◌&&◌, ◌||◌, if◌then◌else◌, unwrap_or}
use Rattle.std.specs.Prelude.{◌≡◌, ◌≢◌, ◌⊎◌, ℕ, ◌+◌, Option, Some, None, Result, Ok, Err, List, [], ◌++◌, ◌<◌, length, drop, slice_index, ⊤}
use Rattle.std.specs.Io.KnownBytes.{Consumes, IsAtEnd, Keeps}
use Rattle.byteorder.specs.Endian.{little_number}
use Rattle.feed_replies.specs.declared.fault.FeedFault.{FeedFault}
use Rattle.feed_replies.specs.declared.fault.FeedFault.TheVariants.{Truncated, Kind, Length, Form}
use Rattle.feed_records.specs.declared.version.Version.{Version}
use Rattle.feed_records.specs.declared.version.Version.TheVariants.{One, Two}
use Rattle.feed_records.specs.declared.item.Item.{Item}
use Rattle.feed_records.specs.declared.item.Record.{Record as RecordOf}
use Rattle.feed_codec.specs.Room.{FeedRoom, LacksRoomFor}
use Rattle.feed_records.specs.Record.{BeginsNoItem, HasItem, HasRecord, announcement, item_bytes, most_payload, opening, record_of}

-- a record's head: one byte for the kind, and the payload's length
abbrev pub head_size : ℕ
head_size = 5

-- An announcement, which has the number 0, may only be the first item.
abbrev pub is_kind : Bool → ℕ → Bool
is_kind first kind = (first && nat_eq kind 0) || (nat_le 1 kind && nat_le kind 4)

abbrev pub payload_length : List ℕ → ℕ
payload_length bytes = little_number 4 (drop 1 bytes)

-- the first thing wrong with the head of a record, if there is one
abbrev pub head_fault : Bool → List ℕ → Option FeedFault
head_fault first bytes =
    if nat_lt (length bytes) head_size then Some Truncated
    else (if not (is_kind first (slice_index bytes 0)) then Some Kind
    else (if nat_lt most_payload (payload_length bytes) then Some Length
    else None))

-- the first thing wrong with bytes that begin with no record
abbrev pub fault_of : Bool → List ℕ → FeedFault
fault_of first bytes =
    unwrap_or (head_fault first bytes) (if nat_lt (length bytes) (head_size + payload_length bytes) then Truncated else Form)

-- the bytes aren't empty, begin with no item, and this is the first thing wrong with them
abbrev pub HasFaultAt : Bool → Version → List ℕ → FeedFault → Type 0
HasFaultAt first version bytes fault = (bytes ≢ []) × BeginsNoItem first version bytes × (fault_of first bytes ≡ fault)

-- the same, if the bytes are known
abbrev pub HasItemFault : Bool → Version → Option (List ℕ) → FeedFault → Type 0
HasItemFault first version None fault = ⊤
HasItemFault first version (Some bytes) fault = HasFaultAt first version bytes fault

-- What is wrong with the bytes of a feed, if they are known: at its front or after its announcement, or after records
-- of a version.
abbrev pub HasFault : Option Version → Option (List ℕ) → FeedFault → Type 0
HasFault known None fault = ⊤
HasFault (Some version) (Some bytes) fault = HasFaultAt false version bytes fault
HasFault None (Some bytes) fault =
    HasFaultAt true One bytes fault ⊎ ((rest : List ℕ) × (bytes ≡ announcement ++ rest) × HasFaultAt false Two rest fault)

-- a head without a fault was taken from a reader, and there is too little room for its payload
abbrev pub TakesHead : ℕ → Bool → Option (List ℕ) → Option (List ℕ) → Type 0
TakesHead room first old new =
    (head : List ℕ) × (length head ≡ head_size) × (head_fault first head ≡ None) × (room < payload_length head) × Consumes old new head

-- What was taken from a reader when memory was refused: a head, if there was no room for its payload, or a whole
-- record, if there was none for its command.
abbrev pub TakesItemPart : FeedRoom → Bool → Version → Option (List ℕ) → Option (List ℕ) → Type 0
TakesItemPart room first version old new =
    TakesHead room.payload first old new
    ⊎ ((item : Item) × HasItem first version item × LacksRoomFor room.entries room.packets item
    × Consumes old new (item_bytes version item))

-- the same of a feed, of which an announcement may have been taken before
abbrev pub TakesWhereMemoryEnds : FeedRoom → Option Version → Option (List ℕ) → Option (List ℕ) → Type 0
TakesWhereMemoryEnds room (Some version) old new = TakesItemPart room false version old new
TakesWhereMemoryEnds room None old new =
    TakesItemPart room true One old new ⊎ ((mid : Option (List ℕ)) × Consumes old mid announcement × TakesItemPart room false Two mid new)

-- A feed: the version of its records, once it is known, and how it has ended, if it has.
pub record FeedState : Type 0 where
  pub version : Option Version
  pub outcome : Option (Result (Unit {0}) FeedFault)

-- a feed, and the memory that it keeps
pub record FeedWithRoom : Type 0 where
  pub feed : FeedState
  pub room : FeedRoom

-- what stands in front of the next record, if it turns out to be of this version
abbrev pub front_of : Option Version → Version → List ℕ
front_of None version = opening version
front_of (Some known) version = []

-- the version stays once it is known
abbrev pub Continues : Option Version → Version → Type 0
Continues None version = ⊤
Continues (Some known) version = known ≡ version

-- one record was read, and nothing after it
pub record GivesRecord (old new : Option Version) (before behind : Option (List ℕ)) (given : RecordOf) : Type 0 where
  pub version : Version
  pub is_record : HasRecord version given
  pub continues : Continues old version
  pub known : new ≡ Some version
  pub read : Consumes before behind (front_of old version ++ record_of version given)

-- no byte is left, and at most an announcement was read
pub record GivesEnd (old : Option Version) (before behind : Option (List ℕ)) : Type 0 where
  pub version : Version
  pub left : Option (List ℕ)
  pub read : Consumes before left (front_of old version)
  pub end : IsAtEnd left
  pub kept : Keeps left behind

-- what a feed answers after this end
abbrev pub answer_at : Result (Unit {0}) FeedFault → Result (Option RecordOf) FeedFault
answer_at (Ok _) = Ok None
answer_at (Err fault) = Err fault
