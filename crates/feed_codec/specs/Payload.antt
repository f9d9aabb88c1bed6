-- How the front of a payload is checked. Ours.
use Rattle.std.specs.Prelude.{◌≡◌, ◌≢◌, ℕ, ◌<◌, ◌^◌, List, [], ◌++◌, length, ⊤}
use Rattle.std.specs.Int.{w64}
use Rattle.std.specs.Prelude.{FitsSigned}
use Rattle.std.specs.List.{AllByRecursion}
use Rattle.ogg_page.specs.Page.{IsByte}
use Rattle.ogg_command.specs.Command.{IsCommand, IsNewStream, IsEntry}
use Rattle.ogg_command.specs.declared.command.SkeletonHead.{SkeletonHead}
use Rattle.ogg_command.specs.declared.command.NewStream.{NewStream}
use Rattle.ogg_command.specs.declared.command.Entry.{Entry}
use Rattle.ogg_page.specs.Numbers.{u32_bytes, fraction_bytes, IsFraction}
use Rattle.skeleton3.specs.Fields.{NamedValue}
use Rattle.feed_records.specs.declared.version.Version.{Version}
use Rattle.feed_records.specs.declared.version.Version.TheVariants.{One, Two}
use Rattle.feed_records.specs.declared.item.Record.TheVariants.{Command as CommandOf, Flush}
use Rattle.feed_records.specs.declared.item.Item.{Item}
use Rattle.feed_records.specs.declared.item.Item.TheVariants.{Announcement, Record as RecordItem}
use Rattle.feed_records.specs.Tail.{Tail, Behind}
use Rattle.feed_records.specs.Record.{FitsStream, FitsEntry, FitsFields, kind_in, payload_in}

-- the bytes begin with the spelling of some x, and the rest follows
abbrev pub Begins : {X : Type 0} → (X → Type 0) → (X → List ℕ) → List ℕ → List ℕ → Type 0
Begins {X} Is spell bytes rest = (x : X) × Is x × (bytes ≡ spell x ++ rest)

-- the bytes begin with no spelling
abbrev pub BeginsNone : {X : Type 0} → (X → Type 0) → (X → List ℕ) → List ℕ → Type 0
BeginsNone {X} Is spell bytes = (x : X) (rest : List ℕ) → Is x → bytes ≢ spell x ++ rest

-- the list has this many values, and the fact holds of each
abbrev pub AreMany : {X : Type 0} → (X → Type 0) → ℕ → List X → Type 0
AreMany Is count xs = (length xs ≡ count) × AllByRecursion Is xs

pub record IsPacket (packet : List ℕ) : Type 0 where
  pub bytes : AllByRecursion IsByte packet
  pub fits : length packet < 2 ^ 32

pub record IsMedia (media : List ℕ) : Type 0 where
  pub bytes : AllByRecursion IsByte media
  pub fits : length media < 2 ^ 16

pub record IsEntryOfFeed (entry : Entry) : Type 0 where
  pub numbers : IsEntry entry
  pub fits : FitsEntry entry

-- a message field, which is spelled as two media types
pub record IsFieldOfFeed (field : NamedValue) : Type 0 where
  pub name : IsMedia field.0
  pub value : IsMedia field.1

-- the message fields of a stream
abbrev pub AreFields : Version → List NamedValue → Type 0
AreFields One fields = fields ≡ []
AreFields Two fields = (length fields < 2 ^ 16) × AllByRecursion IsFieldOfFeed fields

pub record IsStreamOfFeed (version : Version) (stream : NewStream) : Type 0 where
  pub numbers : IsNewStream stream
  pub fits : FitsStream version stream

pub record IsTail (tail : Tail) : Type 0 where
  pub media : IsMedia tail.media
  pub rate : IsFraction tail.rate
  pub base_granule : FitsSigned w64 tail.base_granule
  pub preroll : tail.preroll < 2 ^ 32
  pub shift : tail.shift < 256

pub record IsBehind (version : Version) (behind : Behind) : Type 0 where
  pub tail : IsTail behind.0
  pub fields : AreFields version behind.1

-- what an item of this version can hold
abbrev pub IsItem : Version → Item → Type 0
IsItem version Announcement = ⊤
IsItem version (RecordItem (CommandOf command)) = IsCommand command × FitsFields version command
IsItem version (RecordItem Flush) = ⊤

-- the payload is exactly that of an item of this kind
abbrev pub IsPayload : Version → ℕ → List ℕ → Type 0
IsPayload version kind payload =
    (item : Item) × IsItem version item × (kind_in item ≡ kind) × (payload_in version item ≡ payload)

-- the head of a Skeleton, after the byte that announces it
unfoldable pub skeleton_head_bytes : SkeletonHead → List ℕ
skeleton_head_bytes head =
    u32_bytes head.serial ++ (fraction_bytes head.presentation ++ (fraction_bytes head.base ++ head.utc))
