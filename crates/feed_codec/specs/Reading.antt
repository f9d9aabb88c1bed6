-- What reading takes from a reader. Ours.
use Rattle.std.specs.Prelude.{◌≡◌, ◌≢◌, ℕ, ◌<◌, ◌≤◌, Bool, false, IsTrue, Option, Some, None, List, [], ◌∷◌, ◌++◌, length, ⊤}
use Rattle.ogg_page.specs.Numbers.{u32_bytes}
use Rattle.feed_records.specs.Record.{most_payload}
use Rattle.feed_records.specs.declared.version.Version.{Version}
use Rattle.feed_codec.specs.Feed.{head_fault, is_kind}
use Rattle.feed_codec.specs.Payload.{IsPayload}
use Rattle.feed_codec.specs.RecordKind.{number_of}
use Rattle.feed_codec.specs.declared.head.Head.{Head}
use Rattle.feed_codec.specs.declared.head.RecordKind.TheVariants.{Put}
use Rattle.feed_replies.specs.declared.fault.FeedFault.{FeedFault}

abbrev pub head_bytes : Head → List ℕ
head_bytes head = number_of head.kind ∷ u32_bytes head.length

-- a head without a fault
pub record IsHead (first : Bool) (head : Head) : Type 0 where
  pub kind : IsTrue (is_kind first (number_of head.kind))
  pub fits : head.length ≤ most_payload

-- a head without a fault, and a payload that it may have
pub record HasPayload (first : Bool) (version : Version) (head : Head) (payload : List ℕ) : Type 0 where
  pub is_head : IsHead first head
  pub whole : length payload ≡ head.length
  pub spelled : IsPayload version (number_of head.kind) payload

abbrev pub put_head : List ℕ → Head
put_head payload = record { kind = Put; length = length payload }

-- a put with this payload stands whole at the front of the bytes, after the first record of a feed
pub record BeginsWithPut (version : Version) (bytes payload : List ℕ) : Type 0 where
  pub put : HasPayload false version (put_head payload) payload
  pub rest : List ℕ
  pub front : bytes ≡ (head_bytes (put_head payload) ++ payload) ++ rest

-- if the bytes are known, they aren't empty, and this is the first thing wrong with the head at their front
abbrev pub HasHeadFault : Bool → Option (List ℕ) → FeedFault → Type 0
HasHeadFault first None fault = ⊤
HasHeadFault first (Some bytes) fault = (bytes ≢ []) × (head_fault first bytes ≡ Some fault)

-- if the bytes are known, they are fewer
abbrev pub IsShort : Option (List ℕ) → ℕ → Type 0
IsShort None wanted = ⊤
IsShort (Some bytes) wanted = length bytes < wanted
