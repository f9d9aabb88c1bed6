-- What is made of a payload. Ours.
use Rattle.std.specs.Prelude.{◌≡◌, ℕ, List, Option, Some, None, Result, Ok, Err}
use Rattle.ogg_command.specs.declared.command.Command.{Command}
use Rattle.feed_records.specs.Record.{kind_in, kind_of, payload_in}
use Rattle.feed_records.specs.declared.item.Item.{Item}
use Rattle.feed_records.specs.declared.item.Item.TheVariants.{Record as RecordItem}
use Rattle.feed_records.specs.declared.item.Record.{Record as RecordOf}
use Rattle.feed_records.specs.declared.item.Record.TheVariants.{Command as CommandOf}
use Rattle.feed_records.specs.declared.version.Version.{Version}
use Rattle.feed_replies.specs.declared.fault.FeedFault.{FeedFault}
use Rattle.feed_replies.specs.declared.fault.FeedFault.TheVariants.{Memory}
use Rattle.feed_codec.specs.Payload.{IsItem}
use Rattle.feed_codec.specs.Room.{LacksRoomFor}

-- the payload of this kind spells the item
pub record Spells (version : Version) (kind : ℕ) (payload : List ℕ) (item : Item) : Type 0 where
  pub held : IsItem version item
  pub kind_is : kind_in item ≡ kind
  pub payload_is : payload_in version item ≡ payload

abbrev pub SpellsCommand : Version → List ℕ → Command → Type 0
SpellsCommand version payload command = Spells version (kind_of command) payload (RecordItem (CommandOf command))

-- there is too little room for what the payload spells
abbrev pub LacksRoomOf : ℕ → List ℕ → Version → ℕ → List ℕ → Type 0
LacksRoomOf room rooms version kind payload =
    (item : Item) × Spells version kind payload item × LacksRoomFor room rooms item

-- The record that the payload spells is made. Or memory was refused, and there is too little room for it.
abbrev pub Makes : ℕ → List ℕ → Version → ℕ → List ℕ → Result (Option RecordOf) FeedFault → Type 0
Makes room rooms version kind payload (Ok None) = ⊥
Makes room rooms version kind payload (Ok (Some given)) = Spells version kind payload (RecordItem given)
Makes room rooms version kind payload (Err fault) = (fault ≡ Memory) × LacksRoomOf room rooms version kind payload
