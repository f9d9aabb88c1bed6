-- The memory that a feed keeps for the next records, and the records for which it isn't enough. Ours.
use Rattle.std.specs.Prelude.{◌⊎◌, ℕ, ◌<◌, List, [], ◌∷◌, drop, length, map, reverse, slice_index, vec_capacity, ⊤}
use Rattle.std.specs.Global.{Vec}
use Rattle.ogg_command.specs.declared.command.Entry.{Entry}
use Rattle.ogg_command.specs.declared.command.Command.TheVariants.{Begin as BeginOf, Put as PutOf, End as EndOf}
use Rattle.feed_records.specs.declared.item.Record.TheVariants.{Command as CommandOf, Flush}
use Rattle.feed_records.specs.declared.item.Item.{Item}
use Rattle.feed_records.specs.declared.item.Item.TheVariants.{Announcement, Record as RecordItem}

pub record FeedRoom : Type 0 where
  -- bytes of a payload
  pub payload : ℕ
  -- packets of a put
  pub entries : ℕ
  -- bytes of each packet of a put, those of the first packet first
  pub packets : List ℕ

-- the room of kept packets, of which the last one is used first
abbrev pub rooms_of : List (Vec ℕ) → List ℕ
rooms_of packets = reverse (map (λ (packet : Vec ℕ). vec_capacity packet) packets)

abbrev pub feed_room : Vec ℕ → Vec Entry → List (Vec ℕ) → FeedRoom
feed_room payload entries packets =
    record { payload = vec_capacity payload; entries = vec_capacity entries; packets = rooms_of packets }

-- a packet is longer than the room that is kept for it
abbrev pub LacksPacketRoom : List ℕ → List Entry → Type 0
LacksPacketRoom rooms [] = ⊥
LacksPacketRoom rooms (entry ∷ entries) = (slice_index rooms 0 < length entry.packet) ⊎ LacksPacketRoom (drop 1 rooms) entries

-- there is too little room for these entries, or for one of their packets
abbrev pub LacksEntryRoom : ℕ → List ℕ → List Entry → Type 0
LacksEntryRoom room rooms entries = (room < length entries) ⊎ LacksPacketRoom rooms entries

-- There is too little room for what stands in a feed. No room can be kept for a new stream: its headers, its media
-- type and its message fields each lie in distinct memory.
abbrev pub LacksRoomFor : ℕ → List ℕ → Item → Type 0
LacksRoomFor room rooms (RecordItem (CommandOf (BeginOf begin))) = ⊤
LacksRoomFor room rooms (RecordItem (CommandOf (PutOf put))) = LacksEntryRoom room rooms put.entries
LacksRoomFor room rooms (RecordItem (CommandOf (EndOf serial))) = ⊥
LacksRoomFor room rooms (RecordItem Flush) = ⊥
LacksRoomFor room rooms Announcement = ⊥
