-- The front of a page that is of one packet.
use Rattle.std.specs.Prelude.{◌≡◌, ℕ, ◌+◌, nat_eq, if◌then◌else◌, Option, None, List, [], ◌∷◌, length, take}
use Rattle.packet_view.specs.Packets.{Part, PacketParts, with_part, ends_packet, packets_in, parts_behind}
use Rattle.packet_view.specs.declared.unread.Unread.{Unread}
use Rattle.packet_view.specs.declared.unread.Front.{Front}
use Rattle.packet_view.specs.declared.unread.Front.TheVariants.{Ends, GoesOn}
use Rattle.ogg_page.specs.Sizes.{full_value}

-- how many bytes the first packet in a page has there
unfoldable pub front_size : List ℕ → ℕ
front_size [] = 0
front_size (value ∷ lacing) = if nat_eq value full_value then full_value + front_size lacing else value

-- the packets that end in what is left of a page, and the parts of the one that goes on
abbrev pub packets_left : Unread → List Part → List PacketParts
packets_left unread parts = packets_in unread.position parts unread.place 0 unread.lacing.now unread.body.now

abbrev pub parts_left : Unread → List Part → List Part
parts_left unread parts = parts_behind parts unread.place 0 unread.lacing.now unread.body.now

-- the position of a packet that ends in a page, after which this is left of the page
abbrev pub position_behind : Unread → Option ℕ
position_behind left = if ends_packet left.lacing.now then None else left.position

-- the front that ends a packet, or the one that is all of the page
pub record EndsPacket (unread : Unread) (piece : List ℕ) (left : Unread) : Type 0 where
  pub packets : (parts : List Part) → packets_left unread parts
      ≡ record { parts = with_part parts unread.place piece; position = position_behind left } ∷ packets_left left []
  pub behind : (parts : List Part) → parts_left unread parts ≡ parts_left left []
  pub end : left.place + length left.body.now ≡ unread.place + length unread.body.now
  pub front : piece ≡ take (front_size unread.lacing.now) unread.body.now

pub record GoesOnBehind (unread : Unread) (piece : List ℕ) : Type 0 where
  pub packets : (parts : List Part) → packets_left unread parts ≡ []
  pub behind : (parts : List Part) → parts_left unread parts ≡ with_part parts unread.place piece
  pub front : piece ≡ take (front_size unread.lacing.now) unread.body.now

abbrev pub IsFrontOf : Unread → Front → Type 0
IsFrontOf unread (Ends piece left) = EndsPacket unread piece.now left
IsFrontOf unread (GoesOn piece) = GoesOnBehind unread piece.now
