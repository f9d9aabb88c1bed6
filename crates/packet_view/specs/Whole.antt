-- What is always so of a packet's slices.
use Rattle.std.specs.Prelude.{◌≡◌, [], length}
use Rattle.packet_view.specs.Packets.{joined_parts}
use Rattle.packet_view.specs.Packet.{ArePages, parts_of}
use Rattle.packet_view.specs.declared.packet.Packet.TheInside.{Inside}

-- its length is that of its parts, whole pages follow the one in which it begins, and if it begins with no byte it
-- has none
pub record IsWhole (p : Inside) : Type 0 where
  pub size : p.len ≡ length (joined_parts (parts_of p.place p.first.now p.serial p.offset p.more.now))
  pub pages : ArePages p.more.now
  pub begins : p.first.now ≡ [] → p.more.now ≡ []
