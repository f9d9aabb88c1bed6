-- The places of packets' parts in the source.
use Rattle.std.specs.Prelude.{◌≡◌, ◌≤◌, ◌<◌, ◌+◌, ℕ, ⊤, List, [], ◌∷◌, length, take, drop}
use Rattle.std.specs.List.{flat_map}
use Rattle.packet_view.specs.Packets.{Part, PacketParts}

-- the part's bytes are the source's bytes from its place on
abbrev pub IsAtItsPlace : List ℕ → Part → Type 0
IsAtItsPlace source part = take (length part.bytes) (drop part.place source) ≡ part.bytes

-- From this place of the source on: no part is empty, each is at its place, and none begins before the end of the one
-- before it.
abbrev pub AreInOrder : List ℕ → ℕ → List Part → Type 0
AreInOrder source from [] = ⊤
AreInOrder source from (part ∷ parts) =
    (from ≤ part.place) × (0 < length part.bytes) × IsAtItsPlace source part × AreInOrder source (part.place + length part.bytes) parts

-- the parts of all packets, in order
abbrev pub parts_of_all : List PacketParts → List Part
parts_of_all packets = flat_map (λ packet. packet.parts) packets
