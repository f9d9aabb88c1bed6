-- The parts of one stream's packets, page by page (RFC 3533, sections 5 and 6).
use Rattle.std.specs.Prelude.{◌≡◌, ℕ, ◌+◌, Bool, true, false, not, nat_eq, if◌then◌else◌, Option, Some, None, Ok, Err, List, [], ◌∷◌, ◌++◌, map, take, drop, ⊤}
use Rattle.ogg_page.specs.Pages.{FoundPage}
use Rattle.packet_view.specs.Packets.{PacketParts, PacketsLeft, joined_parts, ends_packet, misplaced, position_in, behind_page}
use Rattle.packet_view.specs.declared.place.Behind.{Behind}
use Rattle.packet_view.specs.declared.fault.ViewFault.{ViewFault}
use Rattle.packet_view.specs.declared.fault.ViewFault.TheVariants.{Page as PageIsAtFault, Unfinished}
use Rattle.ogg_page.specs.Sizes.{full_value}

-- what one page has of a packet: the bytes, whether the packet begins and ends with them, and its position if it ends
pub record PagePart : Type 0 where
  pub bytes : List ℕ
  pub first : Bool
  pub last : Bool
  pub position : Option ℕ

-- The parts in a page with these lacing values and this body: one for each packet that has a lacing value there.
-- The first of them has `size` bytes by the lacing values before these, and `first` says whether its packet begins
-- with it. Only the last packet that ends in the page has the page's position.
unfoldable pub page_parts : Option ℕ → Bool → ℕ → List ℕ → List ℕ → List PagePart
page_parts position first size [] body =
    if nat_eq size 0 then [] else record { bytes = take size body; first = first; last = false; position = None } ∷ []
page_parts position first size (value ∷ lacing) body =
    if nat_eq value full_value then page_parts position first (size + full_value) lacing body
    else record {
      bytes = take (size + value) body;
      first = first;
      last = true;
      position = if ends_packet lacing then None else position;
    } ∷ page_parts position true 0 lacing (drop (size + value) body)

-- whether a packet goes on after these lacing values, if one goes on before them or not
unfoldable pub goes_on : Bool → List ℕ → Bool
goes_on unfinished [] = unfinished
goes_on unfinished (value ∷ lacing) = goes_on (nat_eq value full_value) lacing

-- parts, and the fault that comes instead of the next, if any does
pub record PartsLeft : Type 0 where
  pub parts : List PagePart
  pub fault : Option ViewFault

abbrev pub no_part : Option ViewFault → PartsLeft
no_part fault = record { parts = []; fault = fault }

abbrev pub after_parts : List PagePart → PartsLeft → PartsLeft
after_parts parts left = record { parts = parts ++ left.parts; fault = left.fault }

-- The parts of the stream's packets in what is found from some place on, up to the first fault. The pages before
-- left a packet unfinished, or not.
unfoldable pub parts_from : ℕ → Behind → Bool → List FoundPage → PartsLeft
parts_from serial behind unfinished [] = no_part (if unfinished then Some Unfinished else None)
parts_from serial behind unfinished (Err fault ∷ found) = no_part (Some (PageIsAtFault fault.0 fault.1))
parts_from serial behind unfinished (Ok place ∷ found) =
    if nat_eq place.1.serial serial
    then elim (misplaced behind unfinished place.0 place.1) [
      | Some fault ↦ no_part (Some fault)
      | None ↦ after_parts
          (page_parts (position_in place.1) (not unfinished) 0 place.1.lacing place.1.body)
          (parts_from serial (behind_page place.1) (goes_on unfinished place.1.lacing) found)
    ]
    else parts_from serial behind unfinished found

-- a stream of which no page has been read
abbrev pub at_start : Behind
at_start = record { number = None; ended = false }

-- the packets of these parts, each with its position: the bytes from a first part to the next last one, joined
unfoldable pub packets_joined : List ℕ → List PagePart → List (List ℕ × Option ℕ)
packets_joined before [] = []
packets_joined before (part ∷ parts) =
    if part.last then ((if part.first then [] else before) ++ part.bytes, part.position) ∷ packets_joined [] parts
    else packets_joined ((if part.first then [] else before) ++ part.bytes) parts

-- a packet begins with the first part, and then with each that follows the end of a packet
abbrev pub AreMarked : Bool → List PagePart → Type 0
AreMarked begins [] = ⊤
AreMarked begins (part ∷ parts) = (part.first ≡ begins) × AreMarked part.last parts

-- a packet's bytes, and its position
abbrev pub joined_packet : PacketParts → List ℕ × Option ℕ
joined_packet packet = (joined_parts packet.parts, packet.position)

-- The parts, joined from first to last, are the packets. The same fault follows.
pub record AreTheirParts (packets : PacketsLeft) (parts : PartsLeft) : Type 0 where
  pub joined : packets_joined [] parts.parts ≡ map joined_packet packets.packets
  pub marked : AreMarked true parts.parts
  pub fault : parts.fault ≡ packets.fault
