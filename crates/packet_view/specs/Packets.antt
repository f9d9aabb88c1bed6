-- The packets of one stream in any bytes, as slices of those bytes (RFC 3533, sections 5 and 6).
use Rattle.std.specs.Prelude.{ℕ, ◌+◌, ◌-◌, ◌^◌, Bool, true, false, not, nat_eq, if◌then◌else◌, Option, Some, None, Ok, Err, List, [], ◌∷◌, ◌++◌, length, take, drop}
use Rattle.std.specs.List.{flat_map, list_any}
use Rattle.ogg_page.specs.Page.{Page}
use Rattle.ogg_page.specs.Pages.{FoundPage, found_in}
use Rattle.ogg_page.specs.LogicalStream.{is_continued, is_last}
use Rattle.packet_view.specs.declared.place.Behind.{Behind}
use Rattle.packet_view.specs.declared.fault.ViewFault.{ViewFault}
use Rattle.packet_view.specs.declared.fault.ViewFault.TheVariants.{Page as PageIsAtFault, Sequence, Continued, AfterEos, Unfinished}
use Rattle.ogg_page.specs.Sizes.{fixed_size, full_value}

-- bytes of a packet that lie together, and the place of the first of them in the source
pub record Part : Type 0 where
  pub place : ℕ
  pub bytes : List ℕ

-- a packet: its parts, and its position, which is that of the page in which it ends, if it has one
pub record PacketParts : Type 0 where
  pub parts : List Part
  pub position : Option ℕ

-- the packet's bytes
abbrev pub joined_parts : List Part → List ℕ
joined_parts parts = flat_map (λ part. part.bytes) parts

-- the parts, and then these bytes; no part is empty
abbrev pub with_part : List Part → ℕ → List ℕ → List Part
with_part parts place [] = parts
with_part parts place (byte ∷ bytes) = parts ++ record { place = place; bytes = byte ∷ bytes } ∷ []

-- whether a packet ends in these lacing values
abbrev pub ends_packet : List ℕ → Bool
ends_packet lacing = list_any (λ value. not (nat_eq value full_value)) lacing

-- The packets that end in a page with these lacing values and this body. The first of them has `parts` of the pages
-- before and `size` bytes of this page. The last of them has the page's position.
unfoldable pub packets_in : Option ℕ → List Part → ℕ → ℕ → List ℕ → List ℕ → List PacketParts
packets_in position parts place size [] body = []
packets_in position parts place size (value ∷ lacing) body =
    if nat_eq value full_value then packets_in position parts place (size + full_value) lacing body
    else record { parts = with_part parts place (take (size + value) body); position = if ends_packet lacing then None else position }
    ∷ packets_in position [] (place + (size + value)) 0 lacing (drop (size + value) body)

-- the parts of the packet that goes on after such a page; none if no packet does
unfoldable pub parts_behind : List Part → ℕ → ℕ → List ℕ → List ℕ → List Part
parts_behind parts place size [] body = with_part parts place (take size body)
parts_behind parts place size (value ∷ lacing) body =
    if nat_eq value full_value then parts_behind parts place (size + full_value) lacing body
    else parts_behind [] (place + (size + value)) 0 lacing (drop (size + value) body)

-- what the stream's next page must fit
abbrev pub behind_page : Page → Behind
behind_page page = record { number = Some (page.sequence + 1); ended = is_last page }

abbrev pub is_other_number : Option ℕ → ℕ → Bool
is_other_number None sequence = false
is_other_number (Some number) sequence = not (nat_eq sequence number)

abbrev pub differ : Bool → Bool → Bool
differ true b = not b
differ false b = b

abbrev pub is_some_part : List Part → Bool
is_some_part [] = false
is_some_part (part ∷ parts) = true

-- the first thing that is wrong with the stream's page at this offset, after a page that left a packet unfinished, or
-- not
abbrev pub misplaced : Behind → Bool → ℕ → Page → Option ViewFault
misplaced behind unfinished offset page =
    if behind.ended then Some (AfterEos offset)
    else (if is_other_number behind.number page.sequence then Some (Sequence offset)
    else (if differ (is_continued page) unfinished then Some (Continued offset)
    else None))

-- the page's position, if a packet ends in the page
abbrev pub position_in : Page → Option ℕ
position_in page = if nat_eq page.position (2 ^ 64 - 1) then None else Some page.position

-- the place of the body of the page at this offset
abbrev pub body_place : ℕ → Page → ℕ
body_place offset page = offset + fixed_size + length page.lacing

-- packets, and the fault that comes instead of the next, if any does
pub record PacketsLeft : Type 0 where
  pub packets : List PacketParts
  pub fault : Option ViewFault

abbrev pub no_packet : Option ViewFault → PacketsLeft
no_packet fault = record { packets = []; fault = fault }

abbrev pub after_packets : List PacketParts → PacketsLeft → PacketsLeft
after_packets packets left = record { packets = packets ++ left.packets; fault = left.fault }

-- The packets of the stream in what is found from some place on, up to the first fault. The first of them has
-- `parts` of the pages before.
unfoldable pub packets_from : ℕ → Behind → List Part → List FoundPage → PacketsLeft
packets_from serial behind parts [] = no_packet (if is_some_part parts then Some Unfinished else None)
packets_from serial behind parts (Err fault ∷ found) = no_packet (Some (PageIsAtFault fault.0 fault.1))
packets_from serial behind parts (Ok place ∷ found) =
    if nat_eq place.1.serial serial
    then elim (misplaced behind (is_some_part parts) place.0 place.1) [
      | Some fault ↦ no_packet (Some fault)
      | None ↦ after_packets
          (packets_in (position_in place.1) parts (body_place place.0 place.1) 0 place.1.lacing place.1.body)
          (packets_from serial (behind_page place.1) (parts_behind parts (body_place place.0 place.1) 0 place.1.lacing place.1.body) found)
    ]
    else packets_from serial behind parts found

-- the packets of the stream in these bytes, and the fault after them, if there is one
abbrev pub packets_of : ℕ → List ℕ → PacketsLeft
packets_of serial bytes = packets_from serial (record { number = None; ended = false }) [] (found_in 0 bytes)
