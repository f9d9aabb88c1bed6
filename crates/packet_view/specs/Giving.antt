-- What one call returns, and what is left.
use Rattle.std.specs.Prelude.{◌≡◌, ℕ, Option, Some, None, Result, Ok, Err, [], ◌∷◌}
use Rattle.packet_view.specs.Packets.{PacketParts, PacketsLeft, no_packet, after_packets}
use Rattle.packet_view.specs.Walking.{packets_at}
use Rattle.packet_view.specs.declared.place.Place.{Place}
use Rattle.packet_view.specs.declared.fault.ViewFault.{ViewFault}

-- the next packet and the place after it; or that there is none; or the fault
abbrev pub Gives : ℕ → PacketsLeft → Result (Option (PacketParts × Place)) ViewFault → Type 0
Gives serial left (Err fault) = left ≡ no_packet (Some fault)
Gives serial left (Ok None) = left ≡ no_packet None
Gives serial left (Ok (Some found)) = left ≡ after_packets (found.0 ∷ []) (packets_at serial found.1 [])

-- A call takes the first of the packets that are left. If none is left it returns the fault or the end, and so does
-- each later call.
abbrev pub TakesFirst : PacketsLeft → Result (Option PacketParts) ViewFault → PacketsLeft → Type 0
TakesFirst old (Ok (Some packet)) new = old ≡ after_packets (packet ∷ []) new
TakesFirst old (Ok None) new = (old ≡ no_packet None) × (new ≡ old)
TakesFirst old (Err fault) new = (old ≡ no_packet (Some fault)) × (new ≡ old)
