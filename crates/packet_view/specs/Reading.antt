-- The packets that are still to come.
use Rattle.std.specs.Prelude.{ℕ, []}
use Rattle.packet_view.specs.Packets.{PacketsLeft, no_packet}
use Rattle.packet_view.specs.Walking.{packets_at}
use Rattle.packet_view.specs.declared.packets.Reading.{Reading}
use Rattle.packet_view.specs.declared.packets.Reading.TheVariants.{From, Over}

abbrev pub packets_left_in : ℕ → Reading → PacketsLeft
packets_left_in serial (From place) = packets_at serial place []
packets_left_in serial (Over fault) = no_packet fault
