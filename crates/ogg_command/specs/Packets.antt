-- The packets of a command, each with the position that its stream reaches with it.
use Rattle.std.specs.Prelude.{ℕ, List}
use Rattle.packetiser.specs.Run.{Timed}
use Rattle.ogg_command.specs.declared.command.Entry.{Entry}

-- a header packet, which has position 0
abbrev pub header : List ℕ → Timed
header packet = record { position = 0; packet = packet }

-- a packet of a put
abbrev pub timed : Entry → Timed
timed entry = record { position = entry.position; packet = entry.packet }
