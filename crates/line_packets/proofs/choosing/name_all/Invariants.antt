use Rattle.std.proofs.Common.{◌≡◌, ◌++◌, List, length}
use Rattle.line_packets.specs.Choosing.{NamesAll}
use Rattle.line_packets.specs.declared.choosing.Named.{Named}
use Rattle.line_packets.proofs.choosing.name_all.Given as goal

abbrev pub invariant-loop-packet : goal.invariant-loop-packet
invariant-loop-packet l = (before : List Named) × (l.names.items ≡ l.fn.names.items ++ before)
    × ((more : List Named) → NamesAll l.rest more → NamesAll l.packets (before ++ more))

abbrev pub decreases-loop-packet : goal.decreases-loop-packet
decreases-loop-packet l = length l.rest
