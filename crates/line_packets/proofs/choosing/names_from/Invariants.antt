use Rattle.std.proofs.Common.{◌++◌, List, length}
use Rattle.line_packets.specs.Choosing.{NamesFrom}
use Rattle.line_packets.specs.declared.choosing.Named.{Named}
use Rattle.line_packets.proofs.choosing.names_from.Given as goal

abbrev pub invariant-loop-stream : goal.invariant-loop-stream
invariant-loop-stream l = (more : List Named) → NamesFrom l.rest more → NamesFrom l.streams (l.names.items ++ more)

abbrev pub decreases-loop-stream : goal.decreases-loop-stream
decreases-loop-stream l = length l.rest
