use Rattle.std.proofs.Common.{◌≡◌, ◌++◌, List, ℕ, length}
use Rattle.line_packets.specs.Choosing.{AreLines}
use Rattle.line_packets.proofs.choosing.put_lines.Given as goal

abbrev pub invariant-loop-packet : goal.invariant-loop-packet
invariant-loop-packet l = (before : List ℕ) × (l.lines.items ≡ l.fn.lines.items ++ before)
    × ((text : List ℕ) → AreLines l.json l.told l.rest text → AreLines l.json l.told l.packets (before ++ text))

abbrev pub decreases-loop-packet : goal.decreases-loop-packet
decreases-loop-packet l = length l.rest
